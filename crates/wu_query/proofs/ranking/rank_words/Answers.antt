use Rattle.std.proofs.Common.{◌∙◌, refl}
use Rattle.wu_query.proofs.RankLemmas.{ranked}
use Rattle.wu_query.proofs.ranking.rank_words.Goals as goal

pub returns : goal.returns
returns c = λ s uid is region units words told.
    ranked c.args.frames.now c.args.space.now.ranges s uid is region words c.args.units.now units c.args.lists.now told
    c.args.k c.in_ok-listed.field-0.listed c.as_slice.result.now c.from.result c.args.frames.now.seen refl
    c.in_ok-listed.ensures.listed (c.as_slice.ensures ∙ c.in_ok-listed.ensures.top)
    (λ texts. c.from.ensures ∙ c.in_ok-shown.ensures texts)
