use Rattle.std.proofs.Common.{◌∙◌, ap, length}
use Rattle.wu_query.proofs.RankLemmas.{weighed}
use Rattle.wu_query.proofs.ranking.weigh_words.Goals as goal

pub returns : goal.returns
returns c = λ frames live s uid is region units words told.
    weighed frames live s uid is region words c.args.units.now units c.args.lists.now told c.args.k
    c.in_ok-ranking.field-0.ranking.listed c.len.result c.in_ok-ranking.ensures.listed
    (c.len.ensures ∙ ap length c.in_ok-ranking.ensures.weighed)
