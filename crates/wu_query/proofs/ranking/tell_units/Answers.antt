use Rattle.wu_query.proofs.AnswerLemmas.{if_ok}
use Rattle.wu_query.proofs.ranking.tell_units.Goals as goal

pub returns-in-Best : goal.returns-in-Best
returns-in-Best c = rw c.in-Best.is c.rank_words.ensures

pub returns-in-Weighed : goal.returns-in-Weighed
returns-in-Weighed c =
    rw c.in-Weighed.is
    (if_ok c.weigh_words.result c.weigh_words.ensures
    (λ answered known. λ s uid. known c.args.frames.now c.args.space.now.ranges s uid))
