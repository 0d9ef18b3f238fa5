use Rattle.std.proofs.Common.{refl, arith}
use Rattle.wu_rank.specs.Bm25.{weigh}
use Rattle.wu_rank.proofs.Weights.{weigh-lt}
use Rattle.wu_rank.proofs.bm25.bm25_weigh.Goals as goal

pub overflow_cast-result : goal.overflow_cast-result
unfolding weigh
overflow_cast-result c =
    rw (c.from.ensures, c.from-frequency.ensures, c.from-2.ensures, c.from-3.ensures)
    (omega (arith, weigh-lt c.args.idf c.args.f c.args.l c.args.n c.args.t c.requires.range.rarity))

pub returns : goal.returns
unfolding weigh
returns c = rw (c.from.ensures, c.from-frequency.ensures, c.from-2.ensures, c.from-3.ensures) refl
