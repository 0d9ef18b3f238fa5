use Rattle.std.proofs.Common.{arith}
use Rattle.wu_query.proofs.UnitLemmas.{total_least, total_short}
use Rattle.wu_query.proofs.ranking.statistics.Goals as goal

pub returns-clause-some_length : goal.returns-clause-some_length
returns-clause-some_length c = rw c.summed_length.ensures
    (total_least c.args.units.now c.is_empty.result c.requires.some c.is_empty.ensures c.if-is_empty.false)

pub returns-clause-short : goal.returns-clause-short
returns-clause-short c = omega (arith, c.summed_length.ensures, total_short c.args.units.now c.requires.short)
