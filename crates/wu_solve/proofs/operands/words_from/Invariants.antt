use Rattle.wu_solve.specs.Addresses.{has_address}
use Rattle.wu_solve.specs.Prefixes.{PrefixStands}
use Rattle.wu_solve.proofs.operands.words_from.Given as goal

abbrev pub invariant-loop-count : goal.invariant-loop-count
invariant-loop-count l = PrefixStands (has_address l.lists) l.words l.address l.count
