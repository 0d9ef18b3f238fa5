use Rattle.std.proofs.Common.{drop}
use Rattle.wu_vbyte.proofs.NumberLemmas.{Reads}
use Rattle.wu_vbyte.proofs.numbers.next_groups.Given as goal

abbrev pub invariant-loop-at : goal.invariant-loop-at
invariant-loop-at l = Reads l.bytes (drop l.at l.bytes) l.number l.shift
