use Rattle.std.proofs.Common.{◌<◌, length}
use Rattle.wu_solve.proofs.lookup.rarest.Given as goal

abbrev pub invariant-loop-i : goal.invariant-loop-i
invariant-loop-i l = l.rarest < length l.terms
