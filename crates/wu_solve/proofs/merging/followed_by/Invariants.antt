use Rattle.std.proofs.Common.{◌≡◌, ◌++◌, drop}
use Rattle.wu_solve.proofs.Spans.{spans}
use Rattle.wu_solve.proofs.merging.followed_by.Given as goal

abbrev pub invariant-loop-i : goal.invariant-loop-i
invariant-loop-i l = l.found.items ++ spans (drop l.i l.left) l.rest ≡ spans l.left l.right
