use Rattle.wu_solve.specs.Addresses.{stands_by}
use Rattle.wu_cursor.proofs.Leaps.{Backward}
use Rattle.wu_cursor.proofs.phrases.leap_back.Given as goal

abbrev pub invariant-loop-i : goal.invariant-loop-i
invariant-loop-i l = Backward (stands_by l.lists l.frame.start) l.words l.frame.len l.to l.place l.i
