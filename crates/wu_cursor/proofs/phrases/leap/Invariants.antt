use Rattle.wu_solve.specs.Addresses.{stands_by}
use Rattle.wu_cursor.proofs.Leaps.{Forward}
use Rattle.wu_cursor.proofs.phrases.leap.Given as goal

abbrev pub invariant-loop-i : goal.invariant-loop-i
invariant-loop-i l = Forward (stands_by l.lists l.frame.start) l.words l.frame.len l.from l.place l.i
