use Rattle.std.proofs.Common.{◌≤◌}
use Rattle.wu_parts_tests.proofs.many.put_files.Given as goal

abbrev pub invariant-loop-ino : goal.invariant-loop-ino
invariant-loop-ino l = l.parts.memory.end ≤ l.space.next
