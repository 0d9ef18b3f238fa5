use Rattle.std.proofs.Common.{◌≡◌}
use Rattle.wu_view.specs.Groups.{seen_in}
use Rattle.wu_view.proofs.groups.seen.Given as goal

abbrev pub invariant-loop-ino : goal.invariant-loop-ino
invariant-loop-ino l = l.seen.items ≡ seen_in l.yielded
