use Rattle.std.proofs.Common.{◌≡◌, ℕ}
use Rattle.std.specs.Ordering.{nat_cmp}
use Rattle.std.specs.BTreeMap.{IsOrdered, get}
use Rattle.wu_view.specs.Groups.{paths_of, unless_empty}
use Rattle.wu_view.proofs.groups.by_file.Given as goal

abbrev pub invariant-loop-ino : goal.invariant-loop-ino
invariant-loop-ino l = record {
  paths : (ino : ℕ) → get nat_cmp l.files ino ≡ unless_empty (paths_of ino l.yielded);
  ordered : IsOrdered nat_cmp l.files;
}
