use Rattle.std.proofs.Common.{◌≡◌, take}
use Rattle.std.specs.Prelude.{map}
use Rattle.wu_tree.proofs.acls.acls_of.Given as goal

abbrev pub invariant-loop-ino : goal.invariant-loop-ino
invariant-loop-ino l = l.kept.entries ≡ map (λ acl. acl) (take l.ino-index l.acls)
