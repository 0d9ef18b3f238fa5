-- The access lists of a tree are lists that a node may have.
use Rattle.std.proofs.Common.{ℕ, List}
use Rattle.std.specs.List.{AllByRecursion}
use Rattle.wu_base.proofs.MapEntries.{All-map}
use Rattle.wu_access.specs.declared.acls.Acl.{Acl}
use Rattle.wu_access.specs.Access.{IsAcl}
use Rattle.wu_tree.specs.FileSystems.{FileSystem}
use Rattle.wu_tree.specs.Rules.{IsAclOf, IsTree}

pub sound_lists : (fs : FileSystem) → IsTree fs → AllByRecursion (λ (acl : ℕ × Acl). IsAcl acl.1) fs.acls
sound_lists fs tree = All-map (IsAclOf fs) (λ (acl : ℕ × Acl). IsAcl acl.1) fs.acls (λ acl both. both.1) tree.acls
