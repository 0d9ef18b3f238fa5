-- What an event changes, and whom it spares.
use Rattle.std.specs.Prelude.{ℕ, Bool}
use Rattle.wu_tree.specs.FileSystems.{FileSystem}
use Rattle.wu_frames.specs.declared.changes.Change.{Change}
use Rattle.wu_frames.specs.declared.changes.Change.TheVariants.{PermOf, Links}
use Rattle.wu_frames.specs.Permissions.{grants_as_before}
use Rattle.wu_frames.specs.Links.{sees_none}

-- whether the change is none for the user: the node grants her what it granted before, or she sees none of the links
abbrev pub is_spared : FileSystem → Change → ℕ → Bool
is_spared fs (PermOf ino before acl) uid = grants_as_before fs ino before acl uid
is_spared fs (Links links) uid = sees_none fs links uid
