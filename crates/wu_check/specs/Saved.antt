-- When a checkpoint is the root's, beside its bytes.
use Rattle.std.specs.Prelude.{◌≡◌, ◌≢◌, ◌≤◌}
use Rattle.std.specs.List.{AllByRecursion}
use Rattle.wu_image.specs.declared.checkpoints.Checkpoint.{Checkpoint}
use Rattle.wu_image.specs.declared.roots.Root.{Root}

-- The checkpoint has the root's numbers, and names its own blob for no text and no part. In the second version it tells no more flushes
-- than addresses.
pub record IsOwn (root : Root) (checkpoint : Checkpoint) : Type 0 where
  pub next_address : checkpoint.next_address ≡ root.next_address
  pub next_blob : checkpoint.next_blob ≡ root.next_blob
  pub of_no_text : AllByRecursion (λ file. file.blob ≢ root.checkpoint) checkpoint.files
  pub of_no_part : AllByRecursion (λ part. part.blob ≢ root.checkpoint) checkpoint.parts
  pub flushes : root.version ≡ 2 → checkpoint.flushes ≤ checkpoint.next_address
