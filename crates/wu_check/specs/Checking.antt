-- What is found of the texts and the parts of a checkpoint.
use Rattle.std.specs.Prelude.{◌≡◌, ℕ}
use Rattle.std.specs.List.{AllByRecursion}
use Rattle.wu_outside.specs.Content.{Content}
use Rattle.wu_image.specs.declared.checkpoints.Checkpoint.{Checkpoint}
use Rattle.wu_check.specs.Wrong.{AreSoundTexts, IsSoundPart, IsWrongIndex, counts_of, parts_of}
use Rattle.wu_check.specs.declared.checking.Checked.{Checked}
use Rattle.wu_check.specs.declared.checking.Checked.TheVariants.{Sound, Broken}

-- nothing is wrong, and this is counted
pub record IsSoundIndex (content : Content) (version : ℕ) (checkpoint : Checkpoint) (counts : Checked) : Type 0 where
  pub texts : AreSoundTexts content checkpoint.files
  pub parts : AllByRecursion (IsSoundPart content checkpoint.files) (parts_of version checkpoint)
  pub counted : counts ≡ counts_of version checkpoint.files (parts_of version checkpoint)

abbrev pub IsIndexChecked : Content → ℕ → Checkpoint → Checked → Type 0
IsIndexChecked content version checkpoint (Sound files live stored parts) =
    IsSoundIndex content version checkpoint (Sound files live stored parts)
IsIndexChecked content version checkpoint (Broken blob) = IsWrongIndex content checkpoint.files (parts_of version checkpoint) blob
