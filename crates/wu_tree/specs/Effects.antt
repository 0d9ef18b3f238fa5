-- What the effect of an accepted event tells of the files.
use Rattle.std.specs.Prelude.{◌≡◌, ◌≢◌, ◌↔◌, ◌⊎◌, ℕ, IsTrue, Some, Ok}
use Rattle.wu_tree.specs.declared.events.Event.{Event}
use Rattle.wu_tree.specs.declared.events.Effect.{Effect}
use Rattle.wu_tree.specs.FileSystems.{FileSystem, is_file}
use Rattle.wu_tree.specs.Steps.{step}

pub record TellsFiles (before : FileSystem) (effect : Effect) (after : FileSystem) : Type 0 where
  -- a node is a regular file where it isn't dropped, and is made or was one
  pub files : (ino : ℕ)
      → IsTrue (is_file after ino) ↔ ((effect.dropped ≢ Some ino) × ((effect.made ≡ Some ino) ⊎ IsTrue (is_file before ino)))
  -- no file is both made and dropped
  pub apart : (ino : ℕ) → effect.made ≡ Some ino → effect.dropped ≢ Some ino
  -- a text is given to a file that is there
  pub text : (ino : ℕ) → effect.texted ≡ Some ino → IsTrue (is_file after ino)

abbrev pub EffectsTellFiles : FileSystem → Type 0
EffectsTellFiles fs = (event : Event) (after : FileSystem) (effect : Effect) → step fs event ≡ Ok (after, effect)
    → TellsFiles fs effect after
