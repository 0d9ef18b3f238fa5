-- The paths of a user's files, where her view is kept.
use Rattle.std.specs.Prelude.{◌≡◌, ◌⊎◌, ℕ, List, [], Option, Some, None, option_map, unwrap_or, Result, Err, IfErr, OnOk}
use Rattle.std.specs.List.{flat_map}
use Rattle.wu_base.specs.declared.troubles.Trouble.{Trouble}
use Rattle.wu_base.specs.declared.troubles.Trouble.TheVariants.{NoMemory}
use Rattle.wu_outside.specs.Content.{Content}
use Rattle.wu_view.specs.declared.Seen.{Seen}
use Rattle.wu_frames.specs.UserFrames.{Kept, frames_for}
use Rattle.wu_engine.specs.declared.engines.Engine.{Engine}
use Rattle.wu_engine.specs.Calls.{StillGoes}

-- the files of the user's view, by their least open paths; none where her view isn't kept
abbrev pub files_kept : Kept → ℕ → List Seen
files_kept kept uid = unwrap_or (option_map (λ frames. frames.seen) (frames_for kept uid)) []

-- their open paths, file by file
abbrev pub paths_of : List Seen → List (List ℕ)
paths_of files = flat_map (λ seen. seen.paths) files

-- all is as it was but which frames it keeps, and the trouble that ended it
pub record KeepsAllButFrames (before after : Engine) : Type 0 where
  pub tree : after.tree ≡ before.tree
  pub files : after.files ≡ before.files
  pub space : after.space ≡ before.space
  pub parts : after.parts ≡ before.parts
  pub checkpoint : after.checkpoint ≡ before.checkpoint

-- A call that asks no store comes out as others do: an engine that answers goes on, also over whatever the store held when it was opened,
-- and a trouble ends it and is answered again from then on, when nothing is changed. The one trouble that it meets is out of memory.
pub record AnswersUnasked {T : Type 0} (before after : Engine) (result : Result T Trouble) : Type 0 where
  pub goes_on : OnOk result (after.ended ≡ None)
  pub goes : (holds : Option Content) → StillGoes before after holds holds result
  pub ends : IfErr result (λ trouble. after.ended ≡ Some trouble)
  pub again : (trouble : Trouble) → before.ended ≡ Some trouble → (result ≡ Err trouble) × (after ≡ before)
  pub cause : IfErr result (λ trouble. (before.ended ≡ Some trouble) ⊎ (trouble ≡ NoMemory))
