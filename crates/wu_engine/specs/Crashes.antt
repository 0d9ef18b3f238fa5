-- What a crash leaves of the store under an engine: an image of the state that was saved last, or of the one that a save makes.
use Rattle.std.specs.Prelude.{◌⊎◌, ◌≤◌, Option, Some}
use Rattle.wu_outside.specs.Content.{Content}
use Rattle.wu_outside.specs.Crash.{Moments}
use Rattle.wu_outside.specs.Surviving.{LeavesNow}
use Rattle.wu_query.specs.States.{State}
use Rattle.wu_engine.specs.Opening.{HoldsImage}

-- the content is an image of the state
abbrev pub IsImageOf : State → Content → Type 0
IsImageOf s content = HoldsImage (Some content) s

-- it is an image of one of the two
abbrev pub IsImageOfEither : State → State → Content → Type 0
IsImageOfEither last next content = IsImageOf last content ⊎ IsImageOf next content

-- A crash now leaves only images of the state that was saved last, and no blob that is drawn from now on is one that it names.
pub record IsSavedLast (moments : Option Moments) (s last : State) : Type 0 where
  pub left : LeavesNow moments (IsImageOf last)
  pub below : last.layout.blob ≤ s.layout.blob
