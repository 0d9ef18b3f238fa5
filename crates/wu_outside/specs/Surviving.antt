-- What a layer above says of crashes, without looking into one: of a store that tells what a crash leaves, each content
-- that may be left, now or since an earlier moment, is of some kind.
use Rattle.std.specs.Prelude.{◌≡◌, ℕ, List, ◌++◌, ⊤, All, Option, None, Some}
use Rattle.wu_outside.specs.Content.{Content}
use Rattle.wu_outside.specs.Crash.{Moment, Moments, MayLeave, LeftNow, all_moments}

-- a crash now leaves only contents of this kind
abbrev pub LeavesNow : Option Moments → (Content → Type 0) → Type 0
LeavesNow None Kind = ⊤
LeavesNow (Some moments) Kind = (left : Content) → LeftNow moments left → Kind left

-- to the moments of old came some, at which a crash leaves only contents of this kind
pub record AddsMoments (old new : Moments) (Kind : Content → Type 0) : Type 0 where
  pub added : List Moment
  pub before : all_moments new ≡ added ++ all_moments old
  pub leaves : All (λ moment. (left : Content) → MayLeave moment left → Kind left) added

-- the same of what is told: who tells goes on telling
abbrev pub LeavesOnly : Option Moments → Option Moments → (Content → Type 0) → Type 0
LeavesOnly None new Kind = ⊤
LeavesOnly (Some old) None Kind = ⊥
LeavesOnly (Some old) (Some new) Kind = AddsMoments old new Kind

-- each content that may be left now, or by a crash since the moments of old, is of this kind
pub record Leaves (old new : Option Moments) (Kind : Content → Type 0) : Type 0 where
  pub since : LeavesOnly old new Kind
  pub now : LeavesNow new Kind

-- a crash now may leave it
abbrev pub IsLeft : Option Moments → Content → Type 0
IsLeft None left = ⊤
IsLeft (Some moments) left = LeftNow moments left

-- two contents with the same root and the same bytes in each of some blobs
pub record IsSameIn (Named : ℕ → Type 0) (one other : Content) : Type 0 where
  pub root : other.root ≡ one.root
  pub blobs : (blob : ℕ) → Named blob → other.blobs blob ≡ one.blobs blob

-- a kind of content that names only some blobs: all others don't matter
abbrev pub NamesOnly : (ℕ → Type 0) → (Content → Type 0) → Type 0
NamesOnly Named Kind = (one other : Content) → IsSameIn Named one other → Kind one → Kind other
