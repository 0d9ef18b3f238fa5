-- The access functions of a set of extents in a text of n places.
use Rattle.std.specs.Prelude.{◌≡◌, ℕ, ◌<◌, ◌≤◌, ◌&&◌, Bool, true, false, not, List}
use Rattle.wu_base.specs.declared.addresses.Extent.{Extent}
use Rattle.wu_base.specs.declared.addresses.Range.{Range}
use Rattle.wu_base.specs.declared.addresses.TermList.{TermList}
use Rattle.wu_gcl.specs.declared.expressions.Op.{Op}
use Rattle.wu_gcl.specs.declared.expressions.Op.TheVariants.{Containing, ContainedIn, NotContaining, NotContainedIn, OneOf, BothOf}
use Rattle.wu_gcl.specs.declared.expressions.Op.TheVariants.{FollowedBy}
use Rattle.wu_gcl.specs.Regions.{Region, Phrase, Mark, WholeFile, WholeLine, Window, Both}
use Rattle.wu_gcl.specs.Extents.{holds, some_extent, is_in}
use Rattle.wu_solve.specs.Addresses.{stands_by}
use Rattle.wu_solve.specs.Listing.{IsExtentIn}
use Rattle.wu_cursor.specs.declared.directions.Direction.{Direction}
use Rattle.wu_cursor.specs.declared.directions.Direction.TheVariants.{Forward, Backward}
use Rattle.wu_cursor.specs.Directions.{Reaches, Precedes, near, far}

-- the extents that the expression means in the frame, at places counted from its start
abbrev pub set_in : Region → List TermList → Range → Extent → Bool
set_in region lists frame = is_in region (stands_by lists frame.start) frame.len

-- an extent of the set
pub record IsMember (n : ℕ) (set : Extent → Bool) (x : Extent) : Type 0 where
  pub extent : IsExtentIn n x
  pub passes : set x ≡ true

-- the nearest extent from the place on: forward the first that starts there or after it, backward the last that ends there or before it
pub record IsNearest (direction : Direction) (n : ℕ) (set : Extent → Bool) (place : ℕ) (x : Extent) : Type 0 where
  pub member : IsMember n set x
  pub reached : Reaches direction place (near direction x)
  pub starts : (y : Extent) → IsMember n set y → Reaches direction place (near direction y) → Reaches direction x.start y.start
  pub ends : (y : Extent) → IsMember n set y → Reaches direction place (near direction y) → Reaches direction x.end y.end

-- there is none: each comes before the place
pub record NoneReached (direction : Direction) (n : ℕ) (set : Extent → Bool) (place : ℕ) : Type 0 where
  pub none : (y : Extent) → IsMember n set y → Precedes direction (near direction y) place

-- the far end of the nearest extent: forward where it ends, backward where it starts. No extent from the place on has one before it
pub record IsFarEnd (direction : Direction) (n : ℕ) (set : Extent → Bool) (place end : ℕ) : Type 0 where
  pub extent : Extent
  pub member : IsMember n set extent
  pub reached : Reaches direction place (near direction extent)
  pub same : far direction extent ≡ end
  pub least : (y : Extent) → IsMember n set y → Reaches direction place (near direction y) → Reaches direction end (far direction y)

-- the first extent that starts at the place or after it
abbrev pub IsFirst : ℕ → (Extent → Bool) → ℕ → Extent → Type 0
IsFirst = IsNearest Forward

-- no extent starts there or after it
abbrev pub NoneStarts : ℕ → (Extent → Bool) → ℕ → Type 0
NoneStarts = NoneReached Forward

-- where the first extent ends that starts at the place or after it
abbrev pub IsFirstEnd : ℕ → (Extent → Bool) → ℕ → ℕ → Type 0
IsFirstEnd = IsFarEnd Forward

-- the last extent that ends at the place or before it
abbrev pub IsLast : ℕ → (Extent → Bool) → ℕ → Extent → Type 0
IsLast = IsNearest Backward

-- no extent ends there or before it
abbrev pub NoneEnds : ℕ → (Extent → Bool) → ℕ → Type 0
NoneEnds = NoneReached Backward

-- where the last extent starts that ends at the place or before it
abbrev pub IsLastStart : ℕ → (Extent → Bool) → ℕ → ℕ → Type 0
IsLastStart = IsFarEnd Backward

-- the first extent that ends at the place or after it
pub record IsFirstEnding (n : ℕ) (set : Extent → Bool) (from : ℕ) (x : Extent) : Type 0 where
  pub member : IsMember n set x
  pub low : from ≤ x.end
  pub starts : (y : Extent) → IsMember n set y → from ≤ y.end → x.start ≤ y.start

-- no extent ends there or after it
pub record NoneEndsFrom (n : ℕ) (set : Extent → Bool) (from : ℕ) : Type 0 where
  pub none : (y : Extent) → IsMember n set y → y.end < from

-- the expression has no operator
abbrev pub IsOperand : Region → Type 0
IsOperand (Phrase words) = Unit {0}
IsOperand (Mark tag) = Unit {0}
IsOperand WholeFile = Unit {0}
IsOperand WholeLine = Unit {0}
IsOperand (Window n) = Unit {0}
IsOperand (Both op left right) = ⊥

-- the operator keeps extents of its left operand
abbrev pub IsContainment : Op → Type 0
IsContainment Containing = Unit {0}
IsContainment ContainedIn = Unit {0}
IsContainment NotContaining = Unit {0}
IsContainment NotContainedIn = Unit {0}
IsContainment OneOf = ⊥
IsContainment BothOf = ⊥
IsContainment FollowedBy = ⊥

-- the expression is a containment
abbrev pub AreKept : Region → Type 0
AreKept (Phrase words) = ⊥
AreKept (Mark tag) = ⊥
AreKept WholeFile = ⊥
AreKept WholeLine = ⊥
AreKept (Window n) = ⊥
AreKept (Both op left right) = IsContainment op

-- which extents a containment keeps, by the right set
abbrev pub keeps : Op → ℕ → (Extent → Bool) → Extent → Bool
keeps Containing n right x = some_extent n (λ y. holds x y && right y)
keeps ContainedIn n right x = some_extent n (λ y. holds y x && right y)
keeps NotContaining n right x = not (some_extent n (λ y. holds x y && right y))
keeps NotContainedIn n right x = not (some_extent n (λ y. holds y x && right y))
keeps OneOf n right x = false
keeps BothOf n right x = false
keeps FollowedBy n right x = false
