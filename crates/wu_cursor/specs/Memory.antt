-- What is remembered of expressions in a frame.
use Rattle.std.specs.Prelude.{ℕ, Bool, List, All, Option, MatchOption, ⊤}
use Rattle.wu_base.specs.declared.addresses.Extent.{Extent}
use Rattle.wu_base.specs.declared.addresses.Range.{Range}
use Rattle.wu_base.specs.declared.addresses.TermList.{TermList}
use Rattle.wu_gcl.specs.Regions.{Region, region_of}
use Rattle.wu_cursor.specs.declared.directions.Direction.{Direction}
use Rattle.wu_cursor.specs.declared.directions.Direction.TheVariants.{Forward, Backward}
use Rattle.wu_cursor.specs.declared.memory.Answers.{Answers}
use Rattle.wu_cursor.specs.declared.memory.Found.{Found}
use Rattle.wu_cursor.specs.declared.memory.Slot.{Slot}
use Rattle.wu_cursor.specs.Within.{set_in, IsNearest, NoneReached, IsFarEnd}

-- the nearest extent of the set from the place on, or none
abbrev pub IsNearestIn : Direction → ℕ → (Extent → Bool) → ℕ → Option Extent → Type 0
IsNearestIn direction n set place extent = MatchOption extent (NoneReached direction n set place) (IsNearest direction n set place)

-- the nearest extent of the expression from the place on, or none
abbrev pub IsNearestOf : Direction → Region → List TermList → Range → ℕ → Option Extent → Type 0
IsNearestOf direction region lists frame place extent = IsNearestIn direction frame.len (set_in region lists frame) place extent

-- the far end of the nearest extent of the expression from the place on, or none
abbrev pub IsFarEndOf : Direction → Region → List TermList → Range → ℕ → Option ℕ → Type 0
IsFarEndOf direction region lists frame place end =
    MatchOption end (NoneReached direction frame.len (set_in region lists frame) place)
    (IsFarEnd direction frame.len (set_in region lists frame) place)

-- both answers are right for the set
pub record AreAnswers (direction : Direction) (n : ℕ) (set : Extent → Bool) (answers : Answers) : Type 0 where
  pub last : MatchOption answers.last ⊤ (λ f. IsNearestIn direction n set f.place f.extent)
  pub before : MatchOption answers.before ⊤ (λ f. IsNearestIn direction n set f.place f.extent)

-- all that is remembered of an expression is right
pub record IsRight (lists : List TermList) (frame : Range) (slot : Slot) : Type 0 where
  pub forward : AreAnswers Forward frame.len (set_in (region_of slot.expr.now) lists frame) slot.forward
  pub backward : AreAnswers Backward frame.len (set_in (region_of slot.expr.now) lists frame) slot.backward

-- what is remembered in the direction
abbrev pub answers_in : Direction → Slot → Answers
answers_in Forward slot = slot.forward
answers_in Backward slot = slot.backward

-- all that is remembered is right
abbrev pub AreRight : List TermList → Range → List (Option Slot) → Type 0
AreRight lists frame memory = All (λ slot. MatchOption slot ⊤ (IsRight lists frame)) memory

-- what an answer tells of another place: a set has the same nearest extent from there on
abbrev pub IsKnown : Direction → Option Found → ℕ → Option (Option Extent) → Type 0
IsKnown direction found place result = (n : ℕ) (set : Extent → Bool)
    → MatchOption found ⊤ (λ f. IsNearestIn direction n set f.place f.extent)
    → MatchOption result ⊤ (IsNearestIn direction n set place)
