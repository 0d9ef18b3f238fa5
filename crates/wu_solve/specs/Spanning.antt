-- What stands near extents: spans from one address to another, as lines and files are, and single addresses.
use Rattle.std.specs.Prelude.{◌≡◌, ◌⊎◌, ℕ, ◌+◌, ◌<◌, ◌≤◌, Bool, true, false, nat_le, nat_lt, List, [], ◌∷◌, ◌++◌, filter, Option, None}
use Rattle.std.specs.Prelude.{Some, if◌then◌else◌}
use Rattle.wu_base.specs.declared.addresses.Extent.{Extent}
use Rattle.wu_base.specs.declared.addresses.Range.{Range}
use Rattle.wu_base.specs.declared.addresses.TermList.{TermList}
use Rattle.wu_gcl.specs.Extents.{holds}
use Rattle.wu_gcl.specs.Regions.{Region}
use Rattle.wu_solve.specs.Addresses.{is_among}
use Rattle.wu_solve.specs.Frames.{lies_in_one}
use Rattle.wu_solve.specs.Listing.{IsAscending, Has}
use Rattle.wu_solve.specs.Solving.{frames_hits}

-- from one of the starts to one of the ends behind it, with none of either between them
pub record IsSpanOf (starts ends : List ℕ) (x : Extent) : Type 0 where
  pub from_start : is_among starts x.start ≡ true
  pub to_end : is_among ends x.end ≡ true
  pub forward : x.start < x.end
  pub no_start : (a : ℕ) → is_among starts a ≡ true → x.start < a → x.end ≤ a
  pub no_end : (a : ℕ) → is_among ends a ≡ true → x.start < a → x.end ≤ a

-- one of the two holds the other
abbrev pub IsNear : Extent → Extent → Type 0
IsNear x y = (holds x y ≡ true) ⊎ (holds y x ≡ true)

-- Some of the spans that lie in one of the frames, and each of these that stands near one of the extents.
pub record AreSpansNear (starts ends : List ℕ) (frames : List Range) (extents xs : List Extent) : Type 0 where
  pub ascending : IsAscending xs
  pub sound : (y : Extent) → Has xs y → IsSpanOf starts ends y × (lies_in_one frames y ≡ true)
  pub complete : (x y : Extent) → Has extents x → IsNear x y → IsSpanOf starts ends y → lies_in_one frames y ≡ true → Has xs y

-- one of the addresses
pub record IsPlaceOf (addresses : List ℕ) (x : Extent) : Type 0 where
  pub alone : x.start ≡ x.end
  pub among : is_among addresses x.start ≡ true

-- The addresses that stand near one of the extents, each as an extent.
pub record ArePlacesNear (addresses : List ℕ) (extents xs : List Extent) : Type 0 where
  pub ascending : IsAscending xs
  pub sound : (y : Extent) → Has xs y → IsPlaceOf addresses y × ((x : Extent) × Has extents x × (holds x y ≡ true))
  pub complete : (x y : Extent) → Has extents x → IsNear x y → IsPlaceOf addresses y → Has xs y

-- Some of the expression's extents, and each of them that stands near one of the others.
pub record AreHitsNear (region : Region) (lists : List TermList) (frames : List Range) (extents xs : List Extent) : Type 0 where
  pub ascending : IsAscending xs
  pub sound : (y : Extent) → Has xs y → Has (frames_hits region lists frames) y
  pub complete : (x y : Extent) → Has extents x → IsNear x y → Has (frames_hits region lists frames) y → Has xs y

-- ---- what private functions give

-- there is a first, and it is below the bound
abbrev pub first_below : ℕ → List ℕ → Bool
first_below bound [] = false
first_below bound (a ∷ more) = nat_lt a bound

abbrev pub ends_after : ℕ → List ℕ → List ℕ
ends_after start ends = filter (λ a. nat_le (start + 1) a) ends

abbrev pub span_to : ℕ → List ℕ → List ℕ → Option Extent
span_to start later [] = None
span_to start later (end ∷ ends) = if first_below end later then None else Some (record { start = start; end = end })

-- the span that begins at the first of the starts, if there is one
abbrev pub first_span : List ℕ → List ℕ → Option Extent
first_span [] ends = None
first_span (start ∷ later) ends = span_to start later (ends_after start ends)

abbrev pub listed : Option Extent → List Extent
listed None = []
listed (Some x) = x ∷ []

-- those that begin at the bound or before it
abbrev pub spans_to : ℕ → List ℕ → List ℕ → List Extent
spans_to bound [] ends = []
spans_to bound (start ∷ later) ends =
    if nat_le start bound then listed (first_span (start ∷ later) ends) ++ spans_to bound later ends else []

-- the addresses beyond the bound
abbrev pub beyond : ℕ → List ℕ → List ℕ
beyond bound [] = []
beyond bound (start ∷ later) = if nat_le start bound then beyond bound later else start ∷ later

-- the starts from the last one on that is below the bound
abbrev pub from_last : ℕ → List ℕ → List ℕ
from_last bound [] = []
from_last bound (start ∷ later) = if first_below bound later then from_last bound later else start ∷ later

-- as far as they lie in one of the frames
abbrev pub lying_spans : List Range → ℕ → List ℕ → List ℕ → List Extent
lying_spans frames bound starts ends = filter (lies_in_one frames) (spans_to bound starts ends)

-- the addresses up to a bound, each as an extent
abbrev pub places_to : ℕ → List ℕ → List Extent
places_to bound [] = []
places_to bound (a ∷ more) = if nat_le a bound then record { start = a; end = a } ∷ places_to bound more else []
