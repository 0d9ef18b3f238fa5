-- How far a job has gone through the terms of its parts.
use Rattle.std.specs.Prelude.{◌≡◌, ℕ, ◌+◌, ◌<◌, ◌≤◌, nat_eq, if◌then◌else◌, Option, None, Some, List, [], ◌∷◌, ◌++◌, length, map, take}
use Rattle.std.specs.Prelude.{drop}
use Rattle.std.specs.Ordering.{nat_cmp, is_lt}
use Rattle.std.specs.Cmp.Lexicographic.{slice_cmp, pointwise}
use Rattle.std.specs.List.{AllByRecursion}
use Rattle.std.specs.List.Sorted.{IsStrictlySortedBy}
use Rattle.std.specs.declared.cmp.Ordering.{Ordering}
use Rattle.std.specs.declared.cmp.Ordering.TheVariants.{Less, Greater}
use Rattle.wu_base.specs.SortedOnce.{sorted_once}
use Rattle.wu_base.specs.declared.limits.TheConstants.{ADDRESSES_MAX, WORD_MAX}
use Rattle.wu_part.specs.declared.entries.TermEntry.{TermEntry}
use Rattle.wu_part.specs.Directories.{IsEntry}
use Rattle.wu_part.specs.Parts.{IsRecorded}
use Rattle.wu_job.specs.declared.sources.Places.{Places}
use Rattle.wu_job.specs.declared.sources.Source.{Source}
use Rattle.wu_job.specs.Jobs.{JobPart}

abbrev pub part_of : Source → JobPart
part_of source = record { recorded = source.recorded; directory = source.directory }

-- the parts of a job with these sources
abbrev pub parts_of : Source → Option Source → List JobPart
parts_of left None = part_of left ∷ []
parts_of left (Some right) = part_of left ∷ part_of right ∷ []

abbrev pub terms_of : Source → List (List ℕ)
terms_of source = map (λ entry. entry.term) source.directory.terms

abbrev pub terms_of_other : Option Source → List (List ℕ)
terms_of_other None = []
terms_of_other (Some source) = terms_of source

-- terms of a directory: they ascend, have 1 to WORD_MAX bytes, and there are fewer than addresses
pub record AreTerms (terms : List (List ℕ)) : Type 0 where
  pub ascending : IsStrictlySortedBy (slice_cmp nat_cmp) terms
  pub bounded : AllByRecursion (λ term. (0 < length term) × (length term ≤ WORD_MAX)) terms
  pub few : length terms ≤ ADDRESSES_MAX

-- the entries of a part's directory lie within its span, which is below the limit
pub record HasEntries (part : JobPart) : Type 0 where
  pub entries : AllByRecursion (IsEntry part.directory.low part.directory.high) part.directory.terms
  pub below : part.directory.high < ADDRESSES_MAX

-- what holds of the directories
pub record AreWhole (left : Source) (right : Option Source) : Type 0 where
  pub terms : AreTerms (terms_of left)
  pub others : AreTerms (terms_of_other right)
  pub entries : AllByRecursion HasEntries (parts_of left right)

-- the terms of two lists, each of them once
abbrev pub merged : List (List ℕ) → List (List ℕ) → List (List ℕ)
merged terms others = sorted_once (slice_cmp nat_cmp) (terms ++ others)

-- the terms from the places on
abbrev pub terms_from : Source → Option Source → Places → List (List ℕ)
terms_from left right places = merged (drop places.left (terms_of left)) (drop places.right (terms_of_other right))

-- the lesser term of two
abbrev pub lesser_of : Option (List ℕ) → Option (List ℕ) → Option (List ℕ)
lesser_of None b = b
lesser_of (Some a) None = Some a
lesser_of (Some a) (Some b) = if is_lt (slice_cmp nat_cmp b a) then Some b else Some a

-- how two terms compare: one alone is before what isn't there
abbrev pub order_of : Option (List ℕ) → Option (List ℕ) → Option Ordering
order_of None None = None
order_of None (Some b) = Some Greater
order_of (Some a) None = Some Less
order_of (Some a) (Some b) = Some (slice_cmp nat_cmp a b)

-- the entry, where there is one, and the others
abbrev pub with_entry : Option TermEntry → List TermEntry → List TermEntry
with_entry None rest = rest
with_entry (Some entry) rest = entry ∷ rest

-- the place after the term, where it is the one at the place
abbrev pub passed : Option (List ℕ) → List ℕ → ℕ → ℕ
passed None term place = place
passed (Some head) term place = if pointwise nat_eq head term then place + 1 else place

-- the terms before the place are before all that are left
abbrev pub ArePassed : List (List ℕ) → ℕ → List (List ℕ) → Type 0
ArePassed terms place left = AllByRecursion (λ term. AllByRecursion (λ later. slice_cmp nat_cmp term later ≡ Less) left) (take place terms)

abbrev pub AreAllPassed : Source → Option Source → Places → Type 0
AreAllPassed left right places =
    ArePassed (terms_of left) places.left (terms_from left right places)
    × ArePassed (terms_of_other right) places.right (terms_from left right places)

-- the part is recorded as its directory tells
abbrev pub IsRecordedSource : Source → Type 0
IsRecordedSource source = IsRecorded source.recorded source.directory

-- so are both, and the one part's addresses are below the other's
abbrev pub AreSources : Source → Option Source → Type 0
AreSources left None = IsRecordedSource left
AreSources left (Some right) =
    IsRecordedSource left × IsRecordedSource right × (left.directory.high < right.directory.low)
