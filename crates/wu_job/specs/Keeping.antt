-- What a job keeps from step to step.
use Rattle.std.specs.Prelude.{◌≡◌, ℕ, ◌==◌, ◌<◌, ◌≤◌, Bool, true, false, Option, List, [], ◌∷◌, ◌++◌, eqb, length, map, drop, get_or}
use Rattle.std.specs.Ordering.{nat_cmp}
use Rattle.std.specs.Cmp.Lexicographic.{slice_cmp}
use Rattle.std.specs.List.{AllByRecursion, IsDistinct, flat_map, list_any}
use Rattle.std.specs.List.Sorted.{IsStrictlySortedBy}
use Rattle.wu_base.specs.declared.addresses.Range.{Range}
use Rattle.wu_base.specs.declared.addresses.TermList.{TermList}
use Rattle.wu_base.specs.declared.limits.TheConstants.{ADDRESSES_MAX, GENERATION_MAX, WORD_MAX}
use Rattle.wu_layout.specs.Ascending.{AscendBetween}
use Rattle.wu_layout.specs.Postings.{is_live}
use Rattle.wu_part.specs.Buildings.{Building}
use Rattle.wu_part.specs.Parts.{IsList}
use Rattle.wu_part.specs.declared.entries.TermEntry.{TermEntry}
use Rattle.wu_job.specs.Jobs.{JobPart, JobState, StandWithin, lowest, terms_of_part}
use Rattle.wu_job.specs.Reading.{IsFound}
use Rattle.wu_job.specs.Live.{AreRanked, first_from, live_below, ranges_alone, total_of}
use Rattle.wu_job.specs.Sources.{AreAllPassed, ArePassed, AreSources, merged, parts_of, terms_from}
use Rattle.wu_job.specs.declared.jobs.Job.TheInside as inside
use Rattle.wu_job.specs.declared.live.Cut.{Cut}
use Rattle.wu_job.specs.declared.sources.Places.{Places}

-- all addresses of the lists
abbrev pub addresses_in : List TermList → List ℕ
addresses_in lists = flat_map (λ list. list.at) lists

abbrev pub has : List ℕ → ℕ → Bool
has addresses address = list_any (λ other. other == address) addresses

-- each live address is marked exactly where it stands in one of the lists
pub record AreMarks (live : List Range) (marks : List Bool) (lists : List TermList) : Type 0 where
  pub long : length marks ≡ total_of live
  pub exact : (address : ℕ) → is_live live address ≡ true → get_or marks (live_below live address) false ≡ has (addresses_in lists) address

-- The lists that were made can be written as a part, and their terms are before those that are left.
pub record AreWritable (live : List Range) (lists : List TermList) (left : List (List ℕ)) : Type 0 where
  pub each : AllByRecursion IsList lists
  pub ascending : IsStrictlySortedBy (slice_cmp nat_cmp) (map (λ list. list.term) lists ++ left)
  pub distinct : IsDistinct eqb (addresses_in lists)
  pub alive : AllByRecursion (λ address. is_live live address ≡ true) (addresses_in lists)

-- no live address of the parts' span is below that one
abbrev pub IsFrom : List Range → List JobPart → ℕ → Type 0
IsFrom live parts low = (address : ℕ) → is_live live address ≡ true → lowest parts ≤ address → low ≤ address

-- The builder has the lists, and its lowest address is that of the parts' span that was live first.
pub record HasLists (live : List Range) (parts : List JobPart) (lists : List TermList) (builder : Building) : Type 0 where
  pub added : builder.lists ≡ lists
  pub low : IsFrom live parts builder.low
  pub least : builder.low ≡ first_from live (lowest parts)

-- what the fields of a job keep
pub record IsSound (fields : inside.Inside) : Type 0 where
  pub sources : AreSources fields.left fields.right
  pub passed : AreAllPassed fields.left fields.right fields.places
  pub live : AreRanked fields.live.items ADDRESSES_MAX
  pub marks : AreMarks (ranges_alone fields.live.items) fields.marks fields.made.lists
  pub writable : AreWritable (ranges_alone fields.live.items) fields.made.lists (terms_from fields.left fields.right fields.places)
  pub units : fields.units_left ≡ length (terms_from fields.left fields.right fields.places)
  pub generation : fields.generation ≤ GENERATION_MAX
  pub within : StandWithin (parts_of fields.left fields.right) (addresses_in fields.made.lists)
  pub going : 0 < fields.units_left
      → HasLists (ranges_alone fields.live.items) (parts_of fields.left fields.right) fields.made.lists fields.done

-- what contracts see of a job
abbrev pub state_of : inside.Inside → JobState
state_of fields = record {
  parts = parts_of fields.left fields.right;
  live = ranges_alone fields.live.items;
  generation = fields.generation;
  done = fields.made.lists;
  terms_left = terms_from fields.left fields.right fields.places;
}

-- The term is the first that is left.
abbrev pub IsFirst : List ℕ → JobState → Type 0
IsFirst term job = (later : List (List ℕ)) × (job.terms_left ≡ term ∷ later)

-- the terms from the places on
abbrev pub terms_at : List JobPart → Places → List (List ℕ)
terms_at [] places = []
terms_at (part ∷ []) places = merged (drop places.left (terms_of_part part)) (drop places.right [])
terms_at (part ∷ next ∷ parts) places = merged (drop places.left (terms_of_part part)) (drop places.right (terms_of_part next))

-- those before the places are before all that are left
abbrev pub ArePassedAt : List JobPart → Places → Type 0
ArePassedAt [] places = Unit {0}
ArePassedAt (part ∷ []) places =
    ArePassed (terms_of_part part) places.left (terms_at (part ∷ []) places)
    × ArePassed [] places.right (terms_at (part ∷ []) places)
ArePassedAt (part ∷ next ∷ parts) places =
    ArePassed (terms_of_part part) places.left (terms_at (part ∷ next ∷ parts) places)
    × ArePassed (terms_of_part next) places.right (terms_at (part ∷ next ∷ parts) places)

-- The term is the first that is left, and these are the places after it.
pub record IsNext (job : JobState) (term : List ℕ) (after : Places) : Type 0 where
  pub left : job.terms_left ≡ term ∷ terms_at job.parts after
  pub passed : ArePassedAt job.parts after
  pub bounded : (0 < length term) × (length term ≤ WORD_MAX)

-- these are the term's entries in the parts, from left to right
abbrev pub AreFound : List JobPart → List ℕ → Option TermEntry → Option TermEntry → Type 0
AreFound [] term first second = Unit {0}
AreFound (part ∷ []) term first second = IsFound part.directory.terms term first
AreFound (part ∷ next ∷ parts) term first second =
    IsFound part.directory.terms term first × IsFound next.directory.terms term second

-- Live addresses, ascending, each with its place among the live ones, of which none stands in a list that was made.
pub record IsNewCut (job : JobState) (cut : Cut) : Type 0 where
  pub ascend : AscendBetween 0 ADDRESSES_MAX cut.addresses.items
  pub within : StandWithin job.parts cut.addresses.items
  pub live : AllByRecursion (λ address. is_live job.live address ≡ true) cut.addresses.items
  pub places : cut.places.items ≡ map (live_below job.live) cut.addresses.items
  pub new : AllByRecursion (λ address. has (addresses_in job.done) address ≡ false) cut.addresses.items
