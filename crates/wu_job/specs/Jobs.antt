-- Jobs on parts of the index. As in an index that is kept as a log-structured merge tree (Büttcher, Clarke and Cormack, Information
-- Retrieval, chapter 7), a part is written anew without its dead postings, or two neighbours are merged into one. A job goes
-- through the terms of its parts in byte order, one term a step, and keeps the postings that were live when it began.
use Rattle.std.specs.Prelude.{◌≡◌, ℕ, ◌<◌, ◌≤◌, List, [], ◌∷◌, ◌++◌, length, map, filter, Contains, Option, None, Some, IfSome}
use Rattle.std.specs.Ordering.{nat_cmp}
use Rattle.std.specs.Cmp.Lexicographic.{slice_cmp}
use Rattle.std.specs.List.{AllByRecursion, flat_map}
use Rattle.wu_base.specs.SortedOnce.{sorted_once}
use Rattle.wu_base.specs.declared.addresses.PartRec.{PartRec}
use Rattle.wu_base.specs.declared.addresses.Range.{Range}
use Rattle.wu_base.specs.declared.addresses.TermList.{TermList}
use Rattle.wu_outside.specs.Content.{Content}
use Rattle.wu_layout.specs.Postings.{is_live}
use Rattle.wu_part.specs.declared.entries.TermEntry.{TermEntry}
use Rattle.wu_part.specs.Directories.{PartDirectory}
use Rattle.wu_part.specs.Parts.{HoldsList, SpellsPart}
use Rattle.wu_job.specs.declared.jobs.Progress.{Progress}
use Rattle.wu_job.specs.declared.jobs.Progress.TheVariants.{More, Done}

-- a part of a job: what is recorded of it, and its directory
pub record JobPart : Type 0 where
  pub recorded : PartRec
  pub directory : PartDirectory

-- a job between two steps
pub record JobState : Type 0 where
  -- one part or two, from left to right
  pub parts : List JobPart
  -- the live ranges when it began
  pub live : List Range
  -- the generation of the part that it makes
  pub generation : ℕ
  -- the lists that it has made of the terms that it has done
  pub done : List TermList
  -- the terms that are still to be done
  pub terms_left : List (List ℕ)

abbrev pub terms_of_part : JobPart → List (List ℕ)
terms_of_part part = map (λ entry. entry.term) part.directory.terms

-- the terms of the parts in byte order, each of them once
abbrev pub terms_in : List JobPart → List (List ℕ)
terms_in parts = sorted_once (slice_cmp nat_cmp) (flat_map terms_of_part parts)

-- the first address of the first part, and the last of the last one
abbrev pub lowest : List JobPart → ℕ
lowest [] = 0
lowest (part ∷ parts) = part.directory.low

abbrev pub highest : List JobPart → ℕ
highest [] = 0
highest (part ∷ []) = part.directory.high
highest (part ∷ next ∷ parts) = highest (next ∷ parts)

-- the addresses are from that one to this one
abbrev pub StandWithin : List JobPart → List ℕ → Type 0
StandWithin parts addresses = AllByRecursion (λ address. (lowest parts ≤ address) × (address ≤ highest parts)) addresses

-- a job that has done no term
abbrev pub started : List JobPart → List Range → ℕ → JobState
started parts live generation = record {
  parts = parts;
  live = live;
  generation = generation;
  done = [];
  terms_left = terms_in parts;
}

-- ---- what the parts' blobs hold

-- the blob is there, and the entry's blocks in it hold these addresses
abbrev pub HoldsEntry : Option (List ℕ) → ℕ → TermEntry → List ℕ → Type 0
HoldsEntry None low entry addresses = ⊥
HoldsEntry (Some blob) low entry addresses = HoldsList low blob entry (record { term = entry.term; at = addresses })

-- these are the addresses of the term in the part's blob; there are none where the directory doesn't have the term
pub record HoldsTerm (content : Content) (term : List ℕ) (part : JobPart) (addresses : List ℕ) : Type 0 where
  pub there : (entry : TermEntry) → Contains part.directory.terms entry → entry.term ≡ term
      → HoldsEntry (content.blobs part.recorded.blob) part.directory.low entry addresses
  pub absent : ((entry : TermEntry) → Contains part.directory.terms entry → entry.term ≡ term → ⊥) → addresses ≡ []

-- the same of several parts, from left to right
abbrev pub HoldTerm : Content → List ℕ → List JobPart → List ℕ → Type 0
HoldTerm content term [] addresses = addresses ≡ []
HoldTerm content term (part ∷ parts) addresses =
    (first later : List ℕ) × HoldsTerm content term part first × HoldTerm content term parts later × (addresses ≡ first ++ later)

-- ---- what it makes of them

-- the list of the term, where it has an address
abbrev pub list_for : List ℕ → List ℕ → List TermList
list_for term [] = []
list_for term (address ∷ addresses) = record { term = term; at = address ∷ addresses } ∷ []

-- these are the term's addresses in the parts' blobs that were live
abbrev pub AreKept : Content → List JobPart → List Range → List ℕ → List ℕ → Type 0
AreKept content parts live term kept =
    (all : List ℕ) × HoldTerm content term parts all × (kept ≡ filter (is_live live) all)

-- these are the lists of the terms: of each the addresses that were live, and no list where none was
abbrev pub AreMade : Content → List JobPart → List Range → List (List ℕ) → List TermList → Type 0
AreMade content parts live [] lists = lists ≡ []
AreMade content parts live (term ∷ terms) lists =
    (kept : List ℕ) × (later : List TermList) × AreKept content parts live term kept × AreMade content parts live terms later
    × (lists ≡ list_for term kept ++ later)

-- The lists that the job has made are those of the terms that it has done.
pub record IsRight (content : Content) (job : JobState) : Type 0 where
  pub terms_done : List (List ℕ)
  pub order : terms_done ++ job.terms_left ≡ terms_in job.parts
  pub made : AreMade content job.parts job.live terms_done job.done

-- ---- a step

-- The term, the first that was left, is done: its list is made of these addresses, where there are some. All else stays.
pub record MakesList (term kept : List ℕ) (old new : JobState) : Type 0 where
  pub first : old.terms_left ≡ term ∷ new.terms_left
  pub made : new.done ≡ old.done ++ list_for term kept
  pub others : new ≡ record old { done = new.done; terms_left = new.terms_left }

-- The first term left is done. Where the store tells what it holds, its list is of the addresses in the parts' blobs that were live.
pub record DoesTerm (holds : Option Content) (old new : JobState) : Type 0 where
  pub term : List ℕ
  pub kept : List ℕ
  pub makes : MakesList term kept old new
  pub held : IfSome holds (λ content. AreKept content old.parts old.live term kept)

-- What a step answers that leaves the job so: with the last term the bytes of the new part, of all lists that were made, or None
-- where there are none.
abbrev pub Answers : JobState → Progress → Type 0
Answers job More = 0 < length job.terms_left
Answers job (Done None) = (job.terms_left ≡ []) × (job.done ≡ [])
Answers job (Done (Some bytes)) =
    (job.terms_left ≡ []) × (0 < length job.done)
    × (directory : PartDirectory) × (directory.generation ≡ job.generation) × SpellsPart directory job.done bytes.items
