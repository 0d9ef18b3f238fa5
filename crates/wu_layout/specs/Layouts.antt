-- The layout of the index. It is kept as a log-structured index is (Büttcher, Clarke and Cormack, Information Retrieval, chapter 7,
-- on dynamic inverted indices): new postings gather in memory, a flush makes a part of them, and parts are merged in the
-- background, as in geometric partitioning (Lester, Moffat and Zobel, Fast on-line index construction by geometric partitioning,
-- CIKM 2005). A text that is changed or removed leaves its postings behind, dead, until a merge drops them.
use Rattle.std.specs.Prelude.{◌≡◌, ℕ, Bool, length, Option, None, List, [], ◌∷◌, ◌++◌, map, take, drop}
use Rattle.std.specs.Ordering.{nat_cmp}
use Rattle.std.specs.Cmp.Lexicographic.{slice_cmp}
use Rattle.std.specs.List.{flat_map}
use Rattle.std.specs.Map.{lookup}
use Rattle.std.specs.BTreeMap.{is_at}
use Rattle.wu_base.specs.SortedOnce.{sorted_once}
use Rattle.wu_base.specs.declared.addresses.PartRec.{PartRec}
use Rattle.wu_base.specs.declared.addresses.Range.{Range}
use Rattle.wu_base.specs.declared.addresses.TermList.{TermList}
use Rattle.wu_layout.specs.Postings.{Posting, addresses_of}

-- what the index is given of a text: its terms in order, and whether it has bytes; one without bytes is kept in no blob
pub record Text : Type 0 where
  pub terms : List (List ℕ)
  pub has_bytes : Bool

-- what is kept of a regular file: the blob of its text, or 0 where the text has no bytes, and the live range of its addresses
pub record FileEntry : Type 0 where
  pub blob : ℕ
  pub range : Range

-- A part of the index in the store: an inverted file of its own. One that a flush made has generation 0, one that was merged
-- from two of a generation has the next.
pub record Part : Type 0 where
  pub blob : ℕ
  pub generation : ℕ
  pub postings : List Posting

-- A job that is under way: one part is written anew without its dead postings, or two neighbours are merged into one.
pub record Job : Type 0 where
  -- how many parts stand left of its first
  pub place : ℕ
  -- one part or two
  pub count : ℕ
  -- the live ranges that lay in its parts when it began
  pub live : List Range
  -- the terms that are still to be done
  pub terms_left : List (List ℕ)

pub record Layout : Type 0 where
  -- the first address that was never given
  pub next : ℕ
  -- the first blob number that was never drawn
  pub blob : ℕ
  -- the blob of the last checkpoint, or 0
  pub check : ℕ
  -- how many flushes have made a part
  pub flushes : ℕ
  -- what is kept of each regular file, by number
  pub files : List (ℕ × FileEntry)
  -- the postings since the last flush
  pub memory : List Posting
  -- from left to right, which is from the oldest addresses on
  pub parts : List Part
  -- the blobs that are no longer needed
  pub stale : List ℕ
  pub job : Option Job

-- before anything is indexed
abbrev pub first_layout : Layout
first_layout = record {
  next = 0;
  blob = 1;
  check = 0;
  flushes = 0;
  files = [];
  memory = [];
  parts = [];
  stale = [];
  job = None;
}

-- ---- files

-- what is kept of the file of that number
abbrev pub entry_of : List (ℕ × FileEntry) → ℕ → Option FileEntry
entry_of files ino = lookup (is_at (nat_cmp ino)) files

-- each file's live range, by number
abbrev pub ranges_by_number : List (ℕ × FileEntry) → List (ℕ × Range)
ranges_by_number files = map (λ file. (file.0, file.1.range)) files

-- the live ranges
abbrev pub ranges_of : List (ℕ × FileEntry) → List Range
ranges_of files = map (λ file. file.1.range) files

-- ---- postings

-- the postings of these parts, from left to right
abbrev pub stored_in : List Part → List Posting
stored_in parts = flat_map (λ part. part.postings) parts

-- where postings stand: in each part, from left to right, and in memory
abbrev pub homes_of : List Part → List Posting → List (List Posting)
homes_of parts memory = map (λ part. part.postings) parts ++ memory ∷ []

-- all postings, in the order of their homes
abbrev pub postings_of : List Part → List Posting → List Posting
postings_of parts memory = flat_map (λ home. home) (homes_of parts memory)

-- the first address of postings, and the last; 0 where there are none
abbrev pub first_address : List Posting → ℕ
first_address [] = 0
first_address (posting ∷ postings) = posting.address

abbrev pub last_address : List Posting → ℕ
last_address [] = 0
last_address (posting ∷ []) = posting.address
last_address (posting ∷ next ∷ postings) = last_address (next ∷ postings)

-- the terms of postings, by their bytes, each of them once
abbrev pub terms_of : List Posting → List (List ℕ)
terms_of postings = sorted_once (slice_cmp nat_cmp) (map (λ posting. posting.term) postings)

-- the list of a term: its addresses
abbrev pub list_of : List Posting → List ℕ → TermList
list_of postings term = record { term = term; at = addresses_of term postings }

-- the lists of postings, one for each of their terms, by the terms' bytes: so a part has them
abbrev pub lists_of : List Posting → List TermList
lists_of postings = map (list_of postings) (terms_of postings)

-- what is recorded of a part outside it, but for the size of its blob
pub record IsRecordOf (recorded : PartRec) (part : Part) : Type 0 where
  pub blob : recorded.blob ≡ part.blob
  pub generation : recorded.generation ≡ part.generation
  pub low : recorded.low ≡ first_address part.postings
  pub high : recorded.high ≡ last_address part.postings
  pub stored : recorded.stored ≡ length part.postings

-- ---- the parts of a job, and those left and right of them
abbrev pub parts_before : Job → List Part → List Part
parts_before job parts = take job.place parts

abbrev pub parts_taken : Job → List Part → List Part
parts_taken job parts = take job.count (drop job.place parts)

abbrev pub parts_after : Job → List Part → List Part
parts_after job parts = drop job.count (drop job.place parts)
