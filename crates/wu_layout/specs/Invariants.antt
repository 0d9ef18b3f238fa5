-- What is true of the layout at each moment, also between two units of a job.
use Rattle.std.specs.Prelude.{◌≡◌, ◌≢◌, ◌⊎◌, ℕ, ◌+◌, ◌<◌, ◌≤◌, ◌^◌, ◌==◌, Bool, false, not, if◌then◌else◌, Option, is_some, IfSome, List}
use Rattle.std.specs.Prelude.{[], ◌∷◌, ◌++◌, length, count_by, sum_by}
use Rattle.std.specs.Ordering.{nat_cmp}
use Rattle.std.specs.List.{AllByRecursion}
use Rattle.std.specs.List.Sorted.{IsStrictlySortedBy}
use Rattle.std.specs.Map.{keys_of}
use Rattle.wu_base.specs.declared.addresses.Range.{Range}
use Rattle.wu_base.specs.Ranges.{AreDisjoint}
use Rattle.wu_layout.specs.Postings.{Posting, placed_from, cut, has_some, live_of, dead_of, Ascend}
use Rattle.wu_layout.specs.Layouts.{Text, FileEntry, Part, Job, Layout, entry_of, stored_in, homes_of, postings_of, terms_of, parts_before}
use Rattle.wu_layout.specs.Layouts.{parts_taken}

-- ---- ranges

-- The live ranges are disjoint, belong to exactly the regular files, and end by the next address.
pub record RangesAreDisjoint (is_file : ℕ → Bool) (next : ℕ) (files : List (ℕ × FileEntry)) : Type 0 where
  pub by_number : IsStrictlySortedBy nat_cmp (keys_of files)
  pub of_files : (ino : ℕ) → is_some (entry_of files ino) ≡ is_file ino
  pub within : (ino : ℕ) → IfSome (entry_of files ino) (λ entry. entry.range.start + entry.range.len ≤ next)
  pub apart : (p q : ℕ) → p ≢ q
      → IfSome (entry_of files p) (λ entry. IfSome (entry_of files q) (λ other. AreDisjoint entry.range other.range))

-- ---- addresses

-- The addresses ascend from part to part and into memory, and are below the next. No part is empty.
pub record AddressesAscend (next : ℕ) (parts : List Part) (memory : List Posting) : Type 0 where
  pub ascend : Ascend 0 next (postings_of parts memory)
  pub filled : AllByRecursion (λ part. 0 < length part.postings) parts

-- ---- postings of files

-- one of the list has the property
abbrev pub SomeOf : {X : Type 0} → (X → Type 0) → List X → Type 0
SomeOf P [] = ⊥
SomeOf P (x ∷ xs) = P x ⊎ SomeOf P xs

-- these are the text's, of all that stand at addresses of the range: the i-th term at the i-th address
abbrev pub HasText : Text → Range → List Posting → Type 0
HasText text range postings = cut range postings ≡ placed_from range.start text.terms

-- The text is indexed: its postings stand at the range, all of them in one part or all in memory.
pub record IsIndexed (text : Text) (entry : FileEntry) (homes : List (List Posting)) (postings : List Posting) : Type 0 where
  pub kept : (entry.blob == 0) ≡ not text.has_bytes
  pub long : entry.range.len ≡ length text.terms
  pub whole : HasText text entry.range postings
  pub home : SomeOf (HasText text entry.range) homes

-- the text of each regular file is indexed
pub record TextsAreIndexed (text_of : ℕ → Text) (files : List (ℕ × FileEntry)) (parts : List Part) (memory : List Posting)
    : Type 0 where
  pub each : (ino : ℕ)
      → IfSome (entry_of files ino) (λ entry. IsIndexed (text_of ino) entry (homes_of parts memory) (postings_of parts memory))

-- ---- generations

-- generations never rise from left to right
abbrev pub NeverRise : List Part → Type 0
NeverRise [] = Unit {0}
NeverRise (part ∷ parts) = AllByRecursion (λ later. later.generation ≤ part.generation) parts × NeverRise parts

-- generations fall from left to right, each below the one before
abbrev pub Fall : List Part → Type 0
Fall [] = Unit {0}
Fall (part ∷ parts) = AllByRecursion (λ later. later.generation < part.generation) parts × Fall parts

-- how many flushes it takes to make such parts
abbrev pub flushes_for : List Part → ℕ
flushes_for parts = sum_by (λ part. 2 ^ part.generation) parts

-- Generations never rise, a part of generation g took 2^g flushes, and each flush took an address.
pub record GenerationsAreBounded (next : ℕ) (flushes : ℕ) (parts : List Part) (memory : List Posting) : Type 0 where
  pub never_rise : NeverRise parts
  pub flushed : flushes_for parts ≤ flushes
  pub placed : flushes ≤ next
  pub unflushed : 0 < length memory → flushes < next

-- ---- the job

-- A job has one part, or two of the same generation; what stands left of two has a greater one.
abbrev pub MayBeTaken : List Part → List Part → Type 0
MayBeTaken before [] = ⊥
MayBeTaken before (part ∷ []) = Unit {0}
MayBeTaken before (left ∷ right ∷ []) =
    (left.generation ≡ right.generation) × AllByRecursion (λ part. left.generation < part.generation) before
MayBeTaken before (first ∷ second ∷ third ∷ more) = ⊥

-- the last of all, and there is one
abbrev pub IsSuffixOf : List (List ℕ) → List (List ℕ) → Type 0
IsSuffixOf all left = (done : List (List ℕ)) × ((done ++ left ≡ all) × (0 < length left))

-- the range is one of these
abbrev pub IsAmong : List Range → Range → Type 0
IsAmong ranges range = SomeOf (λ other. other ≡ range) ranges

-- A job's parts are there, the terms left are the last of its parts' terms, and each live range that lies in its parts was live
-- when it began: so what it drops is never live again.
pub record IsUnderWay (files : List (ℕ × FileEntry)) (parts : List Part) (job : Job) : Type 0 where
  pub number : length (parts_taken job parts) ≡ job.count
  pub taken : MayBeTaken (parts_before job parts) (parts_taken job parts)
  pub terms : IsSuffixOf (terms_of (stored_in (parts_taken job parts))) job.terms_left
  pub was_live : (ino : ℕ) → IfSome (entry_of files ino) (λ entry.
      (has_some entry.range (stored_in (parts_taken job parts)) ≡ false) ⊎ IsAmong job.live entry.range)

abbrev pub JobIsUnderWay : List (ℕ × FileEntry) → List Part → Option Job → Type 0
JobIsUnderWay files parts job = IfSome job (IsUnderWay files parts)

-- ---- blobs

-- how often the blob number is named: by texts, parts, the checkpoint and as one that is no longer needed
abbrev pub times_named : ℕ → List (ℕ × FileEntry) → List Part → ℕ → List ℕ → ℕ
times_named number files parts check stale =
    count_by (λ file. file.1.blob == number) files + count_by (λ part. part.blob == number) parts
    + (if check == number then 1 else 0) + count_by (λ other. other == number) stale

-- The blobs of texts, parts and checkpoint and the stale ones are distinct, and below the next blob. 0 names no blob, and stands
-- only for a text without bytes and for no checkpoint.
pub record BlobsAreDistinct (next : ℕ) (files : List (ℕ × FileEntry)) (parts : List Part) (check : ℕ) (stale : List ℕ)
    : Type 0 where
  pub positive : 0 < next
  pub distinct : (number : ℕ) → 0 < number → times_named number files parts check stale ≤ 1
  pub below : (number : ℕ) → next ≤ number → times_named number files parts check stale ≡ 0
  pub of_parts : count_by (λ part. part.blob == 0) parts ≡ 0
  pub of_stale : count_by (λ number. number == 0) stale ≡ 0

-- ---- where there is no more to do

-- Where background work has no more to do there are few parts, at most the logarithm of the number of flushes, and most of each is
-- live.
pub record AreFewParts (ranges : List Range) (flushes : ℕ) (parts : List Part) : Type 0 where
  pub fall : Fall parts
  pub few : 2 ^ length parts ≤ flushes + 1
  pub mostly_live : AllByRecursion (λ part. length (dead_of ranges part.postings) < length (live_of ranges part.postings)) parts

-- ---- all of them

-- the layout is one of these files with these texts
pub record IsLayoutOf (is_file : ℕ → Bool) (text_of : ℕ → Text) (layout : Layout) : Type 0 where
  pub ranges : RangesAreDisjoint is_file layout.next layout.files
  pub addresses : AddressesAscend layout.next layout.parts layout.memory
  pub texts : TextsAreIndexed text_of layout.files layout.parts layout.memory
  pub generations : GenerationsAreBounded layout.next layout.flushes layout.parts layout.memory
  pub work : JobIsUnderWay layout.files layout.parts layout.job
  pub blobs : BlobsAreDistinct layout.blob layout.files layout.parts layout.check layout.stale
