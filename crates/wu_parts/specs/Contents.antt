-- What a Parts holds: postings in memory, and parts of the index in a store.
use Rattle.std.specs.Prelude.{◌≡◌, ℕ, ◌+◌, List, [], ◌∷◌, ◌++◌, Option, None, sum_by}
use Rattle.wu_base.specs.declared.addresses.PartRec.{PartRec}
use Rattle.lru.specs.LruCache.{lru_cache}
use Rattle.wu_part.specs.Directories.{PartDirectory}
use Rattle.wu_lists.specs.Blocks.{count_in, entry_of}
use Rattle.wu_lists.specs.Keeping.{Kept}
use Rattle.wu_job.specs.Jobs.{JobState}
use Rattle.wu_parts.specs.Memory.{Memory, no_postings, emptied, Gains}

-- a job that is under way: how many parts stand left of its first, and how far it has gone
pub record JobAt : Type 0 where
  pub place : ℕ
  pub state : JobState

-- the postings in memory; the parts from left to right, and their directories; the blocks that are kept of them; how many postings memory
-- is to have before a flush; the number of the next blob; how many flushes made a part; the numbers of blobs that are no longer needed; the
-- job that is under way
pub record Contents : Type 0 where
  pub memory : Memory
  pub parts : List PartRec
  pub directories : List PartDirectory
  pub kept : Kept
  pub flush_at : ℕ
  pub next_blob : ℕ
  pub flushes : ℕ
  pub stale : List ℕ
  pub job : Option JobAt

-- no posting, no part, no kept block, no stale blob, no job
abbrev pub no_contents : ℕ → ℕ → Contents
no_contents flush_at next_blob = record {
  memory = no_postings;
  parts = [];
  directories = [];
  kept = lru_cache [] 1024;
  flush_at = flush_at;
  next_blob = next_blob;
  flushes = 0;
  stale = [];
  job = None;
}

-- how many postings the parts have
abbrev pub stored_in_parts : List PartRec → ℕ
stored_in_parts parts = sum_by (λ part. part.stored) parts

-- how many addresses the parts have of the term, as their directories tell
abbrev pub counted_of : List ℕ → List PartDirectory → ℕ
counted_of term directories = sum_by (λ directory. count_in (entry_of directory.terms term)) directories

-- how many postings there are, in memory and in parts, dead ones too
abbrev pub stored_in : Contents → ℕ
stored_in contents = contents.memory.stored + stored_in_parts contents.parts

-- memory gains the terms at the addresses from start on, and all else stays
pub record GainsTerms (start : ℕ) (terms : List (List ℕ)) (old new : Contents) : Type 0 where
  pub memory : Gains start terms old.memory new.memory
  pub others : new ≡ record old { memory = new.memory }

-- ---- what a flush changes

-- memory has no postings
abbrev pub without_postings : Contents → Contents
without_postings contents = record contents { memory = emptied contents.memory }

-- memory has no postings, and there is one more part, right of all others, in the blob of the next number
abbrev pub with_part : PartRec → PartDirectory → Contents → Contents
with_part recorded directory contents = record contents {
  memory = emptied contents.memory;
  parts = contents.parts ++ recorded ∷ [];
  directories = contents.directories ++ directory ∷ [];
  next_blob = contents.next_blob + 1;
  flushes = contents.flushes + 1;
}
