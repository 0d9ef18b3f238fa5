-- What an event that is accepted makes of addresses, postings, records and blobs.
use Rattle.std.specs.Prelude.{◌≡◌, ◌⊎◌, ℕ, ◌+◌, ◌≤◌, ◌==◌, nat_le, map, option_map, Bool, true, false, if◌then◌else◌, List, [], ◌∷◌, ◌++◌}
use Rattle.std.specs.Prelude.{length, Option, None, Some, IfSome, IsSome}
use Rattle.std.specs.Ordering.{nat_cmp}
use Rattle.std.specs.Map.{lookup, remove_entry}
use Rattle.std.specs.BTreeMap.{is_at, insert_entry}
use Rattle.wu_base.specs.declared.limits.TheConstants.{ADDRESSES_MAX, TEXT_MAX}
use Rattle.wu_outside.specs.Content.{Content, with_blob}
use Rattle.wu_token.specs.Words.{has_bytes}
use Rattle.wu_token.specs.Tokens.{tokens_of}
use Rattle.wu_tree.specs.declared.events.Effect.{Effect}
use Rattle.wu_layout.specs.Postings.{Posting, live_of}
use Rattle.wu_space.specs.Addresses.{Addresses, Ranges, placed, range_of, released}
use Rattle.wu_parts.specs.Contents.{Contents}
use Rattle.wu_parts.specs.Flushing.{EmptiesMemory, Flushes, Told}
use Rattle.wu_parts.specs.Memory.{Gains, HasPostings}
use Rattle.wu_image.specs.declared.records.FileRec.{FileRec}
use Rattle.wu_query.specs.Records.{Records}

-- ---- addresses

-- the file's range, if there is such a file, is live no more
abbrev pub without_file : Option ℕ → Addresses → Addresses
without_file None space = space
without_file (Some ino) space = released space ino

-- the file, if there is one, has the next addresses, one for each token of the text
abbrev pub with_file : Option ℕ → List ℕ → Addresses → Addresses
with_file None text space = space
with_file (Some ino) text space = placed space ino (length (tokens_of text))

-- the terms that then stand there
abbrev pub terms_given : Option ℕ → List ℕ → List (List ℕ)
terms_given None text = []
terms_given (Some ino) text = tokens_of text

-- the range of a file that is gone is live no more, and a file that is made has the empty text
abbrev pub space_made : Effect → Addresses → Addresses
space_made effect space = with_file effect.made [] (without_file effect.dropped space)

-- a file that is given a text has new addresses besides, and its old ones no more
abbrev pub space_after : Effect → List ℕ → Addresses → Addresses
space_after effect text space = with_file effect.texted text (without_file effect.texted (space_made effect space))

-- the terms of the texts that the effect gives to files
abbrev pub terms_after : Effect → List ℕ → List (List ℕ)
terms_after effect text = terms_given effect.made [] ++ terms_given effect.texted text

-- ---- the text's blob

-- whether a file is given a text that isn't empty: one that is put into the store
abbrev pub is_stored : Option ℕ → List ℕ → Bool
is_stored None text = false
is_stored (Some ino) text = has_bytes text

-- the blob that holds the text, where this is the next one; 0 where none does
abbrev pub blob_for : Option ℕ → List ℕ → ℕ → ℕ
blob_for file text next = if is_stored file text then next else 0

-- a blob is drawn for a text that is stored
abbrev pub drawn_for : Option ℕ → List ℕ → Contents → Contents
drawn_for file text parts = record parts { next_blob = parts.next_blob + (if is_stored file text then 1 else 0) }

-- a text that is stored is held by that blob
abbrev pub stored_at : ℕ → Option ℕ → List ℕ → Content → Content
stored_at blob file text content = if is_stored file text then with_blob blob (Some text) content else content

-- ---- the catalog: what an engine keeps of files besides the tree and the postings

-- live ranges, records, and the blobs that are no longer needed
pub record Catalog : Type 0 where
  pub space : Addresses
  pub files : Records
  pub stale : List ℕ

abbrev pub catalog_of : Addresses → Records → Contents → Catalog
catalog_of space files parts = record { space = space; files = files; stale = parts.stale }

-- the blob of a record's text, if it has one
abbrev pub blob_of : Option FileRec → List ℕ
blob_of None = []
blob_of (Some file) = if file.blob == 0 then [] else file.blob ∷ []

-- the blob of the file's text, if there is such a file and its text has one
abbrev pub blob_left : Option ℕ → Records → List ℕ
blob_left None files = []
blob_left (Some ino) files = blob_of (lookup (is_at (nat_cmp ino)) files)

-- the file, if there is one, has no record
abbrev pub records_without : Option ℕ → Records → Records
records_without None files = files
records_without (Some ino) files = remove_entry (is_at (nat_cmp ino)) files

-- what is recorded of a file that has the text in that blob, and these addresses
abbrev pub record_for : ℕ → List ℕ → ℕ → ℕ → FileRec
record_for ino text blob address = record {
  ino = ino;
  len = length text;
  blob = blob;
  range = record { start = address; len = length (tokens_of text) };
}

-- the file, if there is one, has that record
abbrev pub records_with : Option ℕ → List ℕ → ℕ → ℕ → Records → Records
records_with None text blob address files = files
records_with (Some ino) text blob address files = insert_entry nat_cmp files ino (record_for ino text blob address)

-- the file's range, record and blob, if there is such a file, are given up
abbrev pub catalog_without : Option ℕ → Catalog → Catalog
catalog_without file catalog = record {
  space = without_file file catalog.space;
  files = records_without file catalog.files;
  stale = catalog.stale ++ blob_left file catalog.files;
}

-- the file, if there is one, has the text, in that blob: the next addresses, and a record
abbrev pub catalog_with : Option ℕ → List ℕ → ℕ → Catalog → Catalog
catalog_with file text blob catalog = record {
  space = with_file file text catalog.space;
  files = records_with file text blob catalog.space.next catalog.files;
  stale = catalog.stale;
}

abbrev pub catalog_made : Effect → Catalog → Catalog
catalog_made effect catalog = catalog_with effect.made [] 0 (catalog_without effect.dropped catalog)

-- the same as of the addresses, where the text that a file is given is in that blob
abbrev pub catalog_after : Effect → List ℕ → ℕ → Catalog → Catalog
catalog_after effect text blob catalog = catalog_with effect.texted text blob (catalog_without effect.texted (catalog_made effect catalog))

-- but for the postings in memory and the stale blobs, the parts are as they were
abbrev pub KeepsParts : Contents → Contents → Type 0
KeepsParts old new = new ≡ record old { memory = new.memory; stale = new.stale }

-- ---- what an event needs

-- A file that is dropped or given a text has a live range, one that is made has none, and there is room for the texts.
pub record IsIndexable (effect : Effect) (text : List ℕ) (space : Addresses) (parts : Contents) : Type 0 where
  pub dropped : IfSome effect.dropped (λ ino. IsSome (range_of space.ranges ino))
  pub made : IfSome effect.made (λ ino. range_of (without_file effect.dropped space).ranges ino ≡ None)
  pub texted : IfSome effect.texted (λ ino. IsSome (range_of (space_made effect space).ranges ino))
  pub short : length text ≤ TEXT_MAX
  pub below : parts.memory.end ≤ space.next
  pub room : space.next + length (terms_after effect text) ≤ ADDRESSES_MAX

-- ---- a flush that follows

-- such a flush was done, where memory was full
abbrev pub FlushesIfFull : Bool → List Posting → Contents → Contents → Told → Told → Type 0
FlushesIfFull true live old new before after = Flushes live old new before after
FlushesIfFull false live old new before after = (new ≡ old) × (after ≡ before)

-- The live postings in memory became a part, where memory was full, and else all is as it was.
pub record FlushesFull (ranges : Ranges) (old new : Contents) (before after : Told) : Type 0 where
  pub postings : (low high : ℕ) (postings : List Posting) → HasPostings low high old.memory postings
      → FlushesIfFull (nat_le old.flush_at old.memory.stored) (live_of (map (λ file. file.1) ranges) postings) old new before after
  pub changes : (new ≡ old) ⊎ EmptiesMemory old new

-- What was done after an event with that effect: the text was put into a blob, addresses, postings and records were changed, and then
-- memory was flushed, where it was full.
pub record Follows (effect : Effect) (text : List ℕ) (space space_now : Addresses) (files files_now : Records)
    (parts parts_now : Contents) (before after : Told) : Type 0 where
  pub blob : ℕ
  -- between the changes and the flush
  pub indexed : Contents
  pub between : Told
  pub drawn : blob ≡ blob_for effect.texted text parts.next_blob
  pub stored : between.0 ≡ option_map (stored_at parts.next_blob effect.texted text) before.0
  pub catalog : catalog_of space_now files_now indexed
      ≡ catalog_after effect text blob (catalog_of space files (drawn_for effect.texted text parts))
  pub gained : Gains space.next (terms_after effect text) parts.memory indexed.memory
  pub others : KeepsParts (drawn_for effect.texted text parts) indexed
  pub flushed : FlushesFull space_now.ranges indexed parts_now between after
