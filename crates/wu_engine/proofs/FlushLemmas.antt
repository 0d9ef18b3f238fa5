-- The engine stands for the state after a flush.
use Rattle.std.proofs.Common.{◌≡◌, ℕ, ◌+◌, ◌<◌, nat_le, Bool, true, false, cond, List, [], ◌∷◌, ◌++◌, length, map, refl, ap, sym, ◌∙◌}
use Rattle.std.proofs.Common.{subst, arith}
use Rattle.std.specs.Prelude.{Option, Some, None, IfSome, option_map}
use Rattle.wu_base.specs.declared.addresses.PartRec.{PartRec}
use Rattle.wu_base.specs.declared.addresses.Range.{Range}
use Rattle.wu_layout.proofs.NumberedRanges.{ranges-alone}
use Rattle.wu_outside.specs.Content.{Content, with_blob}
use Rattle.wu_tree.specs.FileSystems.{FileSystem}
use Rattle.wu_layout.specs.Postings.{Posting, Ascend, live_of}
use Rattle.wu_layout.specs.Layouts.{FileEntry, Layout, first_layout, ranges_of, stored_in}
use Rattle.wu_layout.specs.Steps.{flush, flushed}
use Rattle.wu_layout.proofs.HomeLemmas.{postings_split}
use Rattle.wu_layout.proofs.PostingLemmas.{Ascend-split}
use Rattle.wu_part.specs.Directories.{PartDirectory}
use Rattle.wu_space.specs.Addresses.{Addresses}
use Rattle.wu_lists.specs.declared.blocks.Block.{Block}
use Rattle.wu_lists.specs.Blocks.{bytes_of}
use Rattle.wu_lists.specs.Keeping.{Kept}
use Rattle.std.specs.List.{AllByRecursion}
use Rattle.wu_parts.specs.Contents.{Contents, with_part, without_postings}
use Rattle.wu_parts.specs.Flushing.{Flushes, Told}
use Rattle.wu_parts.specs.Holdings.{HoldParts}
use Rattle.wu_parts.specs.Memory.{HasPostings}
use Rattle.wu_parts.specs.Working.{Tells, TellsParts}
use Rattle.wu_parts.proofs.KeptJobs.{tells_flushed}
use Rattle.wu_query.specs.Records.{Records}
use Rattle.wu_query.specs.Searched.{HoldsTexts, KeepsBlocks}
use Rattle.wu_query.specs.States.{State, Texts, IsState}
use Rattle.wu_engine.specs.Indexing.{FlushesFull, FlushesIfFull}
use Rattle.wu_engine.specs.Stands.{IsEngineOf, KeepsJob}
use Rattle.wu_engine.specs.States.{flushed_if_full, flushed_state}
use Rattle.wu_engine.proofs.FlushedStates.{flushed_kept}
use Rattle.wu_engine.proofs.HeldParts.{blocks_stay, put_agrees, texts_stay}
use Rattle.wu_engine.proofs.StoredTexts.{blobs_below}

-- what the store holds for the state: its texts and its parts, of which blocks are kept, and on which a job may be under way
pub record IsStored (holds : Option Content) (contents : Contents) (s : State) : Type 0 where
  pub texts : HoldsTexts holds s.texts s.layout.files
  pub parts : IfSome holds (λ content. HoldParts content contents.parts contents.directories s.layout.parts)
  pub job : IfSome holds (λ content. KeepsJob content s.layout contents)
  pub kept : IfSome holds (λ content. KeepsBlocks content s.layout.blob contents.kept)

-- the store tells what it holds
pub is_told : (holds : Option Content) (texts : Texts) (files : List (ℕ × FileEntry)) → HoldsTexts holds texts files
    → (content : Content) × (holds ≡ Some content)
is_told None texts files held = absurd held
is_told (Some content) texts files held = (content, refl)

-- ---- at first

pub nothing_held : (holds : Option Content) (records : List PartRec) (directories : List PartDirectory) → records ≡ [] → directories ≡ []
    → IfSome holds (λ content. HoldParts content records directories [])
nothing_held None records directories none no_directory = tt
nothing_held (Some content) records directories none no_directory =
    rw (none, no_directory) tt

pub no_job : (holds : Option Content) (contents : Contents) → contents.job ≡ None
    → IfSome holds (λ content. KeepsJob content first_layout contents)
no_job None contents none = tt
no_job (Some content) contents none = record { same = rw none tt; running = rw none tt }

pub nothing_kept : (holds : Option Content) (kept : Kept) → kept.entries ≡ [] → IfSome holds (λ content. KeepsBlocks content 1 kept)
nothing_kept None kept none = tt
nothing_kept (Some content) kept none = record {
  below = subst (AllByRecursion (λ (entry : Block × List ℕ). entry.0.blob < 1)) (sym none) tt;
  same = λ blob bytes there.
      subst (AllByRecursion (λ (entry : Block × List ℕ). entry.0.blob ≡ blob → entry.1 ≡ bytes_of entry.0 bytes)) (sym none) tt;
}

-- ---- any state

-- the postings in memory are those of the state
pub memory_held : (fs : FileSystem) (space : Addresses) (parts : Contents) (files : Records) (s : State)
    → IsEngineOf fs space parts files s → (low : ℕ) × ((high : ℕ) × HasPostings low high parts.memory s.layout.memory)
memory_held fs space parts files s index =
    let all : Ascend 0 s.layout.next (stored_in s.layout.parts ++ s.layout.memory) =
    subst (Ascend 0 s.layout.next) (postings_split s.layout.parts s.layout.memory) index.is_state.layout.addresses.ascend in
    let two = Ascend-split 0 s.layout.next (stored_in s.layout.parts) s.layout.memory all in
    (two.0, (s.layout.next, record { addresses = index.memory; stored = index.stored; ascend = two.1.1 }))

abbrev with_layout : State → Layout → State
with_layout s layout = record s { layout = layout }

module _ (fs : FileSystem) (space : Addresses) (parts : Contents) (files : Records) (s : State) (index : IsEngineOf fs space parts files s)
  where
    -- what is kept of the parts, and the content, are those of the layout
    pub told_here : (content : Content) → HoldParts content parts.parts parts.directories s.layout.parts
        → KeepsJob content s.layout parts → TellsParts content parts s.layout
    told_here content held job = record {
      parts = held;
      next_blob = index.next_blob;
      flushes = index.flushes;
      stale = index.stale;
      running = job.running;
      job = job.same;
    }

    -- and so they are after a flush
    told_flushed : (kept : List Posting) (parts_now : Contents) (before after : Told) → IsStored before.0 parts s
        → Flushes kept parts parts_now before after → Tells after.0 parts_now (flushed kept s.layout)
    told_flushed kept parts_now before after stored done =
        let there = is_told before.0 s.texts s.layout.files stored.texts in
        let here : IsStored (Some there.0) parts s = subst (λ o. IsStored o parts s) there.1 stored in
        tells_flushed s.layout there.0 parts index.is_state.layout.blobs (told_here there.0 here.parts here.job) kept parts_now before after
        there.1 done

    -- ---- a part that was made

    module _ (recorded : PartRec) (directory : PartDirectory) (bytes : List ℕ) (posting : Posting) (postings : List Posting) where
      stored_with : (holds : Option Content) → IsStored holds parts s
          → Tells (option_map (with_blob s.layout.blob (Some bytes)) holds) (with_part recorded directory parts)
          (flushed (posting ∷ postings) s.layout)
          → IsStored (option_map (with_blob s.layout.blob (Some bytes)) holds) (with_part recorded directory parts)
          (with_layout s (flushed (posting ∷ postings) s.layout))
      stored_with None stored told = absurd told
      stored_with (Some content) stored told =
          let next = s.layout.blob in
          let after : Content = with_blob next (Some bytes) content in
          let agrees = put_agrees next (Some bytes) content in
          record {
            texts = texts_stay next content after agrees s.texts s.layout.files
                (blobs_below next s.layout.files s.layout.parts s.layout.check s.layout.stale index.is_state.layout.blobs) stored.texts;
            parts = told.parts;
            job = record { same = told.job; running = told.running };
            kept = blocks_stay next content after agrees (next + 1) parts.kept (omega arith) stored.kept;
          }

      index_with : IsState (with_layout s (flushed (posting ∷ postings) s.layout))
          → IsEngineOf fs space (with_part recorded directory parts) files (with_layout s (flushed (posting ∷ postings) s.layout))
      index_with is = record {
        is_state = is;
        tree = index.tree;
        next = index.next;
        live = index.live;
        files = index.files;
        next_blob = ap (λ (n : ℕ). n + 1) index.next_blob;
        stale = index.stale;
        memory = λ term. refl;
        stored = refl;
        flushes = ap (λ (n : ℕ). n + 1) index.flushes;
      }

    -- ---- any flush

    index_without : IsState (with_layout s (flushed [] s.layout))
        → IsEngineOf fs space (without_postings parts) files (with_layout s (flushed [] s.layout))
    index_without is = record {
      is_state = is;
      tree = index.tree;
      next = index.next;
      live = index.live;
      files = index.files;
      next_blob = index.next_blob;
      stale = index.stale;
      memory = λ term. refl;
      stored = refl;
      flushes = index.flushes;
    }

    -- only postings in memory were dropped
    still_stored : (holds : Option Content) → IsStored holds parts s
        → IsStored holds (without_postings parts) (with_layout s (flushed [] s.layout))
    still_stored None stored = record { texts = stored.texts; parts = tt; job = tt; kept = tt }
    still_stored (Some content) stored = record {
      texts = stored.texts;
      parts = stored.parts;
      job = record { same = stored.job.same; running = stored.job.running };
      kept = stored.kept;
    }

    module _ (parts_now : Contents) (before after : Told) (stored : IsStored before.0 parts s) where
      flushed_by : (kept : List Posting) → IsState (with_layout s (flushed kept s.layout)) → Flushes kept parts parts_now before after
          → IsEngineOf fs space parts_now files (with_layout s (flushed kept s.layout))
          × IsStored after.0 parts_now (with_layout s (flushed kept s.layout))
      flushed_by [] is done =
          let next : State = with_layout s (flushed [] s.layout) in
          let told : IsStored before.0 (without_postings parts) next = still_stored before.0 stored in (
            rw done.0 (index_without is),
            rw (done.1, done.0) told,
          )
      flushed_by (posting ∷ postings) is done =
          let next : State = with_layout s (flushed (posting ∷ postings) s.layout) in
          let holds : after.0 ≡ option_map (with_blob s.layout.blob (Some done.bytes)) before.0 =
          ap (λ (t : Told). t.0) done.stored
          ∙ ap (λ (n : ℕ). option_map (with_blob n (Some done.bytes)) before.0) index.next_blob in
          let told : Tells (option_map (with_blob s.layout.blob (Some done.bytes)) before.0)
          (with_part done.recorded done.directory parts) next.layout =
          rw (done.contents, holds) at (told_flushed (posting ∷ postings) parts_now before after stored done) in (
            rw done.contents (index_with done.recorded done.directory done.bytes posting postings is),
            rw (holds, done.contents)
                (stored_with done.recorded done.directory done.bytes posting postings before.0 stored told),
          )

      -- the live postings are those of the state
      live_there : live_of (map (λ file. file.1) space.ranges) s.layout.memory ≡ live_of (ranges_of s.layout.files) s.layout.memory
      live_there =
          ap (λ (rs : List Range). live_of rs s.layout.memory)
          (ap (map (λ (file : ℕ × Range). file.1)) index.live ∙ ranges-alone s.layout.files)

      pub flush_stands : ((low high : ℕ) (postings : List Posting) → HasPostings low high parts.memory postings
          → Flushes (live_of (map (λ file. file.1) space.ranges) postings) parts parts_now before after)
          → IsEngineOf fs space parts_now files (flushed_state s) × IsStored after.0 parts_now (flushed_state s)
      flush_stands done =
          let has = memory_held fs space parts files s index in
          flushed_by (live_of (ranges_of s.layout.files) s.layout.memory) (flushed_kept s index.is_state)
          (subst (λ (kept : List Posting). Flushes kept parts parts_now before after) live_there
          (done has.0 has.1.0 s.layout.memory has.1.1))

      by_fullness : (full : Bool)
          → FlushesIfFull full (live_of (map (λ file. file.1) space.ranges) s.layout.memory) parts parts_now before after
          → IsEngineOf fs space parts_now files (with_layout s (cond full (flush s.layout) s.layout))
          × IsStored after.0 parts_now (with_layout s (cond full (flush s.layout) s.layout))
      by_fullness true done =
          flushed_by (live_of (ranges_of s.layout.files) s.layout.memory) (flushed_kept s index.is_state)
          (subst (λ (kept : List Posting). Flushes kept parts parts_now before after) live_there done)
      by_fullness false done = (
        rw done.0 index,
        rw (done.1, done.0) stored,
      )

      -- a flush that follows where memory is full
      pub full_stands : FlushesFull space.ranges parts parts_now before after
          → IsEngineOf fs space parts_now files (flushed_if_full parts.flush_at s)
          × IsStored after.0 parts_now (flushed_if_full parts.flush_at s)
      full_stands done =
          let has = memory_held fs space parts files s index in
          by_fullness (nat_le parts.flush_at (length s.layout.memory))
          (subst (λ (n : ℕ). FlushesIfFull (nat_le parts.flush_at n) (live_of (map (λ file. file.1) space.ranges) s.layout.memory)
          parts parts_now before after) index.stored (done.postings has.0 has.1.0 s.layout.memory has.1.1))
