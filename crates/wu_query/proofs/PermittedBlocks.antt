-- Where blocks are asked for, only blocks of these are read, and those that a user's frames need are blocks that her query may read.
use Rattle.std.proofs.Common.{◌≡◌, ℕ, ◌+◌, true, false, cond, List, [], ◌∷◌, ◌++◌, map, filter, refl, sym, ap, ◌∙◌, subst, inl, inr, ⊎_elim}
use Rattle.std.proofs.Common.{append-nil, append_assoc}
use Rattle.std.proofs.Math.Bool.{Bool-set}
use Rattle.std.proofs.Math.Logic.{∥∥₁_elim}
use Rattle.std.specs.Prelude.{Option, None, Some, option_map, filter_map, zip, Result, Ok, Err, OnOk, IfErr}
use Rattle.std.specs.List.{AllByRecursion, cons_option, enumerate_from, list_any}
use Rattle.std.specs.Map.{keys_of}
use Rattle.std.proofs.lemmas.List.Sorted.{IsPermutation-map, list_any-IsPermutation}
use Rattle.lru.proofs.Splits.{all_map, all_unmap}
use Rattle.wu_base.specs.declared.addresses.PartRec.{PartRec}
use Rattle.wu_base.specs.declared.addresses.Range.{Range}
use Rattle.wu_base.specs.declared.troubles.Trouble.{Trouble}
use Rattle.wu_base.proofs.EachLemmas.{each-append, each-map, each_left}
use Rattle.wu_outside.specs.Content.{Content}
use Rattle.wu_outside.specs.declared.ranges.ReadRange.{ReadRange}
use Rattle.wu_ask.specs.Questions.{Question, Counting, Finding, Ranking, ListingPaths, ListingTerms, Exporting, Weighing}
use Rattle.wu_layout.specs.Invariants.{SomeOf}
use Rattle.wu_layout.specs.Layouts.{Part}
use Rattle.wu_layout.proofs.KeptLemmas.{SomeOf-cases}
use Rattle.wu_part.specs.Directories.{PartDirectory}
use Rattle.wu_lists.specs.declared.blocks.Block.{Block}
use Rattle.wu_lists.specs.Blocks.{blocks_of, meets, needed, overlaps, range_of}
use Rattle.wu_lists.specs.Keeping.{Asks, Kept, all_missing, asked, is_same, missing}
use Rattle.wu_view.specs.declared.Seen.{Seen}
use Rattle.wu_view.specs.Views.{view_of as files_of}
use Rattle.wu_space.specs.Addresses.{Ranges, range_of as live_range_of}
use Rattle.wu_parts.specs.Candidates.{terms_held}
use Rattle.wu_parts.specs.Contents.{Contents}
use Rattle.wu_parts.specs.Holdings.{HoldParts, all_needed}
use Rattle.wu_frames.specs.declared.Frame.{Frame}
use Rattle.wu_frames.specs.declared.Frames.{Frames}
use Rattle.wu_frames.specs.UserFrames.{frame_of, frame_with, frames_in}
use Rattle.wu_query.specs.Asked.{blocks_for, terms_asked}
use Rattle.wu_query.specs.Permitted.{AreReadForQuery, IsBlockForQuery, IsNeededBlockOf, IsOneOf, ReadsOnly, ReadsSuch, live_ranges_of}
use Rattle.wu_query.specs.Reads.{texts_read}
use Rattle.wu_query.specs.States.{State}
use Rattle.wu_query.specs.Searched.{Indexes, TellsPostings}
use Rattle.wu_query.specs.Units.{IsCauseFor}
use Rattle.wu_query.proofs.HeldTerms.{needed_of_words}

-- ---- what is read

-- what was read first and what was read then, in one list
pub reads_joined : (ranges : Option (List ReadRange)) (xs ys : List ReadRange)
    → option_map (λ earlier. earlier ++ ys) (option_map (λ earlier. earlier ++ xs) ranges)
    ≡ option_map (λ earlier. earlier ++ (xs ++ ys)) ranges
reads_joined None xs ys = refl
reads_joined (Some earlier) xs ys = ap (λ (rs : List ReadRange). Some rs) (append_assoc earlier xs ys)

-- where each range of one kind is of another too, what reads only ranges of the one reads only ranges of the other
pub only_of : (Fewer More : ReadRange → Type 0) (before after : Option (List ReadRange)) → ((range : ReadRange) → Fewer range → More range)
    → ReadsOnly Fewer before after → ReadsOnly More before after
only_of Fewer More before after more only = (only.0, each-map Fewer More only.0 more only.1, only.2)

-- a query may read blocks alone
blocks_alone : (s : State) (uid : ℕ) (question : Question) (before after : Option (List ReadRange))
    → ReadsOnly (IsBlockForQuery s uid question) before after → ReadsSuch (AreReadForQuery s uid question) before after
blocks_alone s uid question before after only = (
  only.0,
  record {
    blocks = only.0;
    needed = only.1;
    texts = [];
    left = texts_read s uid question;
    front = refl;
    in_turn = sym (append-nil only.0);
  },
  only.2,
)

-- ---- blocks that are asked for

-- what is true of each block is true of each that is read
missing_each : (P : Block → Type 0) (cap : ℕ) (kept blocks : List Block) → AllByRecursion P blocks
    → AllByRecursion P (all_missing cap kept blocks)
missing_each P cap kept [] all = tt
missing_each P cap kept (block ∷ later) all =
    each-append P (missing kept block) (all_missing cap (asked cap kept block) later)
    (elim (list_any (is_same block) kept) as (λ b. AllByRecursion P (cond b [] (block ∷ []))) [
      | true ↦ tt
      | false ↦ (all.0, tt)
    ])
    (missing_each P cap (asked cap kept block) later all.1)

-- each block is where one of them is
pub each_one : (blocks : List Block) → AllByRecursion (IsOneOf blocks) (map range_of blocks)
each_one [] = tt
each_one (block ∷ blocks) =
    (inl refl, each-map (IsOneOf blocks) (IsOneOf (block ∷ blocks)) (map range_of blocks) (λ range one. inr one) (each_one blocks))

module _ (contents : Contents) (frames : List Range) (terms : List (List ℕ)) (holds : Option Content)
    (before after : Option (List ReadRange)) where
  abbrev blocks : List Block
  blocks = blocks_for contents frames terms

  abbrev unkept : List Block
  unkept = all_missing contents.kept.cap (keys_of contents.kept.entries) blocks

  -- it is where one of the blocks is
  abbrev IsThere : Block → Type 0
  IsThere block = IsOneOf blocks (range_of block)

  unkept_there : AllByRecursion IsThere unkept
  unkept_there =
      missing_each IsThere contents.kept.cap (keys_of contents.kept.entries) blocks
      (all_unmap range_of (IsOneOf blocks) blocks (each_one blocks))

  -- fetching the terms reads only blocks of theirs
  asked_only : {kept : Kept} → Asks blocks holds contents.kept kept before after → ReadsOnly (IsOneOf blocks) before after
  asked_only asks = (map range_of unkept, all_map range_of (IsOneOf blocks) unkept unkept_there, asks.read)

  -- where fetching them fails too
  failed_only : {faults now : ℕ} {trouble : Trouble} → IsCauseFor contents frames terms holds faults now before after trouble
      → ReadsOnly (IsOneOf blocks) before after
  failed_only cause = (
    map range_of cause.added,
    all_map range_of (IsOneOf blocks) cause.added
        (each_left IsThere cause.added cause.unread (subst (AllByRecursion IsThere) cause.front unkept_there)),
    cause.read,
  )

-- ---- blocks that frames need

-- the ranges of a view's frames are the live ranges of its files
ranges_in_view : (live : Ranges) (n : ℕ) (view : List Seen)
    → map (λ frame. frame.range) (filter_map (frame_of live) (enumerate_from n view))
    ≡ filter_map (λ file. live_range_of live file.ino) view
ranges_in_view live n [] = refl
ranges_in_view live n (file ∷ view) =
    let later = ranges_in_view live (n + 1) view in
    elim (live_range_of live file.ino) as
    (λ o. map (λ (frame : Frame). frame.range)
    (cons_option (option_map (frame_with n file.ino) o) (filter_map (frame_of live) (enumerate_from (n + 1) view)))
    ≡ cons_option o (filter_map (λ (f : Seen). live_range_of live f.ino) view)) [
      | None ↦ later
      | Some range ↦ ap (λ (ranges : List Range). range ∷ ranges) later
    ]

module _ (frames : Frames) (live : Ranges) (s : State) (uid : ℕ) (is : Indexes frames live s uid) where
  same_met : (block : Block) → meets frames.ranges block ≡ meets (live_ranges_of s uid) block
  same_met block =
      ∥∥₁_elim is.hers.of_view (Bool-set _ _)
      (λ moved.
      ap (list_any (overlaps block)) is.hers.ranges_alone
      ∙ sym (list_any-IsPermutation (overlaps block) (map (λ (frame : Frame). frame.range) (frames_in live (files_of s.tree uid)))
      (map (λ (frame : Frame). frame.range) frames.by_address)
      (IsPermutation-map (λ (frame : Frame). frame.range) (frames_in live (files_of s.tree uid)) frames.by_address moved))
      ∙ ap (list_any (overlaps block)) (ranges_in_view live 0 (files_of s.tree uid))
      ∙ ap (λ (l : Ranges). list_any (overlaps block) (filter_map (λ (f : Seen). live_range_of l f.ino) (files_of s.tree uid)))
      is.index.ranges)

  same_needed : (blob : ℕ) (directory : PartDirectory) (term : List ℕ)
      → needed blob directory term frames.ranges ≡ needed blob directory term (live_ranges_of s uid)
  same_needed blob directory term = λ i. filter (λ (block : Block). same_met block i) (blocks_of blob directory term)

  module _ (content : Content) (range : ReadRange) where
    -- the block is one of these parts
    in_parts : (term : List ℕ) (records : List PartRec) (directories : List PartDirectory) (parts : List Part)
        → HoldParts content records directories parts → IsOneOf (all_needed (zip records directories) term frames.ranges) range
        → SomeOf (IsNeededBlockOf (live_ranges_of s uid) term range) parts
    in_parts term [] [] [] holds one = one
    in_parts term [] [] (part ∷ parts) holds one = absurd holds
    in_parts term [] (directory ∷ directories) parts holds one = absurd holds
    in_parts term (recorded ∷ records) [] parts holds one = absurd holds
    in_parts term (recorded ∷ records) (directory ∷ directories) [] holds one = absurd holds
    in_parts term (recorded ∷ records) (directory ∷ directories) (part ∷ parts) holds one =
        ⊎_elim
        (λ here. inl (
          directory,
          record {
            recorded = recorded;
            record_of = holds.0.record_of;
            told = holds.0.told;
            bytes = holds.0.bytes;
            spelled = holds.0.spelled;
          },
          subst (λ (blocks : List Block). IsOneOf blocks range)
              (ap (λ (blob : ℕ). needed blob directory term frames.ranges) holds.0.record_of.blob
              ∙ same_needed part.blob directory term) here,
        ))
        (λ later. inr (in_parts term records directories parts holds.1 later))
        (SomeOf-cases (λ (block : Block). range_of block ≡ range) (needed recorded.blob directory term frames.ranges)
        (all_needed (zip records directories) term frames.ranges) one)

    -- and of one of these terms
    in_terms : (contents : Contents) → HoldParts content contents.parts contents.directories s.layout.parts → (terms : List (List ℕ))
        → IsOneOf (blocks_for contents frames.ranges terms) range
        → SomeOf (λ term. SomeOf (IsNeededBlockOf (live_ranges_of s uid) term range) s.layout.parts) terms
    in_terms contents holds [] one = one
    in_terms contents holds (term ∷ terms) one =
        ⊎_elim
        (λ here. inl (in_parts term contents.parts contents.directories s.layout.parts holds here))
        (λ later. inr (in_terms contents holds terms later))
        (SomeOf-cases (λ (block : Block). range_of block ≡ range) (all_needed (zip contents.parts contents.directories) term frames.ranges)
        (blocks_for contents frames.ranges terms) one)

  abbrev IsNeeded : ReadRange → List ℕ → Type 0
  IsNeeded range term = SomeOf (IsNeededBlockOf (live_ranges_of s uid) term range) s.layout.parts

  -- a block of a term that is asked for of the index is one of a term that is asked for of the state
  asked_of_state : (contents : Contents) (range : ReadRange) (question : Question)
      → SomeOf (IsNeeded range) (terms_asked (terms_held contents) question) → IsBlockForQuery s uid question range
  asked_of_state contents range (Counting region) some = some
  asked_of_state contents range (Finding k region) some = some
  asked_of_state contents range (Ranking k unit words) some = some
  asked_of_state contents range ListingPaths some = some
  asked_of_state contents range (ListingTerms k prefix top) some =
      needed_of_words s (live_ranges_of s uid) range prefix (terms_held contents) some
  asked_of_state contents range Exporting some = some
  asked_of_state contents range (Weighing k unit words) some = some

  -- the blocks that her frames need of a question's terms are those that her query may read
  block_permitted : (contents : Contents) (holds : Option Content) → TellsPostings contents holds s
      → (question : Question) (range : ReadRange)
      → IsOneOf (blocks_for contents frames.ranges (terms_asked (terms_held contents) question)) range
      → IsBlockForQuery s uid question range
  block_permitted contents None tells question range one = let told = tells.told in absurd (cc)
  block_permitted contents (Some content) tells question range one =
      asked_of_state contents range question
      (in_terms content range contents tells.parts (terms_asked (terms_held contents) question) one)

  module _ (contents : Contents) (holds : Option Content) (tells : TellsPostings contents holds s) (question : Question)
      {terms : List (List ℕ)} (same : terms ≡ terms_asked (terms_held contents) question) (before after : Option (List ReadRange)) where
    blocks_permitted : ReadsOnly (IsOneOf (blocks_for contents frames.ranges terms)) before after
        → ReadsOnly (IsBlockForQuery s uid question) before after
    blocks_permitted only =
        only_of (IsOneOf (blocks_for contents frames.ranges (terms_asked (terms_held contents) question))) (IsBlockForQuery s uid question)
        before after (block_permitted contents holds tells question)
        (rw same at only)

    -- fetching the question's terms reads only blocks that her query may read, also where it fails
    pub asked_blocks : {kept : Kept} → Asks (blocks_for contents frames.ranges terms) holds contents.kept kept before after
        → ReadsOnly (IsBlockForQuery s uid question) before after
    asked_blocks asks = blocks_permitted (asked_only contents frames.ranges terms holds before after asks)

    pub asked_permitted : {kept : Kept} → Asks (blocks_for contents frames.ranges terms) holds contents.kept kept before after
        → ReadsSuch (AreReadForQuery s uid question) before after
    asked_permitted asks = blocks_alone s uid question before after (asked_blocks asks)

    pub failed_permitted : {faults now : ℕ} {trouble : Trouble}
        → IsCauseFor contents frames.ranges terms holds faults now before after trouble
        → ReadsSuch (AreReadForQuery s uid question) before after
    failed_permitted cause =
        blocks_alone s uid question before after (blocks_permitted (failed_only contents frames.ranges terms holds before after cause))

    pub fetched_permitted : {T : Type 0} (r : Result T Trouble) (kept : Kept) (faults now : ℕ)
        → OnOk r (Asks (blocks_for contents frames.ranges terms) holds contents.kept kept before after)
        → IfErr r (IsCauseFor contents frames.ranges terms holds faults now before after)
        → ReadsSuch (AreReadForQuery s uid question) before after
    fetched_permitted (Ok value) kept faults now asks cause = asked_permitted asks
    fetched_permitted (Err trouble) kept faults now asks cause = failed_permitted cause
