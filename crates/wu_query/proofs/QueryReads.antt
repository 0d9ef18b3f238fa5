-- What a query reads, and why it fails.
use Rattle.std.proofs.Common.{◌≡◌, ℕ, List, [], ◌∷◌, ◌++◌, map, refl, sym, subst, inl, inr, ⊎_elim, arith}
use Rattle.std.specs.Prelude.{Option, Result, IfErr, IsErrAnd}
use Rattle.std.specs.List.{AllByRecursion}
use Rattle.lru.proofs.Splits.{all_unmap}
use Rattle.wu_base.proofs.EachLemmas.{each_left}
use Rattle.wu_base.specs.declared.troubles.Trouble.{Trouble}
use Rattle.wu_base.specs.declared.troubles.Trouble.TheVariants.{NoMemory}
use Rattle.wu_outside.specs.Content.{Content}
use Rattle.wu_outside.specs.declared.ranges.ReadRange.{ReadRange}
use Rattle.wu_ask.specs.Questions.{Question}
use Rattle.wu_tree.specs.FileSystems.{FileSystem}
use Rattle.wu_space.specs.Addresses.{Ranges}
use Rattle.wu_frames.specs.declared.Frames.{Frames}
use Rattle.wu_frames.specs.UserFrames.{AreFrames}
use Rattle.wu_layout.specs.Invariants.{SomeOf}
use Rattle.wu_lists.specs.declared.blocks.Block.{Block}
use Rattle.wu_lists.specs.Blocks.{range_of}
use Rattle.wu_lists.specs.Keeping.{Asks, Kept}
use Rattle.wu_lists.proofs.Asking.{ranges-none}
use Rattle.wu_parts.specs.Candidates.{terms_held}
use Rattle.wu_parts.specs.Contents.{Contents}
use Rattle.wu_query.specs.Causes.{HasBlockOf, IsDamagedOver}
use Rattle.wu_query.specs.Asked.{blocks_for, blocks_read, terms_asked}
use Rattle.wu_query.specs.Finding.{AreTextsOf, IsQueryCause, KeepsTexts}
use Rattle.wu_query.specs.Reads.{AreTexts, ReadsForQuery, ReadsInTurn, texts_read}
use Rattle.wu_query.specs.Permitted.{IsOneOf}
use Rattle.wu_query.specs.Records.{Records}
use Rattle.wu_query.specs.States.{State}
use Rattle.wu_query.specs.Searched.{IsIndexOf, TellsPostings}
use Rattle.wu_query.specs.Units.{IsCauseFor}
use Rattle.wu_query.proofs.PassedCauses.{err_from}
use Rattle.wu_query.proofs.PermittedBlocks.{each_one}

-- a question that has no text shown reads blocks alone
pub blocks_alone : (question : Question) (blocks : List Block) (frames : Frames) (contents : Contents) (files : Records)
    (holds : Option Content) (old new : Kept) (before after : Option (List ReadRange))
    → ((s : State) (uid : ℕ) → texts_read s uid question ≡ []) → Asks blocks holds old new before after
    → ReadsInTurn blocks (AreTextsOf frames contents files holds question) holds old new before after
blocks_alone question blocks frames contents files holds old new before after none asks = record {
  between = after;
  asks = asks;
  texts = [];
  are = record {
    are = record { of_files = tt; none = λ h. refl };
    shown = λ live s uid is tells keeps. sym (none s uid);
  };
  read = ranges-none after;
}

-- the range of a block is in its blob, and like those of the others
range_in : (Is : ReadRange → Type 0) (blob : ℕ) (blocks : List Block) → AllByRecursion (λ block. Is (range_of block)) blocks
    → SomeOf (λ block. block.blob ≡ blob) blocks → SomeOf (λ range. (range.blob ≡ blob) × Is range) (map range_of blocks)
range_in Is blob [] all some = absurd some
range_in Is blob (block ∷ blocks) all some =
    ⊎_elim (λ here. inl (here, all.0)) (λ later. inr (range_in Is blob blocks all.1 later)) some

-- the first of the blocks were read, and one of them is in that blob
block_read : (blob : ℕ) (blocks added unread : List Block) → blocks ≡ added ++ unread → SomeOf (λ block. block.blob ≡ blob) added
    → HasBlockOf blocks (map range_of added) blob
block_read blob blocks added unread front some =
    let IsThere : Block → Type 0 = λ block. IsOneOf blocks (range_of block) in
    range_in (IsOneOf blocks) blob added
    (each_left IsThere added unread
    (subst (AllByRecursion IsThere) front (all_unmap range_of (IsOneOf blocks) blocks (each_one blocks)))) some

-- what a fetch answers is damage that the question may find
pub cause_fetched : (frames : Frames) (question : Question) (contents : Contents) (files : Records) (holds : Option Content)
    {terms : List (List ℕ)} → terms ≡ terms_asked (terms_held contents) question → {before now : ℕ}
    {ranges ranges_now : Option (List ReadRange)} {trouble : Trouble}
    → IsCauseFor contents frames.ranges terms holds before now ranges ranges_now trouble
    → IsQueryCause (IsDamagedOver frames question contents files holds) before now ranges ranges_now trouble
cause_fetched frames question contents files holds {terms} same cause = record {
  kept = cause.counted;
  store_fault = cause.store_fault;
  calm = cause.calm;
  damaged = λ blob h.
      let found = cause.damaged blob h in
      let blocks = blocks_read contents frames.ranges terms in (
        map range_of cause.added,
        inl (rw same at (block_read blob blocks cause.added cause.unread cause.front found.0), found.1),
        cause.read,
      );
}

-- over the frames that were made for the user
pub reads_for : (fs : FileSystem) (live : Ranges) (uid : ℕ) (question : Question) (contents : Contents) (kept : Kept) (files : Records)
    (holds : Option Content) (before after : Option (List ReadRange)) (frames : Frames) → AreFrames fs live uid frames
    → ReadsInTurn (blocks_for contents frames.ranges (terms_asked (terms_held contents) question))
    (AreTextsOf frames contents files holds question) holds contents.kept kept before after
    → ReadsForQuery fs live uid question contents kept (λ texts. AreTexts holds files question texts × ((s : State) → fs ≡ s.tree
    → IsIndexOf live s → TellsPostings contents holds s → KeepsTexts files holds s → texts ≡ texts_read s uid question)) holds before after
reads_for fs live uid question contents kept files holds before after frames hers reads = record {
  frames = frames;
  hers = hers;
  reads = record {
    between = reads.between;
    asks = reads.asks;
    texts = reads.texts;
    are = (
      reads.are.are,
      λ s tree index tells keeps. reads.are.shown live s uid
          (record { index = index; hers = subst (λ (t : FileSystem). AreFrames t live uid frames) tree hers }) tells keeps,
    );
    read = reads.read;
  };
}

-- ---- troubles of a query

-- memory ran out, and no fault rose
pub no_memory : {IsDamaged : List ReadRange → ℕ → Type 0} {faults : ℕ} {ranges ranges_now : Option (List ReadRange)}
    → IsQueryCause IsDamaged faults faults ranges ranges_now NoMemory
no_memory = record {
  kept = omega arith;
  store_fault = λ h. absurd (cc);
  calm = λ h. refl;
  damaged = λ blob h. absurd (cc);
}

module _ {T : Type 0} (r : Result T Trouble) where
  pub cause_of_memory : (IsDamaged : List ReadRange → ℕ → Type 0) {before now : ℕ} (ranges ranges_now : Option (List ReadRange))
      → now ≡ before → IsErrAnd r (λ error. error ≡ NoMemory) → IfErr r (IsQueryCause IsDamaged before now ranges ranges_now)
  cause_of_memory IsDamaged {before} {now} ranges ranges_now calm is =
      err_from (IsQueryCause IsDamaged before now ranges ranges_now) r NoMemory is (rw calm no_memory)

  -- a trouble of the fetch
  pub cause_of_fetch : (frames : Frames) (question : Question) (contents : Contents) (files : Records) (holds : Option Content)
      {trouble : Trouble} → IsErrAnd r (λ error. error ≡ trouble) → {terms : List (List ℕ)}
      → terms ≡ terms_asked (terms_held contents) question → {before now : ℕ} {ranges ranges_now : Option (List ReadRange)}
      → IsCauseFor contents frames.ranges terms holds before now ranges ranges_now trouble
      → IfErr r (IsQueryCause (IsDamagedOver frames question contents files holds) before now ranges ranges_now)
  cause_of_fetch frames question contents files holds {trouble} is same cause =
      err_from _ r trouble is (cause_fetched frames question contents files holds same cause)
