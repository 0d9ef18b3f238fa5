-- What is read for a question that has no text shown, and why it fails: its terms are fetched, and nothing else.
use Rattle.std.proofs.Common.{ℕ, refl}
use Rattle.std.specs.Prelude.{IfErr, OnOk, Result}
use Rattle.std.proofs.lemmas.Result.{on_ok_weaker}
use Rattle.wu_base.specs.declared.troubles.Trouble.{Trouble}
use Rattle.wu_outside.specs.declared.traits.Store as stores
use Rattle.wu_ask.specs.Questions.{Question}
use Rattle.wu_frames.specs.declared.Frames.{Frames}
use Rattle.wu_lists.specs.Keeping.{Asks}
use Rattle.wu_parts.specs.Candidates.{terms_held}
use Rattle.wu_parts.specs.Contents.{Contents}
use Rattle.wu_space.specs.Addresses.{Ranges}
use Rattle.wu_query.specs.Asked.{blocks_for, terms_asked}
use Rattle.wu_query.specs.Causes.{IsDamagedOver}
use Rattle.wu_query.specs.Finding.{AreTextsOf, IsQueryCause}
use Rattle.wu_query.specs.Permitted.{AreReadForQuery, ReadsSuch}
use Rattle.wu_query.specs.Reads.{ReadsInTurn, ShowsNoText}
use Rattle.wu_query.specs.Records.{Records}
use Rattle.wu_query.specs.Searched.{Indexes, TellsPostings}
use Rattle.wu_query.specs.States.{State}
use Rattle.wu_query.specs.Units.{IsCauseFor}
use Rattle.wu_query.proofs.FirstLines.{no_text_read}
use Rattle.wu_query.proofs.PermittedBlocks.{fetched_permitted}
use Rattle.wu_query.proofs.QueryReads.{blocks_alone, cause_fetched}
use Rattle.wu_query.proofs.ReadCauses.{if_err}

-- Only blocks of the question's terms are read, those that her query may read, and it fails only where their fetch does.
pub record OnlyFetches {D T : Type 0} (Store : stores.Ghosts D) (frames : Frames) (question : Question) (files : Records)
    (parts now : Contents) (old new : D) (r : Result T Trouble) : Type 0 where
  pub reads : OnOk r (ReadsInTurn (blocks_for parts frames.ranges (terms_asked (terms_held parts) question))
      (AreTextsOf frames parts files (Store.holds old) question) (Store.holds old) parts.kept now.kept (Store.reads old) (Store.reads new))
  pub permitted : (live : Ranges) (s : State) (uid : ℕ) → Indexes frames live s uid → TellsPostings parts (Store.holds old) s
      → ReadsSuch (AreReadForQuery s uid question) (Store.reads old) (Store.reads new)
  pub cause : IfErr r (IsQueryCause (IsDamagedOver frames question parts files (Store.holds old)) (Store.faults old) (Store.faults new)
      (Store.reads old) (Store.reads new))

module _ {D T : Type 0} {Store : stores.Ghosts D} {frames : Frames} {question : Question} {files : Records} {parts now : Contents}
    {old new : D} {r : Result T Trouble} where
  pub only_fetches : ShowsNoText question
      → OnOk r (Asks (blocks_for parts frames.ranges (terms_asked (terms_held parts) question)) (Store.holds old) parts.kept now.kept
      (Store.reads old) (Store.reads new))
      → IfErr r (IsCauseFor parts frames.ranges (terms_asked (terms_held parts) question) (Store.holds old) (Store.faults old)
      (Store.faults new) (Store.reads old) (Store.reads new))
      → OnlyFetches Store frames question files parts now old new r
  only_fetches none asks cause = record {
    reads = on_ok_weaker r
        (blocks_alone question (blocks_for parts frames.ranges (terms_asked (terms_held parts) question)) frames parts files
        (Store.holds old) parts.kept now.kept (Store.reads old) (Store.reads new) (no_text_read question none)) asks;
    permitted = λ live s uid is tells.
        fetched_permitted frames live s uid is parts (Store.holds old) tells question refl (Store.reads old) (Store.reads new) r now.kept
        _ _ asks cause;
    cause = if_err r cause (λ trouble because. cause_fetched frames question parts files (Store.holds old) refl because);
  }
