-- The engine stands for the state after an event.
use Rattle.std.proofs.Common.{◌≡◌, ℕ, ◌+◌, ◌≤◌, true, false, cond, List, ◌++◌, length, map, Ok, Err, refl, ap, sym, ◌∙◌, subst, arith}
use Rattle.std.proofs.Common.{length-append}
use Rattle.std.specs.Prelude.{Option, Some, None, IfSome, option_map}
use Rattle.wu_base.specs.declared.limits.TheConstants.{TEXT_MAX}
use Rattle.wu_outside.specs.Content.{Content, with_blob}
use Rattle.wu_tree.specs.declared.events.Event.{Event}
use Rattle.wu_tree.specs.declared.events.Effect.{Effect}
use Rattle.wu_tree.specs.declared.events.Refusal.{Refusal}
use Rattle.wu_tree.specs.FileSystems.{FileSystem}
use Rattle.wu_tree.specs.Effects.{TellsFiles}
use Rattle.wu_tree.specs.Steps.{IsEvent}
use Rattle.wu_tree.specs.Steps.{step as tree_step}
use Rattle.wu_layout.specs.Postings.{Posting, addresses_of, live_of, placed_from}
use Rattle.wu_layout.proofs.PostingLemmas.{length-placed}
use Rattle.wu_parts.specs.Flushing.{Flushes, Told}
use Rattle.wu_parts.specs.Memory.{HasPostings}
use Rattle.wu_parts.specs.Holdings.{HoldParts}
use Rattle.wu_parts.specs.Contents.{Contents}
use Rattle.wu_parts.specs.Working.{TellsJobs, TellsParts}
use Rattle.wu_parts.proofs.Gaining.{holds_more}
use Rattle.wu_parts.proofs.KeptJobs.{tells_with_blob}
use Rattle.wu_query.specs.States.{State}
use Rattle.wu_query.specs.Searched.{HoldsTexts, KeepsBlocks}
use Rattle.wu_engine.specs.declared.engines.Engine.{Engine}
use Rattle.wu_engine.specs.declared.verdicts.Verdict.TheVariants.{Made, Refused}
use Rattle.wu_engine.specs.States.{flushed_if_full, flushed_state, followed, step, after_event}
use Rattle.wu_engine.specs.Stands.{IsEngineOf, KeepsJob, Stands, verdict_of}
use Rattle.wu_engine.specs.Indexing.{Catalog, Follows, blob_for, catalog_of, is_stored, stored_at, terms_after}
use Rattle.wu_engine.proofs.FileChanges.{ChangesFiles}
use Rattle.wu_engine.proofs.FlushedStates.{rises-flush, rises-full}
use Rattle.wu_engine.proofs.FlushLemmas.{IsStored, flush_stands, full_stands, told_here}
use Rattle.wu_engine.proofs.HeldParts.{AgreesBelow, blocks_stay}
use Rattle.wu_engine.proofs.KeptStates.{after_effect, drawn-after, effect_kept, flushes-after, step-accepted, step-refused}
use Rattle.wu_engine.proofs.StoredTexts.{stored_elsewhere}
use Rattle.wu_engine.proofs.ToldCatalogs.{Tells, held_after, memory_after, same_after, tells_after}

-- ---- an engine that is as it was

pub stands_still : (old new : Engine) (s : State) → new.ended ≡ None → (holds : Option Content) → Stands old holds s
    → new.tree ≡ old.tree → new.space ≡ old.space → new.parts ≡ old.parts → new.files.entries ≡ old.files.entries
    → new.checkpoint ≡ old.checkpoint → Stands new holds s
stands_still old new s ended holds stands tree space parts files check = record {
  goes_on = ended;
  index = rw (tree, space, parts, files) stands.index;
  texts = stands.texts;
  parts = rw parts stands.parts;
  job = rw parts stands.job;
  kept = rw parts stands.kept;
  check = check ∙ stands.check;
}

-- ---- what the engine answers

module _ (old new : Engine) (s : State) (event : Event) (text : List ℕ) (ended : new.ended ≡ None)
    (check : new.checkpoint ≡ old.checkpoint) where
  -- what was drawn, stored, indexed and flushed of an accepted event
  module _ (before after : Told) (stands : Stands old before.0 s) (effect : Effect)
      (step_is : tree_step old.tree event ≡ Ok (new.tree, effect)) (valid : IsEvent event) (short : length text ≤ TEXT_MAX)
      (tells : TellsFiles old.tree effect new.tree) (changes : ChangesFiles old.tree effect)
      (f : Follows effect text old.space new.space old.files.entries new.files.entries old.parts new.parts before after) where
    abbrev index : IsEngineOf old.tree old.space old.parts old.files.entries s
    index = stands.index

    abbrev next : State
    next = after_effect s new.tree effect text

    abbrev terms : List (List ℕ)
    terms = terms_after effect text

    tells_here : TellsFiles s.tree effect new.tree
    tells_here = subst (λ (t : FileSystem). TellsFiles t effect new.tree) index.tree tells

    changes_here : ChangesFiles s.tree effect
    changes_here = subst (λ (t : FileSystem). ChangesFiles t effect) index.tree changes

    there : tree_step s.tree event ≡ Ok (new.tree, effect)
    there = ap (λ (t : FileSystem). tree_step t event) (sym index.tree) ∙ step_is

    told : Tells (catalog_of new.space new.files.entries f.indexed) next.texts next.layout
    told =
        subst (λ (k : Catalog). Tells k next.texts next.layout) (sym f.catalog)
        (tells_after s index.is_state new.tree effect tells_here changes_here text f.blob _
        (f.drawn ∙ ap (blob_for effect.texted text) index.next_blob)
        (record { next = index.next; live = index.live; files = index.files; stale = index.stale }))

    more : next.layout.memory ≡ s.layout.memory ++ placed_from old.space.next terms
    more = memory_after effect text s.layout ∙ ap (λ (n : ℕ). s.layout.memory ++ placed_from n terms) (sym index.next)

    index_between : IsEngineOf new.tree new.space f.indexed new.files.entries next
    index_between = record {
      is_state = effect_kept s event text index.is_state valid short new.tree effect there;
      tree = refl;
      next = told.next;
      live = told.live;
      files = told.files;
      next_blob =
          ap (λ (c : Contents). c.next_blob) f.others ∙ ap (λ (n : ℕ). n + cond (is_stored effect.texted text) 1 0) index.next_blob
          ∙ sym (drawn-after effect s.layout text);
      stale = told.stale;
      memory = λ term.
          holds_more old.space.next terms old.parts.memory f.indexed.memory s.layout.memory f.gained index.memory term
          ∙ ap (addresses_of term) (sym more);
      stored =
          omega (
            arith,
            f.gained.stored,
            index.stored,
            ap length more,
            length-append s.layout.memory (placed_from old.space.next terms),
            length-placed old.space.next terms,
          );
      flushes = ap (λ (c : Contents). c.flushes) f.others ∙ index.flushes ∙ sym (flushes-after effect text s.layout);
    }

    same_parts : next.layout.parts ≡ s.layout.parts
    same_parts = same_after (λ l. l.parts) (λ ino l. refl) (λ ino t l. refl) effect text s.layout

    same_job : next.layout.job ≡ s.layout.job
    same_job = same_after (λ l. l.job) (λ ino l. refl) (λ ino t l. refl) effect text s.layout

    check_followed : (flushed_if_full f.indexed.flush_at next).layout.check ≡ s.layout.check
    check_followed =
        (rises-full f.indexed.flush_at next.layout).check
        ∙ same_after (λ l. l.check) (λ ino l. refl) (λ ino t l. refl) effect text s.layout

    -- the text's blob is none of the parts'
    told_between : (content : Content) → TellsParts content old.parts s.layout
        → TellsParts (stored_at s.layout.blob effect.texted text content) old.parts s.layout
    told_between content told =
        elim (is_stored effect.texted text) as
        (λ b. TellsParts (cond b (with_blob s.layout.blob (Some text) content) content) old.parts s.layout) [
          | true ↦
              tells_with_blob s.layout content old.parts index.is_state.layout.blobs told s.layout.blob (Some text) (omega arith)
          | false ↦ told
        ]

    -- what the store holds after the text was put
    stored_between : (o : Option Content) → HoldsTexts o s.texts s.layout.files
        → IfSome o (λ content. HoldParts content old.parts.parts old.parts.directories s.layout.parts)
        → IfSome o (λ content. KeepsJob content s.layout old.parts)
        → IfSome o (λ content. KeepsBlocks content s.layout.blob old.parts.kept)
        → IsStored (option_map (stored_at s.layout.blob effect.texted text) o) f.indexed next
    stored_between None texts parts job kept = absurd texts
    stored_between (Some content) texts parts job kept =
        let now : Content = stored_at s.layout.blob effect.texted text content in
        let agrees : AgreesBelow s.layout.blob content now =
        λ number under. stored_elsewhere s.layout.blob effect.texted text content number (λ same. omega (arith, under, same)) in
        let told : TellsParts now old.parts s.layout =
        told_between content (told_here old.tree old.space old.parts old.files.entries s index content parts job) in
        let rises : s.layout.blob ≤ next.layout.blob = omega (arith, drawn-after effect s.layout text) in
        let stored : IsStored (Some now) old.parts next =
        record {
          texts = held_after s index.is_state new.tree effect tells_here changes_here text content texts;
          parts = subst (HoldParts now old.parts.parts old.parts.directories) (sym same_parts) told.parts;
          job = record {
            same =
                subst (λ ps. TellsJobs now ps old.parts.job next.layout.job) (sym same_parts)
                (subst (TellsJobs now s.layout.parts old.parts.job) (sym same_job) told.job);
            running = told.running;
          };
          kept = blocks_stay s.layout.blob content now agrees next.layout.blob old.parts.kept rises kept;
        } in
        subst (λ (c : Contents). IsStored (Some now) c next) (sym f.others)
        (record {
          texts = stored.texts;
          parts = stored.parts;
          job = record { same = stored.job.same; running = stored.job.running };
          kept = stored.kept;
        })

    pub accepted : (Made ≡ verdict_of (step s event text)) × Stands new after.0 (after_event old.parts.flush_at s event text)
    accepted =
        let stepped : step s event text ≡ Ok next = step-accepted s event text new.tree effect there in
        let between : IsStored f.between.0 f.indexed next =
        subst (λ (o : Option Content). IsStored o f.indexed next)
        (sym (f.stored ∙ ap (λ (n : ℕ). option_map (stored_at n effect.texted text) before.0) index.next_blob))
        (stored_between before.0 stands.texts stands.parts stands.job stands.kept) in
        let both = full_stands new.tree new.space f.indexed new.files.entries next index_between new.parts f.between after between
        f.flushed in
        let same : after_event old.parts.flush_at s event text ≡ flushed_if_full f.indexed.flush_at next =
        ap (followed old.parts.flush_at s) stepped
        ∙ ap (λ (n : ℕ). flushed_if_full n next) (sym (ap (λ (c : Contents). c.flush_at) f.others)) in (
          sym (ap verdict_of stepped),
          subst (Stands new after.0) (sym same) (record {
            goes_on = ended;
            index = both.0;
            texts = both.1.texts;
            parts = both.1.parts;
            job = both.1.job;
            kept = both.1.kept;
            check = check ∙ stands.check ∙ sym check_followed;
          }),
        )

  -- the event was refused
  pub refused : (holds : Option Content) → Stands old holds s → (refusal : Refusal) → tree_step old.tree event ≡ Err refusal
      → new.tree ≡ old.tree → new.space ≡ old.space → new.parts ≡ old.parts → new.files.entries ≡ old.files.entries
      → (Refused refusal ≡ verdict_of (step s event text)) × Stands new holds (after_event old.parts.flush_at s event text)
  refused holds stands refusal is tree space parts files =
      let after : step s event text ≡ Err refusal =
      step-refused s event text refusal (ap (λ (t : FileSystem). tree_step t event) (sym stands.index.tree) ∙ is) in (
        sym (ap verdict_of after),
        subst (Stands new holds) (sym (ap (followed old.parts.flush_at s) after))
            (stands_still old new s ended holds stands tree space parts files check),
      )

-- ---- a flush

pub flushed_on : (old new : Engine) (s : State) → new.ended ≡ None → (before after : Told) → Stands old before.0 s
    → new.tree ≡ old.tree → new.space ≡ old.space → new.files.entries ≡ old.files.entries → new.checkpoint ≡ old.checkpoint
    → ((low high : ℕ) (postings : List Posting) → HasPostings low high old.parts.memory postings
    → Flushes (live_of (map (λ file. file.1) old.space.ranges) postings) old.parts new.parts before after)
    → Stands new after.0 (flushed_state s)
flushed_on old new s ended before after stands tree space files check done =
    let stored : IsStored before.0 old.parts s =
    record { texts = stands.texts; parts = stands.parts; job = stands.job; kept = stands.kept } in
    let both = flush_stands old.tree old.space old.parts old.files.entries s stands.index new.parts before after stored done in
    record {
      goes_on = ended;
      index = rw (tree, space, files) both.0;
      texts = both.1.texts;
      parts = both.1.parts;
      job = both.1.job;
      kept = both.1.kept;
      check = check ∙ stands.check ∙ sym (rises-flush s.layout).check;
    }
