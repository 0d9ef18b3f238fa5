-- The engine stands for the state after units of background work.
use Rattle.std.proofs.Common.{◌≡◌, ℕ, zero, suc, ◌+◌, ◌≤◌, List, [], ◌∷◌, drop, length, refl, ap, sym, ◌∙◌, subst, arith, inl, ◌-◌}
use Rattle.std.specs.Prelude.{Option, Some, None}
use Rattle.wu_outside.specs.Content.{Content, with_blob}
use Rattle.wu_layout.specs.Layouts.{FileEntry, Job, Layout, parts_taken, ranges_by_number, stored_in}
use Rattle.wu_layout.specs.Postings.{Posting, addresses_of, live_of}
use Rattle.wu_layout.specs.Steps.{job_of, replaced, unit, unit_of, with_terms_left, work}
use Rattle.wu_layout.proofs.Garbage.{files_after_work}
use Rattle.wu_layout.proofs.Units.{layout_after_work}
use Rattle.wu_parts.specs.Contents.{Contents}
use Rattle.wu_parts.specs.Memory.{held}
use Rattle.wu_parts.specs.Working.{ChangesParts, MayChange, Tells, TellsParts}
use Rattle.wu_query.specs.Records.{records_of}
use Rattle.wu_query.specs.Searched.{HoldsTexts, KeepsBlocks}
use Rattle.wu_query.specs.States.{State, IsState}
use Rattle.wu_engine.specs.declared.engines.Engine.{Engine}
use Rattle.wu_engine.specs.Stands.{IsEngineOf, KeepsOthers, Stands}
use Rattle.wu_engine.specs.States.{worked_state}
use Rattle.wu_engine.proofs.FlushLemmas.{told_here}
use Rattle.wu_engine.proofs.HeldParts.{AgreesBelow, blocks_stay, texts_stay}
use Rattle.wu_engine.proofs.OtherBlobs.{others_put, others_same, others_then, others_wider}
use Rattle.wu_engine.proofs.StoredTexts.{blobs_below}

pub worked_kept : (n : ℕ) (s : State) → IsState s → IsState (worked_state n s)
worked_kept n s is = record {
  tree = is.tree;
  texts = record { ascend = is.texts.ascend; files = is.texts.files };
  short = is.short;
  layout = layout_after_work _ _ n s.layout is.layout;
}

-- ---- what stays, and how far the blobs' numbers rise

-- so many units give no address, leave memory and the checkpoint as they are, and draw a blob each at most
pub record IsWorked (units : ℕ) (before after : Layout) : Type 0 where
  pub next : after.next ≡ before.next
  pub memory : after.memory ≡ before.memory
  pub flushes : after.flushes ≡ before.flushes
  pub least : before.blob ≤ after.blob
  pub most : after.blob ≤ before.blob + units
  pub check : after.check ≡ before.check

worked-replaced : (kept : List Posting) (job : Job) (layout : Layout) → IsWorked 1 layout (replaced kept job layout)
worked-replaced [] job layout =
    record { next = refl; memory = refl; flushes = refl; least = omega arith; most = omega arith; check = refl }
worked-replaced (posting ∷ postings) job layout =
    record { next = refl; memory = refl; flushes = refl; least = omega arith; most = omega arith; check = refl }

worked-term : (terms : List (List ℕ)) (job : Job) (layout : Layout) → IsWorked 1 layout (with_terms_left terms job layout)
worked-term [] job layout = worked-replaced (live_of job.live (stored_in (parts_taken job layout.parts))) job layout
worked-term (term ∷ terms) job layout =
    record { next = refl; memory = refl; flushes = refl; least = omega arith; most = omega arith; check = refl }

worked-unit : (o : Option Job) (layout : Layout) → IsWorked 1 layout (unit_of o layout)
worked-unit None layout = record { next = refl; memory = refl; flushes = refl; least = omega arith; most = omega arith; check = refl }
worked-unit (Some job) layout = worked-term (drop 1 job.terms_left) job layout

pub worked : (n : ℕ) (layout : Layout) → IsWorked n layout (work n layout)
worked zero layout = record { next = refl; memory = refl; flushes = refl; least = omega arith; most = omega arith; check = refl }
worked (suc n) layout =
    let first : IsWorked 1 layout (unit layout) = worked-unit (job_of layout) layout in
    let rest : IsWorked n (unit layout) (work n (unit layout)) = worked n (unit layout) in
    record {
      next = rest.next ∙ first.next;
      memory = rest.memory ∙ first.memory;
      flushes = rest.flushes ∙ first.flushes;
      least = omega (arith, first.least, rest.least);
      most = omega (arith, first.most, rest.most);
      check = rest.check ∙ first.check;
    }

-- ---- what the store holds

-- blobs of other numbers stay
pub others_worked : (low high n : ℕ) (before after : Option Content) → MayChange with_blob low high n before after
    → KeepsOthers low high before after
others_worked low high zero before after may = subst (KeepsOthers low high before) (sym may) (others_same low high before)
others_worked low high (suc n) before after may =
    others_then low high before may.0 after (others_worked low high n before may.0 may.3)
    (others_put low high may.1 may.0 after may.4.0 may.4.1 (may.2, may.5))

-- so of as many blobs as were drawn, and of as many as might be
pub others_drawn : (next later n : ℕ) (before after : Option Content) → later ≤ next + n
    → MayChange with_blob next later (later - next) before after → KeepsOthers next (next + n) before after
others_drawn next later n before after most may =
    others_wider next later next (next + n) before after (omega arith) most
    (others_worked next later (later - next) before after may)

agrees_below : (low high : ℕ) (before after : Content) → KeepsOthers low high (Some before) (Some after) → AgreesBelow low before after
agrees_below low high before after keeps = λ number under. keeps.0 number (inl under)

-- ---- engine and store

-- what engine and store tell of the parts
pub parts_told : (engine : Engine) (holds : Option Content) (s : State) → Stands engine holds s → Tells holds engine.parts s.layout
parts_told engine None s stands = absurd stands.texts
parts_told engine (Some content) s stands =
    told_here engine.tree engine.space engine.parts engine.files.entries s stands.index content stands.parts stands.job

module _ (old new : Engine) (s : State) (n : ℕ) (ended : new.ended ≡ None) (tree : new.tree ≡ old.tree)
    (space : new.space ≡ old.space) (files : new.files.entries ≡ old.files.entries) (check : new.checkpoint ≡ old.checkpoint)
    (changes : ChangesParts n old.parts new.parts) where
  abbrev later : State
  later = worked_state n s

  abbrev same_files : (work n s.layout).files ≡ s.layout.files
  same_files = files_after_work n s.layout

  index_worked : (content : Content) → IsEngineOf old.tree old.space old.parts old.files.entries s
      → TellsParts content new.parts later.layout → IsEngineOf new.tree new.space new.parts new.files.entries later
  index_worked content index told = record {
    is_state = worked_kept n s index.is_state;
    tree = tree ∙ index.tree;
    next = ap (λ a. a.next) space ∙ index.next ∙ sym (worked n s.layout).next;
    live = ap (λ a. a.ranges) space ∙ index.live ∙ ap ranges_by_number (sym same_files);
    files = files ∙ index.files ∙ ap (records_of s.texts) (sym same_files);
    next_blob = told.next_blob;
    stale = told.stale;
    memory = λ term.
        ap (λ (c : Contents). held c.memory term) changes.others ∙ index.memory term
        ∙ ap (addresses_of term) (sym (worked n s.layout).memory);
    stored =
        ap (λ (c : Contents). c.memory.stored) changes.others ∙ index.stored
        ∙ ap (λ (postings : List Posting). length postings) (sym (worked n s.layout).memory);
    flushes = told.flushes;
  }

  pub worked_on : (before after : Option Content) → Stands old before s
      → KeepsOthers old.parts.next_blob (old.parts.next_blob + n) before after → Tells after new.parts later.layout
      → Stands new after later
  worked_on None after stands others told = absurd stands.texts
  worked_on (Some before) None stands others told = absurd told
  worked_on (Some before) (Some after) stands others told =
      let index : IsEngineOf old.tree old.space old.parts old.files.entries s = stands.index in
      let agrees : AgreesBelow s.layout.blob before after =
      subst (λ (k : ℕ). AgreesBelow k before after) index.next_blob
      (agrees_below old.parts.next_blob (old.parts.next_blob + n) before after others) in
      let texts : HoldsTexts (Some after) s.texts s.layout.files =
      texts_stay s.layout.blob before after agrees s.texts s.layout.files
      (blobs_below s.layout.blob s.layout.files s.layout.parts s.layout.check s.layout.stale index.is_state.layout.blobs) stands.texts in
      record {
        goes_on = ended;
        index = index_worked after index told;
        texts = subst (λ (fs : List (ℕ × FileEntry)). HoldsTexts (Some after) s.texts fs) (sym same_files) texts;
        parts = told.parts;
        job = record { same = told.job; running = told.running };
        kept =
            subst (KeepsBlocks after later.layout.blob) (sym (ap (λ (c : Contents). c.kept) changes.others))
            (blocks_stay s.layout.blob before after agrees later.layout.blob old.parts.kept (worked n s.layout).least stands.kept);
        check = check ∙ stands.check ∙ sym (worked n s.layout).check;
      }
