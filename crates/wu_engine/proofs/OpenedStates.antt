-- What is found of a checkpoint at opening, what is read, and what comes of it.
use Rattle.std.proofs.Common.{◌≡◌, ℕ, List, [], ◌∷◌, ◌++◌, length, refl, ap, sym, ◌∙◌, subst, ◌⊎◌, inl, inr, ⊎_elim}
use Rattle.std.specs.Prelude.{Option, Some, None, IfErr, IfNone, IfSome, IsErrAnd, OnErr, OnOk, Result, Ok, Err, option_map}
use Rattle.std.specs.List.{AllByRecursion}
use Rattle.wu_outside.specs.Content.{Content, HasSize}
use Rattle.wu_outside.specs.Crash.{AreAlike, Moments, settle}
use Rattle.wu_outside.specs.Ranges.{asked_size}
use Rattle.wu_outside.specs.declared.ranges.ReadRange.{ReadRange}
use Rattle.wu_outside.specs.declared.traits.Store as stores
use Rattle.wu_lists.proofs.Asking.{ranges-none}
use Rattle.wu_image.specs.declared.checkpoints.Checkpoint.{Checkpoint}
use Rattle.wu_image.specs.declared.roots.Root.{Root}
use Rattle.wu_image.specs.Breakage.{IsBrokenCheckpoint}
use Rattle.wu_image.specs.Checkpoints.{SpellsCheckpoint}
use Rattle.wu_image.proofs.ListedLemmas.{same_checkpoint}
use Rattle.wu_query.specs.States.{State}
use Rattle.wu_query.proofs.PermittedBlocks.{reads_joined}
use Rattle.wu_engine.specs.declared.engines.Engine.{Engine}
use Rattle.wu_engine.specs.declared.faults.BeginFault.{BeginFault}
use Rattle.wu_engine.specs.declared.faults.BeginFault.TheVariants as faults
use Rattle.wu_engine.specs.Begun.{SyncsOnly}
use Rattle.wu_engine.specs.Opened.{AsksCheckpoint, AsksFound, FindsRoot, IsFoundIn, IsSettled, MatchesRoot, ReadsCheckpoint}
use Rattle.wu_engine.specs.Opened.{TakesCheckpoint}
use Rattle.wu_engine.specs.Opening.{AreReadAtOpening, AreReadUnderRoot, HasCheckpoint, HasOpenRoot, HasSizedCheckpoint, HoldsImage}
use Rattle.wu_engine.specs.Opening.{IsBeginCause, IsDamagedAtOpening, IsIndexRange, IsOpen, IsSpentWhere, Opens, OpensIndex}
use Rattle.wu_engine.specs.Opening.{ReadsAtMostRoot, ReadsAtOpening, ReadsRoot, checkpoint_range, checkpoint_ranges, opening_root}
use Rattle.wu_engine.specs.Reindexed.{ReadsIndex}
use Rattle.wu_engine.proofs.ImageStates.{image_undamaged}
use Rattle.wu_engine.proofs.LeftImages.{opened_durable, opened_left}

-- ---- the checkpoint

none_of_it : (root : Root) (held : Option (List ℕ)) (found : Option Checkpoint) → IsFoundIn root.size held found
    → IfSome found (λ checkpoint. MatchesRoot root checkpoint → ⊥) → IsBrokenCheckpoint root held
none_of_it root None found h other = tt
none_of_it root (Some bytes) None h other = λ checkpoint is. h is.size checkpoint is.spelled
none_of_it root (Some bytes) (Some read) h other = λ checkpoint is.
    let same : checkpoint ≡ read = same_checkpoint checkpoint read bytes is.spelled h.1 in
    other (subst (MatchesRoot root) same (record {
      next_address = is.next_address;
      next_blob = is.next_blob;
      of_no_text = is.of_no_text;
      of_no_part = is.of_no_part;
    }))

pub checkpoint_broken : (holds : Option Content) (root : Root) (found : Option Checkpoint)
    → IfSome holds (λ content. HasOpenRoot content root)
    → IfSome holds (λ content. IsFoundIn root.size (content.blobs root.checkpoint) found)
    → IfSome found (λ checkpoint. MatchesRoot root checkpoint → ⊥)
    → IfSome holds (λ content. IsDamagedAtOpening content root.checkpoint)
checkpoint_broken None root found roomy h other = tt
checkpoint_broken (Some content) root found roomy h other =
    inr (inl (root, roomy, refl, none_of_it root (content.blobs root.checkpoint) found h other))

pub checkpoint_found : (holds : Option Content) (root : Root) (found : Option Checkpoint)
    → IfSome holds (λ content. IsFoundIn root.size (content.blobs root.checkpoint) found)
    → (checkpoint : Checkpoint) → (found ≡ Some checkpoint) × MatchesRoot root checkpoint
    → IfSome holds (λ content. HasCheckpoint content root checkpoint)
checkpoint_found None root found h checkpoint own = tt
checkpoint_found (Some content) root found h checkpoint own =
    elim (content.blobs root.checkpoint) as
    (λ b. content.blobs root.checkpoint ≡ b → IsFoundIn root.size b (Some checkpoint) → HasCheckpoint content root checkpoint) [
      | None ↦ λ e is. absurd is
      | Some bytes ↦ λ e is. record {
        bytes = bytes;
        held = e;
        spelled = record {
          size = is.0;
          spelled = is.1;
          next_address = own.1.next_address;
          next_blob = own.1.next_blob;
          of_no_text = own.1.of_no_text;
          of_no_part = own.1.of_no_part;
        };
      }
    ] refl (subst (λ (o : Option Checkpoint). IsFoundIn root.size (content.blobs root.checkpoint) o) own.0 h)

-- ---- reads

-- what is so of each content is so of what any store holds
on_any_store : (Is : Content → Type 0) (holds : Option Content) → ((content : Content) → Is content) → IfSome holds Is
on_any_store Is None all = tt
on_any_store Is (Some content) all = all content

-- the root, or nothing
pub reads_root : (holds : Option Content) (before after : Option (List ReadRange)) → ReadsAtMostRoot before after
    → ReadsAtOpening holds before after
reads_root holds before after (inl same) =
    ([], on_any_store (λ content. AreReadAtOpening content []) holds (λ content. tt), same ∙ ranges-none before)
reads_root holds before after (inr read) =
    (opening_root ∷ [], on_any_store (λ content. AreReadAtOpening content (opening_root ∷ [])) holds (λ content. (refl, inl refl)), read)

-- there is none
pub opens_first : (holds : Option Content) (before after : Option (List ReadRange)) → ReadsRoot before after
    → IfSome holds (FindsRoot None) → IsOpen holds before after
opens_first holds before after read none = (opening_root ∷ [], root_alone holds none, read)
  where
    root_alone : (held : Option Content) → IfSome held (FindsRoot None) → IfSome held (λ content. Opens content (opening_root ∷ []))
    root_alone None h = tt
    root_alone (Some content) h = inl (h, refl)

module _ (root : Root) where
  -- the root, which leaves room, and under it such ranges
  under_root : (holds : Option Content) (read : List ReadRange) → IfSome holds (λ content. HasOpenRoot content root)
      → IfSome holds (λ content. AreReadUnderRoot content root read)
      → IfSome holds (λ content. AreReadAtOpening content (opening_root ∷ read))
  under_root None read roomy are = tt
  under_root (Some content) read roomy are = (refl, inr (root, roomy, are))

  -- once the root was read the size of its checkpoint was asked
  read_then_asked : (first middle last : Option (List ReadRange)) → ReadsRoot first middle → AsksCheckpoint root middle last
      → AsksFound (Some root) first last
  read_then_asked first middle last read asked =
      asked
      ∙ (ap (option_map (λ (earlier : List ReadRange). earlier ++ asked_size root.checkpoint ∷ [])) read
      ∙ reads_joined first (opening_root ∷ []) (asked_size root.checkpoint ∷ []))

  -- and once that was asked the checkpoint was read
  pub asked_then_taken : (first middle last : Option (List ReadRange)) → AsksFound (Some root) first middle
      → TakesCheckpoint root middle last → ReadsCheckpoint root first last
  asked_then_taken first middle last asked taken =
      taken
      ∙ (ap (option_map (λ (earlier : List ReadRange). earlier ++ checkpoint_range root ∷ [])) asked
      ∙ reads_joined first (opening_root ∷ asked_size root.checkpoint ∷ []) (checkpoint_range root ∷ []))

  reads_found : (holds : Option Content) (before after : Option (List ReadRange)) → IfSome holds (λ content. HasOpenRoot content root)
      → AsksFound (Some root) before after → ReadsAtOpening holds before after
  reads_found holds before after roomy asked = (
    opening_root ∷ asked_size root.checkpoint ∷ [],
    under_root holds (asked_size root.checkpoint ∷ []) roomy
        (on_any_store (λ content. AreReadUnderRoot content root (asked_size root.checkpoint ∷ [])) holds (λ content. inl refl)),
    asked,
  )

  -- the root, and then only the size of its checkpoint, or nothing
  pub reads_size : (holds : Option Content) (first middle last : Option (List ReadRange))
      → IfSome holds (λ content. HasOpenRoot content root) → ReadsRoot first middle
      → (last ≡ middle) ⊎ AsksCheckpoint root middle last → ReadsAtOpening holds first last
  reads_size holds first middle last roomy read (inl same) = reads_root holds first last (inr (same ∙ read))
  reads_size holds first middle last roomy read (inr asked) =
      reads_found holds first last roomy (read_then_asked first middle last read asked)

  -- both, and then the checkpoint or nothing
  pub reads_checkpoint : (holds : Option Content) (first middle last : Option (List ReadRange))
      → IfSome holds (λ content. HasOpenRoot content root) → AsksFound (Some root) first middle
      → (last ≡ middle) ⊎ TakesCheckpoint root middle last → ReadsAtOpening holds first last
  reads_checkpoint holds first middle last roomy asked (inl same) = reads_found holds first last roomy (same ∙ asked)
  reads_checkpoint holds first middle last roomy asked (inr taken) = (
    opening_root ∷ checkpoint_ranges root,
    under_root holds (checkpoint_ranges root) roomy
        (on_any_store (λ content. AreReadUnderRoot content root (checkpoint_ranges root)) holds (λ content. inr (inl refl))),
    asked_then_taken first middle last asked taken,
  )

  module _ (checkpoint : Checkpoint) where
    index_under : (holds : Option Content) (later : List ReadRange) → IfSome holds (λ content. HasCheckpoint content root checkpoint)
        → IfSome holds (λ content. AllByRecursion (IsIndexRange content root.version checkpoint) later)
        → IfSome holds (λ content. AreReadUnderRoot content root (checkpoint_ranges root ++ later))
    index_under None later has all = tt
    index_under (Some content) later has all = inr (inr (checkpoint, has, later, all, refl))

    -- root and checkpoint, and then of its index
    pub reads_index : (holds : Option Content) (before between after : Option (List ReadRange))
        → IfSome holds (λ content. HasOpenRoot content root) → IfSome holds (λ content. HasCheckpoint content root checkpoint)
        → ReadsCheckpoint root before between → ReadsIndex holds root.version checkpoint between after
        → ReadsAtOpening holds before after
    reads_index holds before between after roomy has first later = (
      opening_root ∷ checkpoint_ranges root ++ later.0,
      under_root holds (checkpoint_ranges root ++ later.0) roomy (index_under holds later.0 has later.1),
      later.2
          ∙ (ap (option_map (λ (earlier : List ReadRange). earlier ++ later.0)) first
          ∙ reads_joined before (opening_root ∷ checkpoint_ranges root) later.0),
    )

    pub opens_saved : (holds : Option Content) (before between after : Option (List ReadRange)) (read : List ReadRange)
        → IfSome holds (λ content. HasOpenRoot content root) → IfSome holds (λ content. HasCheckpoint content root checkpoint)
        → ReadsCheckpoint root before between → IfSome holds (λ content. OpensIndex content root.version checkpoint read)
        → after ≡ option_map (λ earlier. earlier ++ read) between → IsOpen holds before after
    opens_saved holds before between after read roomy has first opened later = (
      opening_root ∷ checkpoint_ranges root ++ read,
      all_open holds roomy has opened,
      later
          ∙ (ap (option_map (λ (earlier : List ReadRange). earlier ++ read)) first
          ∙ reads_joined before (opening_root ∷ checkpoint_ranges root) read),
    )
      where
        all_open : (held : Option Content) → IfSome held (λ content. HasOpenRoot content root)
            → IfSome held (λ content. HasCheckpoint content root checkpoint)
            → IfSome held (λ content. OpensIndex content root.version checkpoint read)
            → IfSome held (λ content. Opens content (opening_root ∷ checkpoint_ranges root ++ read))
        all_open None o h a = tt
        all_open (Some content) o h a = inr (record {
          root = root;
          found = o;
          checkpoint = checkpoint;
          saved = h;
          later = read;
          index = a;
          read_are = refl;
        })

-- ---- a checkpoint that was read whole

found_in : (root : Root) (buffer : List ℕ) (found : Option Checkpoint) → length buffer ≡ root.size
    → IfSome found (λ checkpoint. SpellsCheckpoint checkpoint buffer)
    → IfNone found ((checkpoint : Checkpoint) → SpellsCheckpoint checkpoint buffer → ⊥) → IsFoundIn root.size (Some buffer) found
found_in root buffer None long s n = λ _. n
found_in root buffer (Some checkpoint) long s n = (long, s)

pub checkpoint_read : (holds : Option Content) (root : Root) (buffer given : List ℕ) (found : Option Checkpoint) → given ≡ buffer
    → IfSome holds (λ content. content.blobs root.checkpoint ≡ Some buffer) → length buffer ≡ root.size
    → IfSome found (λ checkpoint. SpellsCheckpoint checkpoint given)
    → IfNone found ((checkpoint : Checkpoint) → SpellsCheckpoint checkpoint given → ⊥)
    → IfSome holds (λ content. IsFoundIn root.size (content.blobs root.checkpoint) found)
checkpoint_read None root buffer given found e there long spelled none = tt
checkpoint_read (Some content) root buffer given found e there long spelled none =
    rw (there ∙ ap (λ (b : List ℕ). Some b) (sym e))
    (found_in root given found (ap length e ∙ long) spelled none)

-- what is opened has a checkpoint of the size that the root says
pub sized_checkpoint : (holds : Option Content) (root : Root) → IfSome holds (FindsRoot (Some root))
    → IfSome holds (λ content. HasSize root.size (content.blobs root.checkpoint)) → IfSome holds HasSizedCheckpoint
sized_checkpoint None root found sized = tt
sized_checkpoint (Some content) root found sized = (root, found, sized)

-- ---- an opening, whole

pub never_damaged : {T : Type 0} (holds : Option Content) (before now : ℕ) (r : Result T BeginFault)
    → IfErr r (IsBeginCause holds before now) → (s : State) → HoldsImage holds s → (blob : ℕ) → r ≡ Err (faults.Damaged blob) → ⊥
never_damaged holds before now r cause s image blob e =
    let its : IsBeginCause holds before now (faults.Damaged blob) = subst (λ q. IfErr q (IsBeginCause holds before now)) e cause in
    image_undamaged holds s image blob (its.damaged blob refl)

pub on_any_ok : {T E : Type 0} (P : Type 0) (r : Result T E) → P → OnOk r P
on_any_ok P (Ok x) p = p
on_any_ok P (Err e) p = tt

pub on_any_err : {T E : Type 0} (P : Type 0) (r : Result T E) → P → OnErr r P
on_any_err P (Ok x) p = tt
on_any_err P (Err e) p = p

-- a store that was just synced
pub is_settled : (old new : Option Moments) → new ≡ option_map settle old → IsSettled new
is_settled None new is = rw is tt
is_settled (Some told) new is = rw is refl

-- a store that is only synced
pub syncs_only : {D : Type 0} {Store : stores.Ghosts D} {old new : D} (r : Result Engine BeginFault) → Store.holds new ≡ Store.holds old
    → Store.moments new ≡ option_map settle (Store.moments old) → AreAlike (Store.holds old) (Store.moments old)
    → SyncsOnly Store old new r
syncs_only {Store = Store} {old = old} {new = new} r holds settled alike = record {
  holds = holds;
  settled = on_any_ok _ r settled;
  still = on_any_err _ r (inr settled);
  survives = opened_left _ _ settled;
  durable = λ s image. on_any_ok _ r (opened_durable (Store.holds old) (Store.moments old) (Store.moments new) alike settled s image);
}

pub on_no_ok : {T E : Type 0} (P : Type 0) (Q : E → Type 0) (r : Result T E) → IsErrAnd r Q → OnOk r P
on_no_ok P Q (Ok x) is = absurd is
on_no_ok P Q (Err e) is = tt

-- ---- a root that couldn't be opened

-- the error that was passed on
pub error_passed : {T E : Type 0} (r : Result T E) (e : E) → IsErrAnd r (λ f. f ≡ e) → r ≡ Err e
error_passed (Ok x) e h = absurd h
error_passed (Err f) e h = ap (λ g. Err g) h

-- out of memory, that was passed on
pub memory_passed : {T : Type 0} (fault : BeginFault) (r : Result T BeginFault) → r ≡ Err fault → r ≡ Err faults.NoMemory
    → fault ≡ faults.NoMemory
memory_passed fault r is e = cc (is, e)

module _ (T U : Type 0) where
  abbrev fault_in : Result T BeginFault → BeginFault
  fault_in (Ok x) = faults.NoMemory
  fault_in (Err fault) = fault

  spent_as : (holds : Option Content) (fault : BeginFault) → IsSpentWhere {T = T} holds (Err fault) → IsSpentWhere {T = U} holds (Err fault)
  spent_as None fault h = tt
  spent_as (Some content) fault h = λ number spent.
      ⊎_elim
      (λ a. inl (ap (λ (f : BeginFault). Err f) (ap fault_in a)))
      (λ b.
      inr
      (⊎_elim
      (λ a. inl (ap (λ (f : BeginFault). Err f) (ap fault_in a)))
      (λ a. inr (ap (λ (f : BeginFault). Err f) (ap fault_in a)))
      b))
      (h number spent)

  pub spent_on : (before opened : Option Content) (fault : BeginFault) (r : Result U BeginFault) → opened ≡ before → r ≡ Err fault
      → IsSpentWhere {T = T} opened (Err fault) → IsSpentWhere before r
  spent_on before opened fault r same is h =
      subst (λ (o : Option Content). IsSpentWhere o r) same
      (subst (λ (q : Result U BeginFault). IsSpentWhere opened q) (sym is) (spent_as opened fault h))

  -- nor is the store spent then that has no root, or one that leaves room
  pub never_spent : (holds : Option Content) (x : T) (r : Result U BeginFault) → IsSpentWhere {T = T} holds (Ok x) → IsSpentWhere holds r
  never_spent None x r h = tt
  never_spent (Some content) x r h = λ number spent.
      absurd (⊎_elim (λ e. absurd (cc e)) (λ other. ⊎_elim (λ e. absurd (cc e)) (λ e. absurd (cc e)) other) (h number spent))
