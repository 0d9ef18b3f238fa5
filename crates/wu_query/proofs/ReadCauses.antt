-- Why a call that reads texts answers a trouble.
use Rattle.std.proofs.Common.{◌≡◌, ◌<◌, ℕ, List, [], ◌∷◌, ◌++◌, true, false, cond, ap, sym, ◌∙◌, subst, inl, inr}
use Rattle.std.specs.Prelude.{Option, Some, Result, Ok, Err, IfErr, option_map}
use Rattle.std.specs.Ordering.{nat_cmp}
use Rattle.std.specs.BTreeMap.{is_at}
use Rattle.std.specs.Map.{lookup}
use Rattle.wu_base.proofs.MapEntries.{All-found}
use Rattle.wu_base.specs.declared.troubles.Trouble.{Trouble}
use Rattle.std.specs.List.{AllByRecursion}
use Rattle.wu_outside.specs.Content.{Content}
use Rattle.wu_outside.specs.declared.ranges.ReadRange.{ReadRange}
use Rattle.wu_layout.proofs.KeptLemmas.{SomeOf-right}
use Rattle.wu_image.specs.declared.records.FileRec.{FileRec}
use Rattle.wu_query.specs.Causes.{HasBytesOf, IsBrokenIn, IsDamagedAt, WasRead}
use Rattle.wu_query.specs.Records.{Records, record_at}
use Rattle.wu_query.specs.Finding.{CanBeRead, IsCause, IsQueryCause}
use Rattle.wu_query.proofs.PermittedBlocks.{reads_joined}

-- what follows for each error holds of the error of a result
pub if_err : {T E : Type 0} (r : Result T E) {P Q : E → Type 0} → IfErr r P → ((error : E) → P error → Q error) → IfErr r Q
if_err (Ok value) h step = h
if_err (Err error) h step = step error h

-- a broken text is damage of another kind too, and the calls before it left the count of faults as it was
pub cause_after : {Broken Other : ℕ → Type 0} {before middle now : ℕ} {ranges ranges_now : Option (List ReadRange)} {trouble : Trouble}
    → middle ≡ before → IsCause Broken middle now ranges ranges_now trouble → ((blob : ℕ) → Broken blob → Other blob)
    → IsCause Other before now ranges ranges_now trouble
cause_after same cause step =
    rw (← same)
    (record {
      kept = cause.kept;
      store_fault = cause.store_fault;
      calm = cause.calm;
      damaged = λ blob h. step blob (cause.damaged blob h);
      read = cause.read;
    })

-- what was read behind others was read
read_behind : (first : Option (List ReadRange)) {middle last : Option (List ReadRange)} (read : List ReadRange)
    → middle ≡ option_map (λ earlier. earlier ++ read) first → (blob : ℕ) → WasRead middle last blob → WasRead first last blob
read_behind first read earlier blob later = (
  read ++ later.0,
  SomeOf-right (λ (range : ReadRange). (range.blob ≡ blob) × (0 < range.len)) read later.0 later.1,
  later.2 ∙ ap (option_map (λ (ranges : List ReadRange). ranges ++ later.0)) earlier ∙ reads_joined first read later.0,
)

-- the calls before it read such ranges
pub cause_behind : {first middle last : Option (List ReadRange)} {Broken : ℕ → Type 0} {before now : ℕ} {trouble : Trouble}
    (read : List ReadRange) → middle ≡ option_map (λ earlier. earlier ++ read) first → IsCause Broken before now middle last trouble
    → IsCause Broken before now first last trouble
cause_behind {first} read earlier cause = record {
  kept = cause.kept;
  store_fault = cause.store_fault;
  calm = cause.calm;
  damaged = cause.damaged;
  read = λ blob h. read_behind first read earlier blob (cause.read blob h);
}

-- a broken text of which bytes were read is damage that a query may find
pub cause_of_query : {Broken : ℕ → Type 0} {IsDamaged : List ReadRange → ℕ → Type 0} {before middle now : ℕ}
    {ranges ranges_now : Option (List ReadRange)} {trouble : Trouble}
    → middle ≡ before → IsCause Broken middle now ranges ranges_now trouble
    → ((read : List ReadRange) (blob : ℕ) → HasBytesOf read blob → Broken blob → IsDamaged read blob)
    → IsQueryCause IsDamaged before now ranges ranges_now trouble
cause_of_query same cause step =
    rw (← same)
    (record {
      kept = cause.kept;
      store_fault = cause.store_fault;
      calm = cause.calm;
      damaged = λ blob h.
          let was_read = cause.read blob h in
          (was_read.0, step was_read.0 blob was_read.1 (cause.damaged blob h), was_read.2);
    })

-- damage that a query may find is damage of another kind too
pub query_cause : {IsDamaged Other : List ReadRange → ℕ → Type 0} {before now : ℕ} {ranges ranges_now : Option (List ReadRange)}
    {trouble : Trouble} → IsQueryCause IsDamaged before now ranges ranges_now trouble
    → ((read : List ReadRange) (blob : ℕ) → IsDamaged read blob → Other read blob)
    → IsQueryCause Other before now ranges ranges_now trouble
query_cause cause step = record {
  kept = cause.kept;
  store_fault = cause.store_fault;
  calm = cause.calm;
  damaged = λ blob h. let found = cause.damaged blob h in (found.0, step found.0 blob found.1, found.2);
}

-- ---- the record of a file

module _ (files : Records) (ino : ℕ) (file : FileRec) (there : record_at files ino ≡ Some file) where
  pub recorded : AllByRecursion CanBeRead files → CanBeRead (file.ino, file)
  recorded all =
      let found = All-found CanBeRead (is_at (nat_cmp ino)) files file all there in
      subst (λ (n : ℕ). CanBeRead (n, file)) (sym found.2.recorded.number) found.2

-- a recorded text that is broken is one of the records' texts
pub broken_file : (holds : Option Content) (ino : ℕ) (file : FileRec) (files : Records) → record_at files ino ≡ Some file
    → (blob : ℕ) → IsBrokenIn holds file blob → IsDamagedAt files holds blob
broken_file holds ino file [] there blob is = absurd (cc)
broken_file holds ino file (first ∷ files) there blob is =
    elim (is_at (nat_cmp ino) first.0) as
    (λ b. cond b (Some first.1) (lookup (is_at (nat_cmp ino)) files) ≡ Some file → IsDamagedAt (first ∷ files) holds blob) [
      | true ↦ λ e. let same : file ≡ first.1 = cc in inl (subst (λ (f : FileRec). IsBrokenIn holds f blob) same is)
      | false ↦ λ e. inr (broken_file holds ino file files e blob is)
    ] there
