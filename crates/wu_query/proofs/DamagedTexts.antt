-- A text that a query finds damaged is one that it reads, of a file of the user's.
use Rattle.std.proofs.Common.{◌≡◌, ℕ, zero, suc, ◌+◌, ◌<◌, ◌==◌, ◌∙◌, Bool, true, false, cond, List, [], ◌∷◌, ◌++◌, length, take, drop, min}
use Rattle.std.proofs.Common.{map, refl, sym, ap, subst, inl, inr, ⊎_elim, arith}
use Rattle.std.specs.Prelude.{Option, None, Some, Result, IfErr, IsErrAnd, nat_lt, option_map}
use Rattle.std.specs.Option.{IsSomeAnd}
use Rattle.std.specs.List.{list_any}
use Rattle.std.proofs.Math.Dec.{eqb-suc-zero}
use Rattle.std.proofs.lemmas.Bool.{lt-ltb}
use Rattle.std.proofs.lemmas.List.{length-take}
use Rattle.wu_base.specs.declared.addresses.Extent.{Extent}
use Rattle.wu_base.specs.declared.addresses.TermList.{TermList}
use Rattle.wu_base.specs.declared.troubles.Trouble.{Trouble}
use Rattle.wu_outside.specs.Content.{Content}
use Rattle.wu_outside.specs.declared.ranges.ReadRange.{ReadRange}
use Rattle.wu_layout.specs.Invariants.{SomeOf}
use Rattle.wu_tree.specs.FileSystems.{FileSystem}
use Rattle.wu_space.specs.Addresses.{Ranges}
use Rattle.wu_ask.specs.Questions.{Question, Finding}
use Rattle.wu_gcl.specs.Regions.{Region}
use Rattle.wu_gcl.specs.Terms.{AreTerms}
use Rattle.wu_image.specs.declared.records.FileRec.{FileRec}
use Rattle.wu_rank.specs.declared.results.Unit.{Unit as RankedUnit}
use Rattle.wu_view.specs.declared.Seen.{Seen}
use Rattle.wu_frames.specs.declared.Frames.{Frames}
use Rattle.wu_parts.specs.Contents.{Contents}
use Rattle.wu_query.specs.Causes.{IsBlobOf, IsBrokenIn, IsDamagedAt, IsDamagedFor, IsDamagedIn, IsDamagedOf, IsDamagedOver, IsDamagedText}
use Rattle.wu_query.specs.Finding.{IsBrokenShown, IsCause, IsQueryCause, extents_of, hits_at, hits_recorded, is_at_place, looked_through, text_at}
use Rattle.wu_query.specs.Finding.{text_recorded, with_units}
use Rattle.wu_query.specs.Near.{HaveSameExtents}
use Rattle.wu_query.specs.Reads.{text_ranges}
use Rattle.wu_query.specs.Records.{Records, record_at}
use Rattle.wu_query.specs.Searched.{TellsPostings}
use Rattle.wu_query.specs.States.{State}
use Rattle.wu_query.specs.Units.{found_in, list_at, units_in}
use Rattle.wu_query.proofs.FilesWithExtents.{looked_texts}
use Rattle.wu_query.proofs.FoundLines.{none_shown}
use Rattle.wu_query.proofs.PassedCauses.{err_from}
use Rattle.wu_query.proofs.ReadCauses.{broken_file, cause_behind, cause_of_query}

-- ---- one file

pub not_zero : (n : ℕ) → 0 < n → (n == 0) ≡ false
not_zero zero some = absurd (omega (arith, some))
not_zero (suc n) some = eqb-suc-zero n

-- the text of a file of which a line is shown
pub file_shown : (files : Records) (holds : Option Content) (region : Region) (lists : List TermList) (seen : Seen) (file : FileRec)
    (left : ℕ) (extents : List Extent) → record_at files seen.ino ≡ Some file → extents ≡ take left (extents_of region lists file)
    → (blob : ℕ) → (0 < length extents) × IsBrokenIn holds file blob → IsBrokenShown files holds region lists left (seen ∷ []) blob
file_shown files holds region lists seen file left extents there are blob broken =
    let its : List ReadRange = text_ranges file.blob file.len in
    let count : length extents ≡ min left (hits_at files region lists seen) =
    ap length are ∙ length-take left (extents_of region lists file)
    ∙ sym (ap (λ (o : Option FileRec). min left (hits_recorded region lists o)) there) in
    let some : nat_lt 0 (min left (hits_at files region lists seen)) ≡ true =
    lt-ltb 0 (min left (hits_at files region lists seen)) (subst (λ (n : ℕ). 0 < n) count broken.0) in
    let stored : 0 < file.blob = subst (λ (n : ℕ). 0 < n) (sym broken.1.0) broken.1.1 in
    let whole : text_at files seen ≡ its = ap text_recorded there ∙ ap (λ (b : Bool). cond b [] its) (not_zero file.blob stored) in (
      subst (λ (b : Bool). IsBlobOf (cond b (text_at files seen) [] ++ []) blob) (sym some)
          (subst (λ (ts : List ReadRange). IsBlobOf (ts ++ []) blob) (sym whole) (inl broken.1.0)),
      inl (subst (λ (o : Option FileRec). IsSomeAnd o (λ f. IsBrokenIn holds f blob)) (sym there) broken.1),
    )

-- ---- files of a view

module _ (P : Seen → Type 0) where
  -- one of the files from some place on
  pub some_behind : (i : ℕ) (view : List Seen) → SomeOf P (drop i view) → SomeOf P view
  some_behind zero view some = some
  some_behind (suc i) [] some = absurd some
  some_behind (suc i) (file ∷ view) some = inr (some_behind i view some)

  -- one of the files that have a unit
  some_with_units : (units : List RankedUnit) (place : ℕ) (view : List Seen) → SomeOf P (with_units units place view) → SomeOf P view
  some_with_units units place [] some = some
  some_with_units units place (file ∷ view) some =
      by (list_any (is_at_place place) units) (λ later. some_with_units units (place + 1) view later) some where
        by : (b : Bool) → (SomeOf P (with_units units (place + 1) view) → SomeOf P view)
            → SomeOf P (cond b (file ∷ with_units units (place + 1) view) (with_units units (place + 1) view)) → SomeOf P (file ∷ view)
        by true rest here = ⊎_elim (λ one. inl one) (λ later. inr (rest later)) here
        by false rest later = inr (rest later)

  some_looked : (few : Bool) (region : Region) (lists : List TermList) (frames : Frames)
      → SomeOf P (looked_through few region lists frames) → SomeOf P frames.seen
  some_looked true region lists frames some = some_with_units (units_in region lists frames.by_address) 0 frames.seen some
  some_looked false region lists frames some = some

-- ---- a search

-- a broken text that a search reads is one that it finds damaged over its frames
module _ (frames : Frames) (contents : Contents) (files : Records) (holds : Option Content) (region : Region) (terms : List (List ℕ))
    (are : AreTerms region terms) (lists : List TermList)
    (same : (s : State) → TellsPostings contents holds s
    → HaveSameExtents region frames.ranges lists (map (list_at (found_in frames.ranges s)) terms))
    (k : ℕ) (few : Bool) where
  text_needed : (blob : ℕ) → IsBrokenShown files holds region lists k (looked_through few region lists frames) blob
      → IsDamagedText frames (Finding k region) contents files holds blob
  text_needed blob broken = record {
    damaged =
        some_looked (λ seen. IsSomeAnd (record_at files seen.ino) (λ file. IsBrokenIn holds file blob)) few region lists frames broken.1;
    shows = λ none.
        subst (λ (texts : List ReadRange). IsBlobOf texts blob)
        (none_shown files (hits_at files region lists) k (looked_through few region lists frames) none) broken.0;
    shown = λ live s uid is tells records.
        subst (λ (texts : List ReadRange). IsBlobOf texts blob)
        (looked_texts frames live s uid is region terms are files lists (same s tells) k few records) broken.0;
  }

-- a trouble with a text, after calls that only read of the store
pub cause_of_text : {T : Type 0} (r : Result T Trouble) (frames : Frames) (contents : Contents) (files : Records)
    (holds : Option Content) {trouble : Trouble} → IsErrAnd r (λ error. error ≡ trouble)
    → (region : Region) (terms : List (List ℕ)) → AreTerms region terms → (lists : List TermList)
    → ((s : State) → TellsPostings contents holds s
    → HaveSameExtents region frames.ranges lists (map (list_at (found_in frames.ranges s)) terms))
    → (k : ℕ) (few : Bool) {holds_then : Option Content} {before middle now : ℕ} → holds_then ≡ holds → middle ≡ before
    → (first : Option (List ReadRange)) {between last : Option (List ReadRange)} (read : List ReadRange)
    → between ≡ option_map (λ earlier. earlier ++ read) first
    → IsCause (IsBrokenShown files holds_then region lists k (looked_through few region lists frames)) middle now between last trouble
    → IfErr r (IsQueryCause (IsDamagedOver frames (Finding k region) contents files holds) before now first last)
cause_of_text r frames contents files holds {trouble} is region terms are lists alike k few same calm first read earlier cause =
    err_from _ r trouble is
    (cause_of_query calm (cause_behind read earlier cause)
    (λ ranges blob bytes broken.
    inr (bytes, text_needed frames contents files holds region terms are lists alike k few blob (rw same at broken))))

-- ---- any damage of a query

-- is damage of a recorded text or a part
module _ (holds : Option Content) (blob : ℕ) (files : Records) where
  one_damaged : (ino : ℕ) (o : Option FileRec) → record_at files ino ≡ o → IsSomeAnd o (λ file. IsBrokenIn holds file blob)
      → IsDamagedAt files holds blob
  one_damaged ino None there broken = absurd broken
  one_damaged ino (Some file) there broken = broken_file holds ino file files there blob broken

  text_damaged : (view : List Seen) → IsDamagedOf view files holds blob → IsDamagedAt files holds blob
  text_damaged [] damaged = absurd damaged
  text_damaged (seen ∷ view) damaged =
      ⊎_elim (λ here. one_damaged seen.ino (record_at files seen.ino) refl here) (λ later. text_damaged view later) damaged

  pub damaged_in : (fs : FileSystem) (live : Ranges) (uid : ℕ) (question : Question) (contents : Contents) {read : List ReadRange}
      → IsDamagedFor fs live uid question contents files holds read blob → IsDamagedIn files contents holds blob
  damaged_in fs live uid question contents found =
      ⊎_elim (λ part. inr part.1) (λ text. inl (text_damaged found.frames.seen text.1.damaged)) found.needed
