-- A blob that an engine finds damaged was broken when the store was opened.
use Rattle.std.proofs.Common.{◌≡◌, inl, inr, ⊎_elim, ℕ, ◌<◌, List, [], ◌∷◌, refl, sym, ◌∙◌, subst}
use Rattle.std.specs.Prelude.{Option, None, Some, zip}
use Rattle.std.specs.List.{AllByRecursion}
use Rattle.std.proofs.lemmas.List.Sorted.{IsPermutation-sym}
use Rattle.wu_base.specs.declared.addresses.PartRec.{PartRec}
use Rattle.wu_base.specs.declared.addresses.TermList.{TermList}
use Rattle.wu_base.proofs.Members.{Contains-from_Has, Has, Has-append_right}
use Rattle.wu_outside.specs.Content.{Content}
use Rattle.wu_layout.specs.Invariants.{SomeOf}
use Rattle.wu_layout.proofs.EntryLemmas.{IfSome-map}
use Rattle.wu_part.specs.Directories.{PartDirectory}
use Rattle.wu_part.specs.Parts.{IsBroken, SpellsPart, IsNoPart}
use Rattle.wu_part.proofs.LawLemmas.{one_directory}
use Rattle.wu_parts.specs.Causes.{IsBrokenPart}
use Rattle.wu_job.specs.Jobs.{IsRight}
use Rattle.wu_parts.specs.Contents.{Contents, JobAt}
use Rattle.wu_parts.specs.Loading.{HasNoDirectory, IsFirstBroken}
use Rattle.wu_parts.specs.Working.{IsDamaged}
use Rattle.wu_parts.proofs.UnitChains.{broken_parts}
use Rattle.wu_image.specs.Breakage.{HasBrokenPart, HasBrokenText, IsBrokenCheckpoint, IsBrokenRoot}
use Rattle.wu_image.specs.Texts.{IsBrokenText}
use Rattle.wu_image.specs.declared.checkpoints.Checkpoint.{Checkpoint}
use Rattle.wu_image.specs.declared.records.FileRec.{FileRec}
use Rattle.wu_image.specs.declared.roots.Root.{Root}
use Rattle.wu_image.proofs.FileOrder.{moved_has}
use Rattle.wu_query.specs.Causes.{IsDamagedAt, IsDamagedIn}
use Rattle.wu_query.specs.Records.{Records}
use Rattle.wu_engine.specs.Going.{HasBroken, IsSavedPart, IsSoundIn, IsSoundJob, IsSoundOver, IsSoundPart, IsSoundText, parts_kept}
use Rattle.wu_engine.specs.Opening.{HasCheckpoint, HasOpenRoot, IsDamagedAtOpening, IsIndexDamaged}
use Rattle.wu_engine.specs.Reindexing.{IsFirstBrokenText}

module _ (start content : Content) (blob : ℕ) where
  -- a text
  text_broken : (files : Records) → AllByRecursion (IsSoundText start content) files → IsDamagedAt files (Some content) blob → HasBroken start blob
  text_broken [] sound damaged = absurd damaged
  text_broken (file ∷ files) sound damaged =
      ⊎_elim
      (λ (here : (file.1.blob ≡ blob) × (0 < blob) × IsBrokenText file.1 (content.blobs blob)).
      let broken : IsBrokenText file.1 (content.blobs file.1.blob) =
      subst (λ (n : ℕ). IsBrokenText file.1 (content.blobs n)) (sym here.0) here.2 in
      ⊎_elim
      (λ saved.
      inr (
        saved.files,
        saved.parts,
        saved.saved,
        inr (inr (inr (record {
          file = file.1;
          recorded = saved.recorded;
          its = here.0;
          some = here.1;
          broken =
              subst (λ (n : ℕ). IsBrokenText file.1 (start.blobs n)) here.0
              (subst (IsBrokenText file.1) saved.same broken);
        }))),
      ))
      (λ sound_text. absurd (sound_text broken))
      (sound.0 (subst (λ (n : ℕ). 0 < n) (sym here.0) here.1)))
      (λ later. text_broken files sound.1 later)
      damaged

  -- a part that was saved is broken by its record where the blob is no part with the directory that it has
  part_broken : (recorded : PartRec) (directory : PartDirectory) → IsSoundPart start content (recorded, directory)
      → IsBrokenPart (Some content) blob (recorded, directory) → HasBroken start blob
  part_broken recorded directory sound damaged =
      let none : (lists : List TermList) → SpellsPart directory lists sound.bytes → ⊥ =
      subst (λ (o : Option (List ℕ)). IsNoPart directory o) sound.held
      (subst (λ (n : ℕ). IsNoPart directory (content.blobs n)) (sym damaged.0) damaged.1) in
      ⊎_elim
      (λ (saved : IsSavedPart start content recorded).
      let broken : IsBroken recorded (Some sound.bytes) =
      λ other lists spelled told.
      none lists (subst (λ (d : PartDirectory). SpellsPart d lists sound.bytes) (one_directory other directory sound.bytes spelled.own sound.own) spelled) in
      inr (
        saved.files,
        saved.parts,
        saved.saved,
        inr (inr (inl (record {
          part = recorded;
          recorded = saved.recorded_so;
          its = damaged.0;
          broken =
              subst (λ (n : ℕ). IsBroken recorded (start.blobs n)) damaged.0
              (subst (IsBroken recorded) (sym sound.held ∙ saved.same) broken);
        }))),
      ))
      (λ whole. absurd (whole none))
      sound.sound

  parts_broken : (pairs : List (PartRec × PartDirectory)) → AllByRecursion (IsSoundPart start content) pairs
      → SomeOf (IsBrokenPart (Some content) blob) pairs → HasBroken start blob
  parts_broken [] sound damaged = absurd damaged
  parts_broken (pair ∷ pairs) sound damaged =
      ⊎_elim
      (λ here. part_broken pair.0 pair.1 sound.0 here)
      (λ later. parts_broken pairs sound.1 later)
      damaged

  pub damaged_is_broken : (files : Records) (contents : Contents) (checkpoint : ℕ) → IsSoundIn start content files contents checkpoint
      → IsDamagedIn files contents (Some content) blob → HasBroken start blob
  damaged_is_broken files contents checkpoint sound damaged =
      ⊎_elim (λ text. text_broken files sound.texts text) (λ part. parts_broken (zip contents.parts contents.directories) sound.parts part) damaged

-- what a call finds damaged where the engine goes on over that
pub found_is_broken : (start : Content) (holds : Option Content) (files : Records) (contents : Contents) (checkpoint blob : ℕ)
    → IsSoundOver start holds files contents checkpoint → IsDamagedIn files contents holds blob → HasBroken start blob
found_is_broken start None files contents checkpoint blob sound damaged = absurd sound
found_is_broken start (Some content) files contents checkpoint blob sound damaged =
    damaged_is_broken start content blob files contents checkpoint sound damaged

-- and what background work does
pub worked_is_broken : (start : Content) (holds : Option Content) (files : Records) (contents : Contents) (checkpoint blob : ℕ)
    → IsSoundOver start holds files contents checkpoint → IsDamaged holds contents blob → HasBroken start blob
worked_is_broken start None files contents checkpoint blob sound damaged = absurd sound
worked_is_broken start (Some content) files contents checkpoint blob sound damaged =
    parts_broken start content blob (zip contents.parts contents.directories) sound.parts
    (broken_parts content contents.job blob (zip contents.parts contents.directories)
    (IfSome-map (IsSoundJob content contents) (λ (running : JobAt). IsRight content running.state) contents.job (λ running job. job.1)
    sound.job)
    damaged)

-- ---- at opening

-- the leftmost part that can't be opened is broken by its record
no_directory : (recorded : PartRec) (held : Option (List ℕ)) → HasNoDirectory recorded held → IsBroken recorded held
no_directory recorded None none = tt
no_directory recorded (Some bytes) none = λ directory lists spelled told. none directory spelled.own told

first_broken : (content : Content) (parts : List PartRec) (blob : ℕ) → IsFirstBroken (Some content) parts blob
    → (part : PartRec) × Has part parts × (part.blob ≡ blob) × IsBroken part (content.blobs blob)
first_broken content [] blob first = absurd first
first_broken content (recorded ∷ parts) blob first =
    ⊎_elim
    (λ (here : (recorded.blob ≡ blob) × HasNoDirectory recorded (content.blobs blob)).
    (recorded, inl refl, here.0, no_directory recorded (content.blobs blob) here.1))
    (λ later.
    let rest = first_broken content parts blob later.1 in
    (rest.0, inr rest.1, rest.2, rest.3))
    first

broken_part : (content : Content) (parts : List PartRec) (blob : ℕ) → IsFirstBroken (Some content) parts blob
    → HasBrokenPart content parts blob
broken_part content parts blob first =
    let found = first_broken content parts blob first in
    record { part = found.0; recorded = Contains-from_Has found.0 parts found.1; its = found.2; broken = found.3 }

-- the first text that is broken is so by its record
broken_text : (content : Content) (files : List FileRec) (blob : ℕ) → IsFirstBrokenText (Some content) files blob
    → HasBrokenText content files blob
broken_text content files blob is =
    let first = is.first in
    let among : Has first.file is.order =
    subst (Has first.file) (sym first.split) (Has-append_right first.file first.before (first.file ∷ first.after) (inl refl)) in
    record {
      file = first.file;
      recorded =
          Contains-from_Has first.file files
          (moved_has is.order files first.file (IsPermutation-sym files is.order is.by_address.moved) among);
      its = first.its;
      some = first.some;
      broken = first.broken;
    }

-- what an opening finds broken
pub opening_is_broken : (content : Content) (blob : ℕ) → IsDamagedAtOpening content blob → HasBroken content blob
opening_is_broken content blob damaged =
    ⊎_elim
    (λ (root : (blob ≡ 0) × IsBrokenRoot content.root). inl (inl root))
    (λ later.
    ⊎_elim
    (λ (saved : (root : Root) × HasOpenRoot content root × (root.checkpoint ≡ blob) × IsBrokenCheckpoint root (content.blobs blob)).
    inl (inr (inl (record {
      root = saved.0;
      code = saved.1.has.code;
      there = saved.1.has.there;
      spelled = saved.1.has.spelled;
      its = saved.2;
      broken = saved.3;
    }))))
    (λ (saved : (root : Root) × HasOpenRoot content root × (checkpoint : Checkpoint) × HasCheckpoint content root checkpoint
    × IsIndexDamaged content root.version checkpoint blob).
    inr (
      saved.2.files,
      parts_kept saved.0.version saved.2,
      record {
        root = saved.0;
        found = saved.1.has;
        checkpoint = saved.2;
        saved = saved.3;
        of_files = refl;
        of_parts = refl;
      },
      ⊎_elim
          (λ (part : (saved.0.version ≡ 2) × IsFirstBroken (Some content) saved.2.parts blob).
          let all : parts_kept saved.0.version saved.2 ≡ saved.2.parts = rw part.0 refl in
          inr (inr (inl (subst (λ (parts : List PartRec). HasBrokenPart content parts blob) (sym all)
          (broken_part content saved.2.parts blob part.1)))))
          (λ (text : (saved.0.version ≡ 1) × IsFirstBrokenText (Some content) saved.2.files blob).
          inr (inr (inr (broken_text content saved.2.files blob text.1))))
          saved.4,
    ))
    later)
    damaged
