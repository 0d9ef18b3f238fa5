-- The tree, the texts and the parts that a sound store's contents spell.
use Rattle.std.proofs.Common.{◌≡◌, ◌≢◌, ℕ, ◌<◌, Bool, cond, List, [], ◌∷◌, length, map}
use Rattle.std.proofs.Common.{refl, ap, sym, ◌∙◌, subst, inl, inr, ⊎_elim, arith}
use Rattle.std.specs.Prelude.{Option, Some, None, unwrap_or}
use Rattle.std.specs.Ordering.{nat_cmp}
use Rattle.std.specs.List.{AllByRecursion, AllZip}
use Rattle.std.specs.List.Sorted.{IsStrictlySortedBy}
use Rattle.std.specs.Map.{lookup}
use Rattle.std.specs.BTreeMap.{is_at}
use Rattle.std.proofs.lemmas.Bool.{cases_eq, eq-eqb, ne_eqb}
use Rattle.wu_base.specs.declared.addresses.PartRec.{PartRec}
use Rattle.wu_base.proofs.MapEntries.{all_found}
use Rattle.wu_base.proofs.Members.{Has, Has-map, all_from_has, all_has}
use Rattle.wu_outside.specs.Content.{Content}
use Rattle.wu_layout.specs.Layouts.{Layout, Part, first_layout}
use Rattle.wu_token.specs.Tokens.{tokens_of}
use Rattle.wu_token.proofs.LengthLemmas.{length-text, length-tokens_of}
use Rattle.wu_tree.proofs.ListTests.{keys_mapped}
use Rattle.wu_image.specs.declared.checkpoints.Checkpoint.{Checkpoint}
use Rattle.wu_image.specs.declared.records.FileRec.{FileRec}
use Rattle.wu_image.specs.declared.roots.Root.{Root}
use Rattle.wu_image.specs.Checkpoints.{IsCheckpoint}
use Rattle.wu_image.specs.Images.{HoldsText, Texts, postings_from, text_held, text_of}
use Rattle.wu_image.specs.LayoutRules.{IsText}
use Rattle.wu_image.specs.Texts.{IsBrokenText}
use Rattle.wu_image.proofs.FileNumbers.{file_numbers_ascend}
use Rattle.wu_check.specs.Wrong.{AreSoundTexts, IsSoundPart, IsWrongText}
use Rattle.wu_check.proofs.AddressOrder.{sorted}
use Rattle.wu_check.proofs.FileEntries.{entries_of}
use Rattle.wu_check.proofs.SoundPostings.{part_of_postings}
use Rattle.wu_check.proofs.StandingTexts.{AreTold}

-- ---- what is held of a text

pub record IsHeld (content : Content) (file : FileRec) : Type 0 where
  pub held : 0 < file.blob → content.blobs file.blob ≡ Some (text_held content file)
  pub len : file.len ≡ length (text_held content file)
  pub long : file.range.len ≡ length (tokens_of (text_held content file))

empty_tokens : length (tokens_of []) ≡ 2
empty_tokens = omega (arith, length-tokens_of [], length-text [])

module _ (content : Content) (next : ℕ) (file : FileRec) (is : IsText next file) (sound : IsWrongText content file → ⊥) where
  held_if : (held : Option (List ℕ)) → content.blobs file.blob ≡ held → 0 < file.blob
      → (bytes : List ℕ) × ((held ≡ Some bytes) × ((file.len ≡ length bytes) × (file.range.len ≡ length (tokens_of bytes))))
  held_if None e some = absurd (sound (some, subst (IsBrokenText file) (sym e) tt))
  held_if (Some bytes) e some = (
    bytes,
    (
      refl,
      (
        ⊎_elim
            (λ (same : length bytes ≡ file.len). sym same)
            (λ (other : length bytes ≢ file.len). absurd (sound (some, subst (IsBrokenText file) (sym e) (inl other))))
            (cases_eq (length bytes) file.len),
        ⊎_elim
            (λ (same : length (tokens_of bytes) ≡ file.range.len). sym same)
            (λ (other : length (tokens_of bytes) ≢ file.range.len). absurd (sound (some, subst (IsBrokenText file) (sym e) (inr other))))
            (cases_eq (length (tokens_of bytes)) file.range.len),
      ),
    ),
  )

  text_is : (bytes : List ℕ) → 0 < file.blob → content.blobs file.blob ≡ Some bytes → text_held content file ≡ bytes
  text_is bytes some e =
      ap (λ (b : Bool). cond b [] (unwrap_or (content.blobs file.blob) [])) (ne_eqb file.blob 0 (λ none. omega (arith, some, none)))
      ∙ ap (λ (o : Option (List ℕ)). unwrap_or o []) e

  pub text_kept : IsHeld content file
  text_kept =
      ⊎_elim
      (λ (none : file.blob ≡ 0).
      let empty : text_held content file ≡ [] =
      ap (λ (b : Bool). cond b [] (unwrap_or (content.blobs file.blob) [])) (eq-eqb file.blob 0 none) in
      record {
        held = λ some. absurd (omega (arith, some, none));
        len = is.kept.0 none ∙ sym (ap length empty);
        long = omega (arith, is.some, is.long, is.kept.0 none, empty_tokens) ∙ sym (ap (λ (t : List ℕ). length (tokens_of t)) empty);
      })
      (λ (other : file.blob ≢ 0).
      let some : 0 < file.blob = omega (arith, other) in
      let r = held_if (content.blobs file.blob) refl some in
      let same : text_held content file ≡ r.0 = text_is r.0 some r.1.0 in
      record {
        held = λ _. r.1.0 ∙ ap (λ (t : List ℕ). Some t) (sym same);
        len = r.1.1.0 ∙ sym (ap length same);
        long = r.1.1.1 ∙ sym (ap (λ (t : List ℕ). length (tokens_of t)) same);
      })
      (cases_eq file.blob 0)

texts_kept : (content : Content) (next : ℕ) (files : List FileRec) → AllByRecursion (IsText next) files → AreSoundTexts content files
    → AllByRecursion (IsHeld content) files
texts_kept content next [] are sound = tt
texts_kept content next (file ∷ files) are sound =
    (text_kept content next file are.0 sound.0, texts_kept content next files are.1 sound.1)

-- ---- the state

module _ (content : Content) (root : Root) (checkpoint : Checkpoint) (rules : IsCheckpoint checkpoint)
    (sound : AreSoundTexts content checkpoint.files) where
  abbrev files : List FileRec
  files = checkpoint.files

  abbrev pub texts : Texts
  texts = map (λ file. (file.ino, text_held content file)) files

  pub kept : AllByRecursion (IsHeld content) files
  kept = texts_kept content checkpoint.next_address files rules.layout.texts sound

  found : AllByRecursion (λ e. lookup (is_at (nat_cmp e.0)) texts ≡ Some e.1) texts
  found =
      all_found texts
      (subst (IsStrictlySortedBy nat_cmp) (sym (keys_mapped (λ (file : FileRec). (file.ino, text_held content file)) files))
      (subst (IsStrictlySortedBy nat_cmp) (sym rules.files) (file_numbers_ascend checkpoint.tree.nodes rules.tree.nodes_ascend)))

  pub its_text : (file : FileRec) → Has file files → text_of texts file.ino ≡ text_held content file
  its_text file h =
      ap (λ (o : Option (List ℕ)). unwrap_or o [])
      (all_has (λ (e : ℕ × List ℕ). lookup (is_at (nat_cmp e.0)) texts ≡ Some e.1) (file.ino, text_held content file) texts found
      (Has-map (λ (f : FileRec). (f.ino, text_held content f)) file files h))

  pub texts_stand : (some : List FileRec) → ((file : FileRec) → Has file some → Has file files)
      → AllZip (HoldsText content texts) (entries_of some) some
  texts_stand [] sub = tt
  texts_stand (file ∷ some) sub =
      let among : Has file files = sub file (inl refl) in
      let its : IsHeld content file = all_has (IsHeld content) file files kept among in
      let same : text_held content file ≡ text_of texts file.ino = sym (its_text file among) in (
        record {
          ino = refl;
          len = its.len ∙ ap length same;
          blob = refl;
          range = refl;
          held = λ l. its.held l ∙ ap (λ (t : List ℕ). Some t) same;
        },
        texts_stand some (λ f h. sub f (inr h)),
      )

  long : AllByRecursion (λ file. file.range.len ≡ length (tokens_of (text_held content file))) files
  long = all_from_has (λ (file : FileRec). file.range.len ≡ length (tokens_of (text_held content file))) files
      (λ file h. (all_has (IsHeld content) file files kept h).long)

  pub counted : AllByRecursion (λ file. length (tokens_of (text_of texts file.ino)) ≡ file.range.len) files
  counted = all_from_has (λ (file : FileRec). length (tokens_of (text_of texts file.ino)) ≡ file.range.len) files
      (λ file h. ap (λ (t : List ℕ). length (tokens_of t)) (its_text file h)
      ∙ sym (all_has (IsHeld content) file files kept h).long)

  pub parts_stand : (records : List PartRec) → AllByRecursion (IsSoundPart content files) records
      → (parts : List Part) × AreTold content files parts records
  parts_stand [] all = ([], tt)
  parts_stand (recorded ∷ records) all =
      let one = part_of_postings content files recorded all.0 long in
      let more = parts_stand records all.1 in
      (one.0 ∷ more.0, (one.1, more.1))

  abbrev pub plain : Layout
  plain = record first_layout {
    next = checkpoint.next_address;
    blob = checkpoint.next_blob;
    check = root.checkpoint;
    files = entries_of files;
  }

  abbrev pub renewed_layout : Layout
  renewed_layout = record plain {
    memory = postings_from (λ file. text_of texts file.ino) (sorted files);
    stale = map (λ part. part.blob) checkpoint.parts;
  }
