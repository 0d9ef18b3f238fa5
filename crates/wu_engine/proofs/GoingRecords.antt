-- What is recorded of texts stays sound where records are taken out and put in.
use Rattle.std.proofs.Common.{◌≡◌, ◌⊎◌, inr, ⊎_elim, ℕ, ◌+◌, ◌<◌, cond, List, [], ◌++◌, length, Bool, refl, ap, sym, ◌∙◌, subst, arith}
use Rattle.std.proofs.Common.{append-nil}
use Rattle.std.specs.Prelude.{Option, Some, None, IfSome, option_map}
use Rattle.std.specs.Ordering.{nat_cmp}
use Rattle.std.specs.List.{AllByRecursion}
use Rattle.std.specs.Map.{lookup, remove_entry}
use Rattle.std.specs.BTreeMap.{is_at, insert_entry}
use Rattle.std.proofs.lemmas.Map.Made.{lookup-map_values}
use Rattle.wu_base.specs.declared.addresses.Range.{Range}
use Rattle.wu_base.proofs.MapEntries.{All-insert_entry, All-remove_entry, insert_entry-read, remove_entry-read}
use Rattle.wu_outside.specs.Content.{Content}
use Rattle.wu_token.specs.Tokens.{tokens_of}
use Rattle.wu_token.specs.Words.{has_bytes}
use Rattle.wu_tree.specs.declared.events.Effect.{Effect}
use Rattle.wu_layout.specs.Invariants.{BlobsAreDistinct}
use Rattle.wu_layout.specs.Layouts.{FileEntry, Part, entry_of}
use Rattle.wu_layout.specs.Steps.{text_blob}
use Rattle.wu_layout.proofs.BlobLemmas.{blobs_after_place, blobs_after_release}
use Rattle.wu_space.specs.Addresses.{Addresses, Ranges, range_of}
use Rattle.wu_image.specs.Texts.{IsBrokenText}
use Rattle.wu_image.specs.declared.records.FileRec.{FileRec}
use Rattle.wu_query.specs.Records.{Records, recorded_ranges}
use Rattle.wu_engine.specs.Going.{IsSavedText, IsSoundText, entries_of, entry_for}
use Rattle.wu_engine.specs.Indexing.{Catalog, blob_for, blob_of, catalog_after, catalog_made, catalog_with, catalog_without, is_stored}
use Rattle.wu_engine.specs.Indexing.{record_for, space_made, without_file}
use Rattle.wu_engine.proofs.KeptStates.{none-stored}
use Rattle.wu_engine.proofs.NumberedEntries.{none-removed}
use Rattle.wu_engine.proofs.RecordLemmas.{ranges-with, ranges-without}
use Rattle.wu_engine.proofs.SoundLemmas.{Ascend, ascend_given, ascend_left}

-- ---- one record

none_read : (o : Option FileRec) → option_map (λ file. file.range) o ≡ None → o ≡ None
none_read None e = refl
none_read (Some file) e = absurd cc

-- a file without a range has no record
none_recorded : (files : Records) (ranges : Ranges) → recorded_ranges files ≡ ranges → (ino : ℕ) → range_of ranges ino ≡ None
    → entry_of (entries_of files) ino ≡ None
none_recorded files ranges same ino none =
    let absent : lookup (is_at (nat_cmp ino)) files ≡ None =
    none_read (lookup (is_at (nat_cmp ino)) files)
    (sym (lookup-map_values (λ (file : FileRec). file.range) (is_at (nat_cmp ino)) files)
    ∙ ap (λ (rs : Ranges). range_of rs ino) same ∙ none) in
    lookup-map_values entry_for (is_at (nat_cmp ino)) files ∙ ap (option_map entry_for) absent

freed : (o : Option FileRec) → text_blob (option_map entry_for o) ≡ blob_of o
freed None = refl
freed (Some file) = refl

-- the blob that is given up with a record
blob_freed : (files : Records) (ino : ℕ) → text_blob (entry_of (entries_of files) ino) ≡ blob_of (lookup (is_at (nat_cmp ino)) files)
blob_freed files ino =
    ap text_blob (lookup-map_values entry_for (is_at (nat_cmp ino)) files) ∙ freed (lookup (is_at (nat_cmp ino)) files)

-- the range of a file that is given up is none
none_left : (o : Option ℕ) (space : Addresses) → Ascend space → IfSome o (λ ino. range_of (without_file o space).ranges ino ≡ None)
none_left None space s = tt
none_left (Some ino) space s = none-removed space.ranges ino s

-- ---- a catalog

-- each text was saved so, or is so in the content, and no blob is named twice
pub record IsSoundCatalog (start content : Content) (parts : List Part) (check next : ℕ) (catalog : Catalog) : Type 0 where
  pub texts : AllByRecursion (IsSoundText start content) catalog.files
  pub blobs : BlobsAreDistinct next (entries_of catalog.files) parts check catalog.stale

module _ (start content : Content) (parts : List Part) (check : ℕ) where
  -- without a file
  catalog_left : (o : Option ℕ) (next : ℕ) (catalog : Catalog) → IsSoundCatalog start content parts check next catalog
      → IsSoundCatalog start content parts check next (catalog_without o catalog)
  catalog_left None next catalog sound = record {
    texts = sound.texts;
    blobs =
        subst (λ (stale : List ℕ). BlobsAreDistinct next (entries_of catalog.files) parts check stale) (sym (append-nil catalog.stale))
        sound.blobs;
  }
  catalog_left (Some ino) next catalog sound =
      let test : ℕ → Bool = is_at (nat_cmp ino) in
      let gone : List ℕ = text_blob (entry_of (entries_of catalog.files) ino) in
      record {
        texts = All-remove_entry (IsSoundText start content) test catalog.files sound.texts;
        blobs =
            subst
            (λ (blobs : List ℕ). BlobsAreDistinct next (entries_of (remove_entry test catalog.files)) parts check (catalog.stale ++ blobs))
            (blob_freed catalog.files ino)
            (subst (λ (entries : List (ℕ × FileEntry)). BlobsAreDistinct next entries parts check (catalog.stale ++ gone))
            (remove_entry-read entry_for test catalog.files)
            (blobs_after_release next (entries_of catalog.files) parts check catalog.stale sound.blobs ino));
      }

  -- a text is whole in a blob that has it
  whole_text : (ino : ℕ) (text : List ℕ) (blob address : ℕ) → (0 < blob → content.blobs blob ≡ Some text) → 0 < blob
      → IsSavedText start content (record_for ino text blob address)
      ⊎ (IsBrokenText (record_for ino text blob address) (content.blobs blob) → ⊥)
  whole_text ino text blob address held some =
      inr (λ broken.
      ⊎_elim (λ size. size refl) (λ tokens. tokens refl)
      (subst (IsBrokenText (record_for ino text blob address)) (held some) broken))

  -- with a file that had no range
  catalog_given : (o : Option ℕ) (text : List ℕ) (blob next : ℕ) (catalog : Catalog) → IsSoundCatalog start content parts check next catalog
      → recorded_ranges catalog.files ≡ catalog.space.ranges → IfSome o (λ ino. range_of catalog.space.ranges ino ≡ None)
      → blob ≡ blob_for o text next → (0 < blob → content.blobs blob ≡ Some text)
      → IsSoundCatalog start content parts check (next + cond (is_stored o text) 1 0) (catalog_with o text blob catalog)
  catalog_given None text blob next catalog sound same none drawn held = record {
    texts = sound.texts;
    blobs =
        let up : next ≡ next + 0 = omega arith in
        subst (λ (n : ℕ). BlobsAreDistinct n (entries_of catalog.files) parts check catalog.stale) up sound.blobs;
  }
  catalog_given (Some ino) text blob next catalog sound same none drawn held =
      let address : ℕ = catalog.space.next in
      let range : Range = record { start = address; len = length (tokens_of text) } in
      let whole = whole_text ino text blob address held in
      let high : ℕ = next + cond (has_bytes text) 1 0 in
      record {
        texts =
            All-insert_entry (IsSoundText start content) nat_cmp catalog.files ino (record_for ino text blob address) sound.texts
            (λ q e. whole) whole;
        blobs =
            subst (λ (entries : List (ℕ × FileEntry)). BlobsAreDistinct high entries parts check catalog.stale)
            (insert_entry-read entry_for nat_cmp catalog.files ino (record_for ino text blob address))
            (subst
            (λ (n : ℕ). BlobsAreDistinct high (insert_entry nat_cmp (entries_of catalog.files) ino (record { blob = n; range = range }))
            parts check catalog.stale)
            (sym drawn)
            (blobs_after_place next (entries_of catalog.files) parts check catalog.stale sound.blobs ino address
            (record { terms = tokens_of text; has_bytes = has_bytes text })
            (none_recorded catalog.files catalog.space.ranges same ino none)));
      }

  -- after an event with that effect, which gives a file that text
  pub catalog_followed : (effect : Effect) (text : List ℕ) (blob next : ℕ) (catalog : Catalog)
      → IsSoundCatalog start content parts check next catalog
      → recorded_ranges catalog.files ≡ catalog.space.ranges → Ascend catalog.space
      → IfSome effect.made (λ ino. range_of (without_file effect.dropped catalog.space).ranges ino ≡ None)
      → blob ≡ blob_for effect.texted text next → (0 < blob → content.blobs blob ≡ Some text)
      → IsSoundCatalog start content parts check (next + cond (is_stored effect.texted text) 1 0) (catalog_after effect text blob catalog)
  catalog_followed effect text blob next catalog sound same sorted new drawn held =
      let left : Catalog = catalog_without effect.dropped catalog in
      let made : Catalog = catalog_made effect catalog in
      let again : Catalog = catalog_without effect.texted made in
      let of_left : recorded_ranges left.files ≡ left.space.ranges = ranges-without catalog same effect.dropped in
      let of_made : recorded_ranges made.files ≡ made.space.ranges = ranges-with left of_left effect.made [] 0 in
      let none : cond {A = ℕ} (is_stored effect.made []) 1 0 ≡ 0 = ap (λ (b : Bool). cond {A = ℕ} b 1 0) (none-stored effect.made) in
      let up : next + cond (is_stored effect.made []) 1 0 ≡ next = omega (arith, none) in
      let empty : 0 ≡ blob_for effect.made [] next = sym (ap (λ (b : Bool). cond {A = ℕ} b next 0) (none-stored effect.made)) in
      let sound_made : IsSoundCatalog start content parts check next made =
      subst (λ (n : ℕ). IsSoundCatalog start content parts check n made) up
      (catalog_given effect.made [] 0 next left (catalog_left effect.dropped next catalog sound) of_left new empty
      (λ some. absurd (omega (arith, some)))) in
      catalog_given effect.texted text blob next again (catalog_left effect.texted next made sound_made)
      (ranges-without made of_made effect.texted)
      (none_left effect.texted (space_made effect catalog.space)
      (ascend_given effect.made (without_file effect.dropped catalog.space) [] (ascend_left effect.dropped catalog.space sorted)))
      drawn held
