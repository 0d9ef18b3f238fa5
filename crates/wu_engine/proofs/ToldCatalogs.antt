-- What an accepted event does to catalog, postings in memory and texts, as its layout has it.
use Rattle.std.proofs.Common.{◌≡◌, ℕ, ◌+◌, List, [], ◌++◌, length, refl, ap, sym, ◌∙◌, subst, arith, append_assoc, append-nil}
use Rattle.std.specs.Prelude.{Option, Some, None}
use Rattle.std.specs.Ordering.{nat_cmp}
use Rattle.std.specs.Map.{remove_entry}
use Rattle.std.specs.BTreeMap.{is_at, insert_entry}
use Rattle.std.proofs.lemmas.Map.{NonePasses, none_passes_from_lookup}
use Rattle.wu_outside.specs.Content.{Content}
use Rattle.wu_token.specs.Tokens.{tokens_of}
use Rattle.wu_tree.specs.declared.events.Effect.{Effect}
use Rattle.wu_tree.specs.FileSystems.{FileSystem}
use Rattle.wu_tree.specs.Effects.{TellsFiles}
use Rattle.wu_tree.proofs.EventRules.{absent}
use Rattle.wu_layout.specs.Postings.{Posting, placed_from}
use Rattle.wu_layout.specs.Layouts.{FileEntry, Layout, entry_of, ranges_by_number}
use Rattle.wu_layout.specs.Invariants.{IsLayoutOf}
use Rattle.wu_layout.proofs.EntryLemmas.{none_after_removal}
use Rattle.wu_layout.proofs.NumberedRanges.{ranges_by_number-put, ranges_by_number-removal}
use Rattle.wu_layout.proofs.Fetches.{placed-append}
use Rattle.wu_space.specs.Addresses.{Ranges}
use Rattle.wu_query.specs.States.{State, Texts, IsState}
use Rattle.wu_query.specs.Records.{Records, records_of}
use Rattle.wu_query.specs.Searched.{HoldsTexts}
use Rattle.wu_engine.specs.States.{texts_after, without_text, with_text, layout_without, layout_with, layout_after}
use Rattle.wu_engine.specs.Indexing.{Catalog, blob_for, blob_left, catalog_after, catalog_made, catalog_with, catalog_without, record_for}
use Rattle.wu_engine.specs.Indexing.{stored_at, terms_after, terms_given}
use Rattle.wu_engine.proofs.FileChanges.{ChangesFiles}
use Rattle.wu_engine.proofs.StateTexts.{text-left}
use Rattle.wu_engine.proofs.StateLayouts.{layout_dropped, left_kept, made_absent, made_kept}
use Rattle.wu_engine.proofs.KeptStates.{drawn-made}
use Rattle.wu_engine.proofs.RecordLemmas.{blob-recorded, records-elsewhere, records-put, records-removal}
use Rattle.wu_engine.proofs.StoredTexts.{IsAbsent, blobs_below, held_forgotten, held_placed, held_released, stored_none}

-- ---- the catalog

-- the catalog has the layout's next address, live ranges and stale blobs, and the records of its files with these texts
pub record Tells (catalog : Catalog) (texts : Texts) (layout : Layout) : Type 0 where
  pub next : catalog.space.next ≡ layout.next
  pub live : catalog.space.ranges ≡ ranges_by_number layout.files
  pub files : catalog.files ≡ records_of texts layout.files
  pub stale : catalog.stale ≡ layout.stale

none_at : (layout : Layout) (ino : ℕ) → entry_of layout.files ino ≡ None → NonePasses (is_at (nat_cmp ino)) layout.files
none_at layout ino absent = none_passes_from_lookup (is_at (nat_cmp ino)) layout.files absent

tells_without : (o : Option ℕ) (catalog : Catalog) (texts : Texts) (layout : Layout) → Tells catalog texts layout
    → Tells (catalog_without o catalog) texts (layout_without o layout)
tells_without None catalog texts layout t = record {
  next = t.next;
  live = t.live;
  files = t.files;
  stale = append-nil catalog.stale ∙ t.stale;
}
tells_without (Some ino) catalog texts layout t = record {
  next = t.next;
  live = ap (remove_entry (is_at (nat_cmp ino))) t.live ∙ ranges_by_number-removal layout.files ino;
  files = ap (remove_entry (is_at (nat_cmp ino))) t.files ∙ records-removal texts (is_at (nat_cmp ino)) layout.files;
  stale =
      ap (λ (l : List ℕ). l ++ blob_left (Some ino) catalog.files) t.stale
      ∙ ap (λ (files : Records). layout.stale ++ blob_left (Some ino) files) t.files
      ∙ ap (λ (l : List ℕ). layout.stale ++ l) (blob-recorded texts ino layout.files);
}

-- the text of what is no file doesn't matter
tells_forgotten : (o : Option ℕ) (catalog : Catalog) (texts : Texts) (layout : Layout) → IsAbsent o layout → Tells catalog texts layout
    → Tells catalog (without_text o texts) layout
tells_forgotten None catalog texts layout absent t = t
tells_forgotten (Some ino) catalog texts layout absent t = record {
  next = t.next;
  live = t.live;
  files =
      t.files
      ∙ records-elsewhere texts (remove_entry (is_at (nat_cmp ino)) texts) ino (text-left texts ino) layout.files
      (none_at layout ino (absent ino refl));
  stale = t.stale;
}

tells_with : (o : Option ℕ) (text : List ℕ) (blob : ℕ) (catalog : Catalog) (texts : Texts) (layout : Layout) → IsAbsent o layout
    → blob ≡ blob_for o text layout.blob → Tells catalog texts layout
    → Tells (catalog_with o text blob catalog) (with_text o text texts) (layout_with o text layout)
tells_with None text blob catalog texts layout absent drawn t = t
tells_with (Some ino) text blob catalog texts layout absent drawn t =
    let len : ℕ = length (tokens_of text) in
    let entry : FileEntry = record { blob = blob_for (Some ino) text layout.blob; range = record { start = layout.next; len = len } } in
    record {
      next = ap (λ (n : ℕ). n + len) t.next;
      live =
          ap (λ (n : ℕ). insert_entry nat_cmp catalog.space.ranges ino (record { start = n; len = len })) t.next
          ∙ ap (λ (ranges : Ranges). insert_entry nat_cmp ranges ino (record { start = layout.next; len = len })) t.live
          ∙ ranges_by_number-put layout.files ino _;
      files =
          ap (λ (n : ℕ). insert_entry nat_cmp catalog.files ino (record_for ino text blob n)) t.next
          ∙ ap (λ (b : ℕ). insert_entry nat_cmp catalog.files ino (record_for ino text b layout.next)) drawn
          ∙ ap
          (λ (files : Records). insert_entry nat_cmp files ino (record_for ino text (blob_for (Some ino) text layout.blob) layout.next))
          t.files
          ∙ records-put texts ino text entry layout.files (none_at layout ino (absent ino refl));
      stale = t.stale;
    }

-- ---- postings in memory

memory_with : (o : Option ℕ) (text : List ℕ) (layout : Layout)
    → (layout_with o text layout).memory ≡ layout.memory ++ placed_from layout.next (terms_given o text)
memory_with None text layout = sym (append-nil layout.memory)
memory_with (Some ino) text layout = refl

next_with : (o : Option ℕ) (text : List ℕ) (layout : Layout) → (layout_with o text layout).next ≡ layout.next + length (terms_given o text)
next_with None text layout = omega arith
next_with (Some ino) text layout = refl

-- what isn't changed by a text that goes, nor by one that comes, isn't changed by an event
module _ {X : Type 0} (f : Layout → X) (without : (ino : ℕ) (layout : Layout) → f (layout_without (Some ino) layout) ≡ f layout) where
  same_without : (o : Option ℕ) (layout : Layout) → f (layout_without o layout) ≡ f layout
  same_without None layout = refl
  same_without (Some ino) layout = without ino layout

  module _ (with_text : (ino : ℕ) (text : List ℕ) (layout : Layout) → f (layout_with (Some ino) text layout) ≡ f layout) where
    same_with : (o : Option ℕ) (text : List ℕ) (layout : Layout) → f (layout_with o text layout) ≡ f layout
    same_with None text layout = refl
    same_with (Some ino) text layout = with_text ino text layout

    pub same_after : (effect : Effect) (text : List ℕ) (layout : Layout) → f (layout_after effect text layout) ≡ f layout
    same_after effect text layout =
        same_with effect.texted text _ ∙ same_without effect.texted _ ∙ same_with effect.made [] _ ∙ same_without effect.dropped layout

pub memory_after : (effect : Effect) (text : List ℕ) (layout : Layout)
    → (layout_after effect text layout).memory ≡ layout.memory ++ placed_from layout.next (terms_after effect text)
memory_after effect text layout =
    let first : List (List ℕ) = terms_given effect.made [] in
    let second : List (List ℕ) = terms_given effect.texted text in
    let left : Layout = layout_without effect.dropped layout in
    let made : Layout = layout_with effect.made [] left in
    let again : Layout = layout_without effect.texted made in
    let left_next : left.next ≡ layout.next = same_without (λ l. l.next) (λ ino l. refl) effect.dropped layout in
    let left_memory : left.memory ≡ layout.memory = same_without (λ l. l.memory) (λ ino l. refl) effect.dropped layout in
    let again_next : again.next ≡ layout.next + length first =
    same_without (λ l. l.next) (λ ino l. refl) effect.texted made ∙ next_with effect.made [] left
    ∙ ap (λ (n : ℕ). n + length first) left_next in
    let again_memory : again.memory ≡ layout.memory ++ placed_from layout.next first =
    same_without (λ l. l.memory) (λ ino l. refl) effect.texted made ∙ memory_with effect.made [] left
    ∙ ap (λ (n : ℕ). left.memory ++ placed_from n first) left_next
    ∙ ap (λ (ps : List Posting). ps ++ placed_from layout.next first) left_memory in
    memory_with effect.texted text again
    ∙ ap (λ (n : ℕ). again.memory ++ placed_from n second) again_next
    ∙ ap (λ (ps : List Posting). ps ++ placed_from (layout.next + length first) second) again_memory
    ∙ append_assoc layout.memory (placed_from layout.next first) (placed_from (layout.next + length first) second)
    ∙ ap (λ (ps : List Posting). layout.memory ++ ps) (sym (placed-append layout.next first second))

none_for : (o : Option ℕ) (next : ℕ) → 0 ≡ blob_for o [] next
none_for None next = refl
none_for (Some ino) next = refl

-- ---- an accepted event

module _ (s : State) (is : IsState s) (after : FileSystem) (effect : Effect) (tells : TellsFiles s.tree effect after)
    (changes : ChangesFiles s.tree effect) (text : List ℕ) where
  abbrev left : Layout
  left = layout_without effect.dropped s.layout

  abbrev made : Layout
  made = layout_with effect.made [] left

  abbrev again : Layout
  again = layout_without effect.texted made

  abbrev left_texts : Texts
  left_texts = without_text effect.dropped s.texts

  abbrev made_texts : Texts
  made_texts = with_text effect.made [] left_texts

  dropped_absent : IsAbsent effect.dropped left
  dropped_absent ino h =
      subst (λ (o : Option ℕ). entry_of (layout_without o s.layout).files ino ≡ None) (sym h)
      (none_after_removal s.layout.files ino is.layout.ranges.by_number)

  made_is_absent : IsAbsent effect.made left
  made_is_absent ino h =
      absent (entry_of left.files ino)
      ((left_kept s after effect tells changes text is.layout).ranges.of_files ino
      ∙ made_absent s after effect tells changes text is.layout ino h)

  texted_absent : IsAbsent effect.texted again
  texted_absent ino h =
      subst (λ (o : Option ℕ). entry_of (layout_without o made).files ino ≡ None) (sym h)
      (none_after_removal made.files ino (made_kept s after effect tells changes text is.layout).ranges.by_number)

  blob_again : again.blob ≡ s.layout.blob
  blob_again = drawn-made effect s.layout

  pub tells_after : (blob : ℕ) (catalog : Catalog) → blob ≡ blob_for effect.texted text s.layout.blob → Tells catalog s.texts s.layout
      → Tells (catalog_after effect text blob catalog) (texts_after effect text s.texts) (layout_after effect text s.layout)
  tells_after blob catalog drawn t =
      let a : Tells (catalog_without effect.dropped catalog) left_texts left =
      tells_forgotten effect.dropped _ s.texts left dropped_absent (tells_without effect.dropped catalog s.texts s.layout t) in
      let b : Tells (catalog_made effect catalog) made_texts made =
      tells_with effect.made [] 0 _ left_texts left made_is_absent (none_for effect.made left.blob) a in
      tells_with effect.texted text blob _ made_texts again texted_absent
      (drawn ∙ ap (blob_for effect.texted text) (sym blob_again))
      (tells_without effect.texted (catalog_made effect catalog) made_texts made b)

  pub held_after : (content : Content) → HoldsTexts (Some content) s.texts s.layout.files
      → HoldsTexts (Some (stored_at s.layout.blob effect.texted text content)) (texts_after effect text s.texts)
      (layout_after effect text s.layout).files
  held_after content held =
      let left_is : IsLayoutOf _ _ left = left_kept s after effect tells changes text is.layout in
      let made_is : IsLayoutOf _ _ made = made_kept s after effect tells changes text is.layout in
      let again_is : IsLayoutOf _ _ again = layout_dropped effect.texted _ made_texts made made_is in
      let a : HoldsTexts (Some content) left_texts left.files =
      held_forgotten content s.texts left effect.dropped dropped_absent
      (held_released content s.texts s.layout effect.dropped is.layout.ranges.by_number held) in
      let b : HoldsTexts (Some content) made_texts made.files =
      subst (λ (c : Content). HoldsTexts (Some c) made_texts made.files) (stored_none left.blob effect.made content)
      (held_placed content left_texts left effect.made []
      (blobs_below left.blob left.files left.parts left.check left.stale left_is.blobs) a) in
      subst (λ (n : ℕ). HoldsTexts (Some (stored_at n effect.texted text content)) (texts_after effect text s.texts)
      (layout_after effect text s.layout).files) blob_again
      (held_placed content made_texts again effect.texted text
      (blobs_below again.blob again.files again.parts again.check again.stale again_is.blobs)
      (held_released content made_texts made effect.texted made_is.ranges.by_number b))
