-- The texts of files that a store holds, after an event.
use Rattle.std.proofs.Common.{◌≡◌, ◌≢◌, ℕ, ◌<◌, ◌≤◌, ◌==◌, Bool, true, false, cond, List, [], length, refl, ap, sym, ◌∙◌, subst, arith}
use Rattle.std.proofs.Common.{⊎_elim}
use Rattle.std.specs.Prelude.{Option, Some, None, IfSome}
use Rattle.std.specs.Ordering.{nat_cmp}
use Rattle.std.specs.List.Sorted.{IsStrictlySortedBy}
use Rattle.std.specs.Map.{keys_of, remove_entry}
use Rattle.std.specs.BTreeMap.{is_at, insert_entry}
use Rattle.std.proofs.lemmas.Bool.{cases_eq, eq-eqb, ne_eqb}
use Rattle.wu_base.proofs.MapEntries.{counted-remove_entry}
use Rattle.wu_outside.specs.Content.{Content, with_blob}
use Rattle.wu_token.specs.Words.{has_bytes}
use Rattle.wu_layout.specs.Layouts.{FileEntry, Layout, Part, entry_of}
use Rattle.wu_layout.specs.Invariants.{BlobsAreDistinct, times_named}
use Rattle.wu_layout.proofs.EntryLemmas.{IfSome-same, IfSome-map2, entry_put, others_after_put, none_after_removal, others_after_removal}
use Rattle.wu_layout.proofs.BlobLemmas.{once_same}
use Rattle.wu_query.specs.States.{Texts, text_in, indexed}
use Rattle.wu_query.specs.Searched.{HoldsTexts}
use Rattle.wu_engine.specs.States.{without_text, with_text, layout_without, layout_with}
use Rattle.wu_engine.specs.Indexing.{is_stored, stored_at}
use Rattle.wu_engine.proofs.StateTexts.{text-there, text-elsewhere, text-left}

-- ---- a blob that was never drawn is no text's

module _ (next : ℕ) (files : List (ℕ × FileEntry)) (parts : List Part) (check : ℕ) (stale : List ℕ)
    (d : BlobsAreDistinct next files parts check stale) (q : ℕ) where
  pub blobs_below : IfSome (entry_of files q) (λ entry. entry.blob < next)
  blobs_below =
      elim (entry_of files q) as (λ o. entry_of files q ≡ o → IfSome o (λ (entry : FileEntry). entry.blob < next)) [
        | None ↦ λ e. tt
        | Some entry ↦ λ e.
            let once : cond {A = ℕ} (entry.blob == entry.blob) 1 0 ≡ 1 = once_same entry.blob entry.blob refl in
            let named = counted-remove_entry (λ (other : FileEntry). other.blob == entry.blob) (is_at (nat_cmp q)) files entry e in
            let none : next ≤ entry.blob → times_named entry.blob files parts check stale ≡ 0 = d.below entry.blob in
            grind (arith, none, named, once)
      ] refl

-- ---- what a store holds after a text is put into it

module _ (blob : ℕ) (o : Option ℕ) (text : List ℕ) (content : Content) where
  pub stored_elsewhere : (number : ℕ) → number ≢ blob → (stored_at blob o text content).blobs number ≡ content.blobs number
  stored_elsewhere number h =
      elim (is_stored o text) as (λ b. (cond b (with_blob blob (Some text) content) content).blobs number ≡ content.blobs number) [
        | true ↦ ap (λ (b : Bool). cond b (Some text) (content.blobs number)) (ne_eqb number blob h)
        | false ↦ refl
      ]

-- the empty text is not put
pub stored_none : (blob : ℕ) (o : Option ℕ) (content : Content) → stored_at blob o [] content ≡ content
stored_none blob None content = refl
stored_none blob (Some ino) content = refl

-- the text of a file that is given one is there
text_stored : (blob ino : ℕ) (text : List ℕ) (content : Content) → 0 < cond (has_bytes text) blob 0
    → (stored_at blob (Some ino) text content).blobs (cond (has_bytes text) blob 0) ≡ Some text
text_stored blob ino text content h =
    elim (has_bytes text) as
    (λ b. 0 < cond b blob 0 → (cond b (with_blob blob (Some text) content) content).blobs (cond b blob 0) ≡ Some text) [
      | true ↦ λ l. ap (λ (b : Bool). cond b (Some text) (content.blobs blob)) (eq-eqb blob blob refl)
      | false ↦ λ l. absurd (omega arith)
    ] h

-- ---- the texts of all files

abbrev Sorted : Layout → Type 0
Sorted layout = IsStrictlySortedBy nat_cmp (keys_of layout.files)

abbrev pub IsAbsent : Option ℕ → Layout → Type 0
IsAbsent o layout = (ino : ℕ) → o ≡ Some ino → entry_of layout.files ino ≡ None

abbrev HasText : Content → Texts → ℕ → FileEntry → Type 0
HasText content texts q entry = 0 < entry.blob → content.blobs entry.blob ≡ Some (text_in texts q)

module _ (content : Content) (texts : Texts) (layout : Layout) where
  abbrev Held : Type 0
  Held = HoldsTexts (Some content) texts layout.files

  pub held_released : (o : Option ℕ) → Sorted layout → Held → HoldsTexts (Some content) texts (layout_without o layout).files
  held_released None sorted held = held
  held_released (Some ino) sorted held = λ q.
      ⊎_elim
      (λ e. subst (λ x. IfSome (entry_of (remove_entry (is_at (nat_cmp ino)) layout.files) x) (HasText content texts x)) (sym e)
      (IfSome-same _ _ None (none_after_removal layout.files ino sorted) tt))
      (λ h. IfSome-same _ _ _ (others_after_removal layout.files ino q h) (held q))
      (cases_eq q ino)

  pub held_forgotten : (o : Option ℕ) → IsAbsent o layout → Held → HoldsTexts (Some content) (without_text o texts) layout.files
  held_forgotten None absent held = held
  held_forgotten (Some ino) absent held = λ q.
      let later : Texts = remove_entry (is_at (nat_cmp ino)) texts in
      ⊎_elim
      (λ e. subst (λ x. IfSome (entry_of layout.files x) (HasText content later x)) (sym e) (IfSome-same _ _ None (absent ino refl) tt))
      (λ h. subst (λ (t : List ℕ). IfSome (entry_of layout.files q) (λ entry. 0 < entry.blob → content.blobs entry.blob ≡ Some t))
      (sym (text-left texts ino q h)) (held q))
      (cases_eq q ino)

  pub held_placed : (o : Option ℕ) (text : List ℕ) → ((q : ℕ) → IfSome (entry_of layout.files q) (λ entry. entry.blob < layout.blob)) → Held
      → HoldsTexts (Some (stored_at layout.blob o text content)) (with_text o text texts) (layout_with o text layout).files
  held_placed None text below held = held
  held_placed (Some ino) text below held = λ q.
      let later : Texts = insert_entry nat_cmp texts ino text in
      let after : Content = stored_at layout.blob (Some ino) text content in
      let entry : FileEntry = record {
        blob = cond (has_bytes text) layout.blob 0;
        range = record { start = layout.next; len = length (indexed text).terms };
      } in
      let files : List (ℕ × FileEntry) = insert_entry nat_cmp layout.files ino entry in
      ⊎_elim
      (λ e. subst (λ x. IfSome (entry_of files x) (HasText after later x)) (sym e)
      (IfSome-same (HasText after later ino) _ (Some entry) (entry_put layout.files ino entry)
      (λ l. text_stored layout.blob ino text content l ∙ ap Some (sym (text-there texts ino text)))))
      (λ h. IfSome-same (HasText after later q) _ _ (others_after_put layout.files ino entry q h)
      (IfSome-map2 (λ (other : FileEntry). other.blob < layout.blob) (HasText content texts q) (HasText after later q) (entry_of layout.files q) (λ other under there l.
      stored_elsewhere layout.blob (Some ino) text content other.blob (λ same. omega arith) ∙ there l
      ∙ ap Some (sym (text-elsewhere texts ino text q h))) (below q) (held q)))
      (cases_eq q ino)
