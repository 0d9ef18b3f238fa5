-- The postings of the files' texts, after a file's range is released and after a file gets a text.
use Rattle.std.proofs.Common.{◌≡◌, ◌≢◌, ℕ, ◌+◌, ◌<◌, ◌≤◌, ◌==◌, Bool, true, false, not, List, ◌++◌, length, Some, None, IfSome}
use Rattle.std.proofs.Common.{if◌then◌else◌, refl, ap, sym, ◌∙◌, subst, arith, ⊎_elim, append-nil}
use Rattle.std.specs.Ordering.{nat_cmp}
use Rattle.std.specs.Map.{remove_entry}
use Rattle.std.specs.BTreeMap.{is_at, insert_entry}
use Rattle.std.proofs.lemmas.Bool.{cases_eq, ne_eqb}
use Rattle.wu_base.specs.declared.addresses.Range.{Range}
use Rattle.wu_layout.specs.Postings.{Posting, placed_from, cut, Ascend}
use Rattle.wu_layout.specs.Layouts.{Text, FileEntry, Part, entry_of, homes_of, postings_of}
use Rattle.wu_layout.specs.Invariants.{HasText, IsIndexed, TextsAreIndexed, RangesAreDisjoint, AddressesAscend}
use Rattle.wu_layout.proofs.PostingLemmas.{Ascend-placed, cut_below, cut_above, cut_within, cut-append}
use Rattle.wu_layout.proofs.EntryLemmas.{IfSome-map2, IfSome-same, entry_put, others_after_put, none_after_removal, others_after_removal}
use Rattle.wu_layout.proofs.HomeLemmas.{postings-append, home_in_new_memory, home_in_memory, memory_bounded}

-- the entry that a file gets with a text
abbrev pub entry_for : Text → ℕ → ℕ → FileEntry
entry_for text next blob = record {
  blob = if text.has_bytes then blob else 0;
  range = record { start = next; len = length text.terms };
}

blob_kept : (text : Text) (next blob : ℕ) → 0 < blob → ((entry_for text next blob).blob == 0) ≡ not text.has_bytes
blob_kept text next blob l =
    elim (text.has_bytes) as (λ b. ((if b then blob else 0) == 0) ≡ not b) [ true ↦ ne_eqb blob 0 (λ e. omega arith) | false ↦ refl ]

module _ (next : ℕ) (terms : List (List ℕ)) where
  abbrev placed : List Posting
  placed = placed_from next terms

  -- a range below what was placed
  cut_before_placed : (range : Range) (ps : List Posting) → range.start + range.len ≤ next → cut range (ps ++ placed) ≡ cut range ps
  cut_before_placed range ps l =
      cut-append range ps placed
      ∙ ap (λ (qs : List Posting). cut range ps ++ qs) (cut_above range next (next + length terms) placed (Ascend-placed next terms) l)
      ∙ append-nil (cut range ps)

  -- the range of what was placed
  cut_placed : (range : Range) (low high : ℕ) (ps : List Posting) → Ascend low high ps → high ≤ next → range.start ≡ next
      → range.len ≡ length terms → cut range (ps ++ placed) ≡ placed
  cut_placed range low high ps a l s e =
      cut-append range ps placed
      ∙ ap (λ (qs : List Posting). qs ++ cut range placed) (cut_below range low high ps a (omega arith))
      ∙ cut_within range next (next + length terms) placed (Ascend-placed next terms) (omega arith) (omega arith)

module _ (text_of text_of_after : ℕ → Text) (files : List (ℕ × FileEntry)) (parts : List Part) (memory : List Posting) (ino : ℕ)
    (elsewhere : (n : ℕ) → n ≢ ino → text_of_after n ≡ text_of n) (d : TextsAreIndexed text_of files parts memory) where
  abbrev Indexed : Text → List Posting → FileEntry → Type 0
  Indexed text ps entry = IsIndexed text entry (homes_of parts ps) (postings_of parts ps)

  pub texts_after_release : (is_file : ℕ → Bool) (next : ℕ) → RangesAreDisjoint is_file next files
      → TextsAreIndexed text_of_after (remove_entry (is_at (nat_cmp ino)) files) parts memory
  texts_after_release is_file next ranges =
      let left : List (ℕ × FileEntry) = remove_entry (is_at (nat_cmp ino)) files in
      record {
        each = λ n.
            ⊎_elim
            (λ e. subst (λ x. IfSome (entry_of left x) (Indexed (text_of_after x) memory)) (sym e)
            (IfSome-same _ _ None (none_after_removal files ino ranges.by_number) tt))
            (λ h. IfSome-same _ _ _ (others_after_removal files ino n h)
            (subst (λ text. IfSome (entry_of files n) (Indexed text memory)) (sym (elsewhere n h)) (d.each n)))
            (cases_eq n ino);
      }

  pub texts_after_place : (is_file : ℕ → Bool) (next blob : ℕ) (text : Text) → RangesAreDisjoint is_file next files
      → AddressesAscend next parts memory → 0 < blob → text_of_after ino ≡ text
      → TextsAreIndexed text_of_after (insert_entry nat_cmp files ino (entry_for text next blob)) parts
      (memory ++ placed_from next text.terms)
  texts_after_place is_file next blob text ranges addresses l s =
      let entry : FileEntry = entry_for text next blob in
      let now : List (ℕ × FileEntry) = insert_entry nat_cmp files ino entry in
      let more : List Posting = memory ++ placed_from next text.terms in
      let same : postings_of parts more ≡ postings_of parts memory ++ placed_from next text.terms =
      postings-append parts memory (placed_from next text.terms) in
      let low = memory_bounded next parts memory addresses in
      let new : Indexed text more entry = record {
        kept = blob_kept text next blob l;
        long = refl;
        whole = ap (cut entry.range) same
            ∙ cut_placed next text.terms entry.range 0 next (postings_of parts memory) addresses.ascend (omega arith) refl refl;
        home = home_in_memory (HasText text entry.range) parts more
            (cut_placed next text.terms entry.range low.0 low.1 memory low.3 low.2 refl refl);
      } in
      let old : (t : Text) (other : FileEntry) → other.range.start + other.range.len ≤ next → Indexed t memory other
      → Indexed t more other =
      λ t other b i. record {
        kept = i.kept;
        long = i.long;
        whole = ap (cut other.range) same ∙ cut_before_placed next text.terms other.range (postings_of parts memory) b ∙ i.whole;
        home = home_in_new_memory (HasText t other.range) parts memory more
            (λ w. cut_before_placed next text.terms other.range memory b ∙ w) i.home;
      } in
      record {
        each = λ n.
            ⊎_elim
            (λ e. subst (λ x. IfSome (entry_of now x) (Indexed (text_of_after x) more)) (sym e)
            (IfSome-same _ _ (Some entry) (entry_put files ino entry) (subst (λ t. Indexed t more entry) (sym s) new)))
            (λ h. IfSome-same _ _ _ (others_after_put files ino entry n h)
            (subst (λ t. IfSome (entry_of files n) (Indexed t more)) (sym (elsewhere n h))
            (IfSome-map2 _ _ _ (entry_of files n) (λ other b i. old (text_of n) other b i) (ranges.within n) (d.each n))))
            (cases_eq n ino);
      }
