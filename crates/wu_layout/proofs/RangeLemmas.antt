-- The live ranges, after a file's range is released and after a file gets a text.
use Rattle.std.proofs.Common.{◌≡◌, ◌≢◌, ℕ, ◌+◌, ◌≤◌, Bool, true, false, List, Option, Some, None, IfSome, is_some, ap, sym, ◌∙◌, subst, inl}
use Rattle.std.proofs.Common.{inr, ⊎_elim, arith}
use Rattle.std.specs.Ordering.{nat_cmp}
use Rattle.std.specs.Cmp.{nat_cmp_total}
use Rattle.std.specs.Map.{remove_entry}
use Rattle.std.specs.BTreeMap.{is_at, insert_entry}
use Rattle.std.proofs.lemmas.Bool.{cases_eq}
use Rattle.wu_base.proofs.MapEntries.{ascend-insert_entry, ascend-remove_entry}
use Rattle.wu_layout.specs.Layouts.{FileEntry, entry_of}
use Rattle.wu_layout.specs.Changes.{DiffersAt}
use Rattle.wu_layout.specs.Invariants.{RangesAreDisjoint}
use Rattle.wu_base.specs.Ranges.{AreDisjoint}
use Rattle.wu_layout.proofs.EntryLemmas.{IfSome-map, IfSome-all, IfSome-same, entry_put, others_after_put, none_after_removal}
use Rattle.wu_layout.proofs.EntryLemmas.{others_after_removal}

-- two properties of the entries of p and q
abbrev Both : (FileEntry → FileEntry → Type 0) → Option FileEntry → Option FileEntry → Type 0
Both R o p = IfSome o (λ entry. IfSome p (λ other. R entry other))

abbrev RangesApart : FileEntry → FileEntry → Type 0
RangesApart entry other = AreDisjoint entry.range other.range

none_left_apart : (o : Option FileEntry) → Both RangesApart o None
none_left_apart o = IfSome-all (λ entry. IfSome {T = FileEntry} None (λ other. RangesApart entry other)) o (λ entry. tt)

module _ (is_file is_file_after : ℕ → Bool) (next : ℕ) (files : List (ℕ × FileEntry)) (ino : ℕ)
    (d : RangesAreDisjoint is_file next files) where
  pub ranges_after_release : DiffersAt ino is_file is_file_after false
      → RangesAreDisjoint is_file_after next (remove_entry (is_at (nat_cmp ino)) files)
  ranges_after_release f =
      let left : List (ℕ × FileEntry) = remove_entry (is_at (nat_cmp ino)) files in
      let gone : entry_of left ino ≡ None = none_after_removal files ino d.by_number in
      let rest : (n : ℕ) → n ≢ ino → entry_of left n ≡ entry_of files n = others_after_removal files ino in
      record {
        by_number = ascend-remove_entry nat_cmp (is_at (nat_cmp ino)) files d.by_number;
        of_files = λ n.
            ⊎_elim
            (λ e. subst (λ x. is_some (entry_of left x) ≡ is_file_after x) (sym e) (ap is_some gone ∙ sym f.there))
            (λ h. ap is_some (rest n h) ∙ d.of_files n ∙ sym (f.elsewhere n h))
            (cases_eq n ino);
        within = λ n.
            ⊎_elim
            (λ e. subst (λ x. IfSome (entry_of left x) (λ entry. entry.range.start + entry.range.len ≤ next)) (sym e)
            (IfSome-same _ _ None gone tt))
            (λ h. IfSome-same _ _ _ (rest n h) (d.within n))
            (cases_eq n ino);
        apart = λ p q h.
            ⊎_elim
            (λ e. subst (λ x. Both RangesApart (entry_of left x) (entry_of left q)) (sym e) (IfSome-same _ _ None gone tt))
            (λ g.
            ⊎_elim
            (λ e. subst (λ x. Both RangesApart (entry_of left p) (entry_of left x)) (sym e)
            (subst (λ o. Both RangesApart (entry_of left p) o) (sym gone) (none_left_apart (entry_of left p))))
            (λ k. subst (λ o. Both RangesApart o (entry_of left q)) (sym (rest p g))
            (subst (λ o. Both RangesApart (entry_of files p) o) (sym (rest q k)) (d.apart p q h)))
            (cases_eq q ino))
            (cases_eq p ino);
      }

  pub ranges_after_place : (entry : FileEntry) → entry.range.start ≡ next → DiffersAt ino is_file is_file_after true
      → RangesAreDisjoint is_file_after (next + entry.range.len) (insert_entry nat_cmp files ino entry)
  ranges_after_place entry s f =
      let now : List (ℕ × FileEntry) = insert_entry nat_cmp files ino entry in
      let new : entry_of now ino ≡ Some entry = entry_put files ino entry in
      let rest : (n : ℕ) → n ≢ ino → entry_of now n ≡ entry_of files n = others_after_put files ino entry in
      record {
        by_number = ascend-insert_entry nat_cmp_total files ino entry d.by_number;
        of_files = λ n.
            ⊎_elim
            (λ e. subst (λ x. is_some (entry_of now x) ≡ is_file_after x) (sym e) (ap is_some new ∙ sym f.there))
            (λ h. ap is_some (rest n h) ∙ d.of_files n ∙ sym (f.elsewhere n h))
            (cases_eq n ino);
        within = λ n.
            ⊎_elim
            (λ e. subst (λ x. IfSome (entry_of now x) (λ other. other.range.start + other.range.len ≤ next + entry.range.len)) (sym e)
            (IfSome-same _ _ (Some entry) new (omega arith)))
            (λ h. IfSome-same _ _ _ (rest n h) (IfSome-map _ _ (entry_of files n) (λ other b. omega arith) (d.within n)))
            (cases_eq n ino);
        apart = λ p q h.
            ⊎_elim
            (λ e. subst (λ x. Both RangesApart (entry_of now x) (entry_of now q)) (sym e)
            (IfSome-same _ _ (Some entry) new
            (IfSome-same _ _ _ (rest q (λ same. h (e ∙ sym same)))
            (IfSome-map _ _ (entry_of files q) (λ other b. inr (omega arith)) (d.within q)))))
            (λ g.
            ⊎_elim
            (λ e. subst (λ x. Both RangesApart (entry_of now p) (entry_of now x)) (sym e)
            (subst (λ o. Both RangesApart (entry_of now p) o) (sym new)
            (IfSome-same _ _ _ (rest p g) (IfSome-map _ _ (entry_of files p) (λ other b. inl (omega arith)) (d.within p)))))
            (λ k. subst (λ o. Both RangesApart o (entry_of now q)) (sym (rest p g))
            (subst (λ o. Both RangesApart (entry_of files p) o) (sym (rest q k)) (d.apart p q h)))
            (cases_eq q ino))
            (cases_eq p ino);
      }
