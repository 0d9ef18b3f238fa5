-- What is kept of each file, after the entry of one is put in or taken out.
use Rattle.std.proofs.Common.{◌≡◌, ◌≢◌, ℕ, false, List, Option, Some, None, IfSome, refl, sym, ◌∙◌, subst}
use Rattle.std.specs.Ordering.{nat_cmp, is_eq}
use Rattle.std.specs.Cmp.{nat_cmp_total}
use Rattle.std.specs.List.Sorted.{IsStrictlySortedBy}
use Rattle.std.specs.Map.{keys_of, remove_entry}
use Rattle.std.specs.BTreeMap.{is_at, insert_entry}
use Rattle.std.proofs.lemmas.Bool.{false_from_ne_true}
use Rattle.std.proofs.lemmas.Map.{lookup-none}
use Rattle.std.proofs.lemmas.Map.Lookups.{exact_unsigned}
use Rattle.wu_base.proofs.MapEntries.{is_equal, number_itself, none_left, lookup-insert_entry, lookup-remove_other}
use Rattle.wu_layout.specs.Layouts.{FileEntry, entry_of}

module _ {X : Type 0} where
  -- of what may be there: from one property to another, and two at once
  pub IfSome-map : (P Q : X → Type 0) (o : Option X) → ((x : X) → P x → Q x) → IfSome o P → IfSome o Q
  IfSome-map P Q None f h = tt
  IfSome-map P Q (Some x) f h = f x h

  pub IfSome-map2 : (N P Q : X → Type 0) (o : Option X) → ((x : X) → N x → P x → Q x) → IfSome o N → IfSome o P → IfSome o Q
  IfSome-map2 N P Q None f g h = tt
  IfSome-map2 N P Q (Some x) f g h = f x g h

  pub IfSome-all : (P : X → Type 0) (o : Option X) → ((x : X) → P x) → IfSome o P
  IfSome-all P None f = tt
  IfSome-all P (Some x) f = f x

  pub IfSome-same : (P : X → Type 0) (o p : Option X) → o ≡ p → IfSome p P → IfSome o P
  IfSome-same P o p e h = subst (λ x. IfSome x P) (sym e) h

  pub IfSome-found : (P : X → Type 0) (o : Option X) (x : X) → o ≡ Some x → IfSome o P → P x
  IfSome-found P o x e h = subst (λ y. IfSome y P) e h

pub other_number : (n ino : ℕ) → n ≢ ino → is_eq (nat_cmp n ino) ≡ false
other_number n ino h = false_from_ne_true (is_eq (nat_cmp n ino)) (λ e. h (exact_unsigned n ino (is_equal _ e)))

module _ (files : List (ℕ × FileEntry)) (ino : ℕ) where
  -- an entry put in
  pub entry_put : (entry : FileEntry) → entry_of (insert_entry nat_cmp files ino entry) ino ≡ Some entry
  entry_put entry = lookup-insert_entry nat_cmp_total files ino entry ino ∙ rw (number_itself ino) refl

  pub others_after_put : (entry : FileEntry) (n : ℕ) → n ≢ ino → entry_of (insert_entry nat_cmp files ino entry) n ≡ entry_of files n
  others_after_put entry n h = lookup-insert_entry nat_cmp_total files ino entry n ∙ rw (other_number n ino h) refl

  -- an entry taken out
  pub none_after_removal : IsStrictlySortedBy nat_cmp (keys_of files) → entry_of (remove_entry (is_at (nat_cmp ino)) files) ino ≡ None
  none_after_removal s = lookup-none (is_at (nat_cmp ino)) _ (none_left ino files s)

  pub others_after_removal : (n : ℕ) → n ≢ ino → entry_of (remove_entry (is_at (nat_cmp ino)) files) n ≡ entry_of files n
  others_after_removal n h =
      lookup-remove_other (is_at (nat_cmp n)) (is_at (nat_cmp ino))
      (λ k e.
      let same : ino ≡ k = exact_unsigned ino k (is_equal _ e) in
      subst (λ x. is_eq (nat_cmp n x) ≡ false) same (other_number n ino h))
      files
