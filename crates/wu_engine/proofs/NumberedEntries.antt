-- Which numbers a finite map by number has, after one is put in or taken out.
use Rattle.std.proofs.Common.{◌≡◌, ℕ, List, Bool, true, false, cond, refl, ap, sym, ◌∙◌, subst}
use Rattle.std.specs.Prelude.{Option, Some, None, is_some}
use Rattle.std.specs.Ordering.{is_eq, nat_cmp}
use Rattle.std.specs.Cmp.{nat_cmp_total}
use Rattle.std.specs.List.Sorted.{IsStrictlySortedBy}
use Rattle.std.specs.Map.{keys_of, lookup, remove_entry}
use Rattle.std.specs.BTreeMap.{is_at, insert_entry}
use Rattle.std.proofs.lemmas.Map.{lookup-none}
use Rattle.wu_base.proofs.MapEntries.{lookup-insert_entry, lookup-remove_other, none_left}
use Rattle.wu_tree.proofs.ParentPaths.{same_number}
use Rattle.wu_tree.proofs.LinkRemovals.{apart_from}
use Rattle.wu_tree.proofs.TreeInvariant.{not_passed}

-- there is such a number, and it is that one
abbrev pub is_that : Option ℕ → ℕ → Bool
is_that None q = false
is_that (Some ino) q = is_eq (nat_cmp q ino)

module _ {X : Type 0} where
  some_cond : (b : Bool) (x : X) (o : Option X) → is_some (cond b (Some x) o) ≡ cond b true (is_some o)
  some_cond true x o = refl
  some_cond false x o = refl

  abbrev pub has : List (ℕ × X) → ℕ → Bool
  has entries q = is_some (lookup (is_at (nat_cmp q)) entries)

  pub has-put : (entries : List (ℕ × X)) (ino : ℕ) (x : X) (q : ℕ)
      → has (insert_entry nat_cmp entries ino x) q ≡ cond (is_eq (nat_cmp q ino)) true (has entries q)
  has-put entries ino x q = ap is_some (lookup-insert_entry nat_cmp_total entries ino x q)
      ∙ some_cond (is_eq (nat_cmp q ino)) x (lookup (is_at (nat_cmp q)) entries)

  module _ (entries : List (ℕ × X)) (ino : ℕ) (sorted : IsStrictlySortedBy nat_cmp (keys_of entries)) where
    pub none-removed : lookup (is_at (nat_cmp ino)) (remove_entry (is_at (nat_cmp ino)) entries) ≡ None
    none-removed = lookup-none (is_at (nat_cmp ino)) (remove_entry (is_at (nat_cmp ino)) entries) (none_left ino entries sorted)

    pub has-removed : (q : ℕ) → has (remove_entry (is_at (nat_cmp ino)) entries) q ≡ cond (is_eq (nat_cmp q ino)) false (has entries q)
    has-removed q =
        elim (is_eq (nat_cmp q ino)) as (λ b. is_eq (nat_cmp q ino) ≡ b
        → has (remove_entry (is_at (nat_cmp ino)) entries) q ≡ cond b false (has entries q)) [
          | true ↦ λ e.
              subst (λ x. has (remove_entry (is_at (nat_cmp ino)) entries) x ≡ false) (sym (same_number q ino e)) (ap is_some none-removed)
          | false ↦ λ e.
              ap is_some (lookup-remove_other (is_at (nat_cmp q)) (is_at (nat_cmp ino))
              (λ k p. apart_from ino q k (λ same. not_passed q ino e (sym same)) p) entries)
        ] refl
