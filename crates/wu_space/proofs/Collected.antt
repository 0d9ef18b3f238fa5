-- A map by number that was collected from a list of pairs.
use Rattle.std.proofs.Common.{◌≡◌, ℕ, ◌≤◌, List, length, refl, ap, sym, ◌∙◌, arith}
use Rattle.std.specs.Prelude.{None, is_some}
use Rattle.std.specs.Ordering.{eq_by_cmp, nat_cmp}
use Rattle.std.specs.Cmp.{nat_cmp_total, eq_by_cmp_equiv}
use Rattle.std.specs.List.{IsDistinct}
use Rattle.std.specs.Map.{keys_of, lookup}
use Rattle.std.specs.BTreeMap.{BTreeMap, IsFromIterResult, btree_map_len, is_at}
use Rattle.std.specs.Set.{distinct_count}
use Rattle.std.proofs.lemmas.Map.Entries.{length-keys_of}
use Rattle.std.proofs.lemmas.Map.Keys.{IsDistinct-from_sorted}
use Rattle.std.proofs.lemmas.Map.Made.{IsDistinct-from_count, distinct_count-from_IsDistinct, distinct_count-le, is_some-lookup}
use Rattle.std.proofs.lemmas.Map.Made.{is_some-update_all, length-from_keys, update_all_none}

module _ {X : Type 0} (pairs : List (ℕ × X)) (made : BTreeMap ℕ X) (collected : IsFromIterResult nat_cmp pairs made) where
  -- no number has two pairs
  abbrev AreDistinct : Type 0
  AreDistinct = IsDistinct (eq_by_cmp nat_cmp) (keys_of pairs)

  entries_distinct : IsDistinct (eq_by_cmp nat_cmp) (keys_of made.entries)
  entries_distinct = IsDistinct-from_sorted nat_cmp (keys_of made.entries) collected.1

  len-numbers : btree_map_len made ≡ distinct_count (eq_by_cmp nat_cmp) (keys_of pairs)
  len-numbers =
      sym (length-keys_of made.entries)
      ∙ length-from_keys (eq_by_cmp_equiv nat_cmp_total) (keys_of made.entries) (keys_of pairs) entries_distinct
      (λ q. sym (is_some-lookup (is_at (nat_cmp q)) made.entries)
      ∙ (ap is_some (collected.0 q) ∙ is_some-update_all (eq_by_cmp_equiv nat_cmp_total) q (λ _. None) pairs))

  pub distinct_from_len : length pairs ≤ btree_map_len made → AreDistinct
  distinct_from_len h =
      IsDistinct-from_count (eq_by_cmp_equiv nat_cmp_total) (keys_of pairs)
      (omega (arith, h, len-numbers, length-keys_of pairs, distinct_count-le (eq_by_cmp nat_cmp) (keys_of pairs)))

  module _ (distinct : AreDistinct) where
    pub len-distinct : btree_map_len made ≡ length pairs
    len-distinct =
        len-numbers ∙ (distinct_count-from_IsDistinct (eq_by_cmp_equiv nat_cmp_total) (keys_of pairs) distinct ∙ length-keys_of pairs)

    pub found-distinct : (q : ℕ) → lookup (is_at (nat_cmp q)) made.entries ≡ lookup (is_at (nat_cmp q)) pairs
    found-distinct q =
        collected.0 q ∙ update_all_none (eq_by_cmp_equiv nat_cmp_total) (eq_by_cmp nat_cmp) (λ x y. refl) pairs q distinct
