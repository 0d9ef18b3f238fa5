-- A map that is made of a list in the order of its keys has the entries of the list.
use Rattle.std.proofs.Common.{◌≡◌, ◌≢◌, List, [], ◌∷◌, refl, sym, ap, ◌∙◌, ⊎_elim, true}
use Rattle.std.specs.Prelude.{Some, None}
use Rattle.std.specs.declared.cmp.Ordering.{Ordering}
use Rattle.std.specs.declared.cmp.Ordering.TheVariants.{Less, Equal, Greater}
use Rattle.std.specs.Ordering.{eq_by_cmp, is_eq, ordering_reverse}
use Rattle.std.specs.Cmp.{IsTotalOrder, eq_by_cmp_equiv}
use Rattle.std.specs.List.Sorted.{IsStrictlySortedBy}
use Rattle.std.specs.Map.{keys_of, lookup}
use Rattle.std.specs.BTreeMap.{BTreeMap, IsFromIterResult, is_at}
use Rattle.std.proofs.lemmas.Bool.{cases_Bool}
use Rattle.std.proofs.lemmas.Cmp.{tied_itself}
use Rattle.std.proofs.lemmas.List.{map-id}
use Rattle.std.proofs.lemmas.Map.{lookup-none}
use Rattle.std.proofs.lemmas.Map.Entries.{lookup_head, lookup_tail, none_below_head, none_past_head}
use Rattle.std.proofs.lemmas.Map.Keys.{IsDistinct-from_sorted, sorted_tail}
use Rattle.std.proofs.lemmas.Map.Lookups.{CmpEqualImpliesEq, map_keys}
use Rattle.std.proofs.lemmas.Map.Made.{update_all_none}

some_is_not_none : {X : Type 0} (v : X) → Some v ≢ None
some_is_not_none v e = cc

some_alike : {X : Type 0} (v w : X) → Some v ≡ Some w → v ≡ w
some_alike v w e = cc

module _ {K V : Type 0} {cmp : K → K → Ordering} (o : IsTotalOrder cmp) where
  here : (x : K × V) (xs : List (K × V)) → lookup (is_at (cmp x.0)) (x ∷ xs) ≡ Some x.1
  here x xs = lookup_head (is_at (cmp x.0)) x xs (ap is_eq (tied_itself o x.0))

  -- a key before the first
  nothing_before : (q : K) (x : K × V) (xs : List (K × V)) → IsStrictlySortedBy cmp (keys_of (x ∷ xs)) → cmp q x.0 ≡ Less
      → lookup (is_at (cmp q)) (x ∷ xs) ≡ None
  nothing_before q x xs s h = lookup-none (is_at (cmp q)) (x ∷ xs) (none_below_head o q x xs s h)

  -- the first key, past the first
  nothing_past : (q : K) (x : K × V) (xs : List (K × V)) → IsStrictlySortedBy cmp (keys_of (x ∷ xs)) → eq_by_cmp cmp q x.0 ≡ true
      → lookup (is_at (cmp q)) xs ≡ None
  nothing_past q x xs s h = lookup-none (is_at (cmp q)) xs (none_past_head (eq_by_cmp_equiv o) q x xs (IsDistinct-from_sorted cmp _ s) h)

  module _ {B : Type 0} (f : K → B) (same : (x y : K) → cmp x y ≡ Equal → f x ≡ f y) where
    -- entries in order, by what look-ups find
    same_read : (es fs : List (K × V)) → IsStrictlySortedBy cmp (keys_of es) → IsStrictlySortedBy cmp (keys_of fs)
        → ((q : K) → lookup (is_at (cmp q)) es ≡ lookup (is_at (cmp q)) fs)
        → map_keys f es ≡ map_keys f fs
    same_read [] [] s t h = refl
    same_read [] (y ∷ ys) s t h = absurd (some_is_not_none y.1 (sym (here y ys) ∙ sym (h y.0)))
    same_read (x ∷ xs) [] s t h = absurd (some_is_not_none x.1 (sym (here x xs) ∙ h x.0))
    same_read (x ∷ xs) (y ∷ ys) s t h =
        elim (cmp x.0 y.0) as (λ r. cmp x.0 y.0 ≡ r → map_keys f (x ∷ xs) ≡ map_keys f (y ∷ ys)) [
          | Less ↦ λ p. absurd (some_is_not_none x.1 (sym (here x xs) ∙ h x.0 ∙ nothing_before x.0 y ys t p))
          | Greater ↦ λ p. absurd
              (some_is_not_none y.1
              (sym (here y ys) ∙ sym (h y.0) ∙ nothing_before y.0 x xs s (o.antisymm y.0 x.0 ∙ ap ordering_reverse p)))
          | Equal ↦ λ p.
              let value : x.1 ≡ y.1 = some_alike x.1 y.1 (sym (here x xs) ∙ h x.0 ∙ lookup_head (is_at (cmp x.0)) y ys (ap is_eq p)) in
              let laws = eq_by_cmp_equiv o in
              let tied = λ (q : K). laws.symm q y.0 ∙ sym (laws.congr x.0 y.0 q (ap is_eq p)) ∙ laws.symm x.0 q in
              let rest = same_read xs ys (sorted_tail cmp x.0 (keys_of xs) s) (sorted_tail cmp y.0 (keys_of ys) t)
              (λ q. ⊎_elim
              (λ b. nothing_past q x xs s b ∙ sym (nothing_past q y ys t (tied q ∙ b)))
              (λ b. sym (lookup_tail (is_at (cmp q)) x xs b) ∙ h q ∙ lookup_tail (is_at (cmp q)) y ys (tied q ∙ b))
              (cases_Bool (eq_by_cmp cmp q x.0))) in
              ap (λ (v : V). (f x.0, v) ∷ map_keys f xs) value ∙ ap (λ (k : B). (k, y.1) ∷ map_keys f xs) (same x.0 y.0 p)
              ∙ ap (λ (l : List (B × V)). (f y.0, y.1) ∷ l) rest
        ] refl

    -- what the map holds, where f reads the keys
    pub made_read : (es : List (K × V)) (m : BTreeMap K V) → IsStrictlySortedBy cmp (keys_of es) → IsFromIterResult cmp es m
        → map_keys f m.entries ≡ map_keys f es
    made_read es m s made =
        same_read m.entries es made.1 s
        (λ q. made.0 q
        ∙ update_all_none (eq_by_cmp_equiv o) (eq_by_cmp cmp) (λ x y. refl) es q (IsDistinct-from_sorted cmp (keys_of es) s))

  pub made_entries : CmpEqualImpliesEq cmp → (es : List (K × V)) (m : BTreeMap K V) → IsStrictlySortedBy cmp (keys_of es)
      → IsFromIterResult cmp es m → m.entries ≡ es
  made_entries exact es m s made = sym (map-id m.entries) ∙ made_read (λ k. k) exact es m s made ∙ map-id es
