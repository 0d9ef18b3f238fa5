-- What a change of a finite map, as the list of its entries, leaves true of each entry.
use Rattle.std.proofs.Common.{◌≡◌, ℕ, ◌+◌, List, [], ◌∷◌, refl, ap, sym, ◌∙◌, subst, Bool, true, false, cond, arith}
use Rattle.std.specs.Prelude.{Option, Some, count_by, map}
use Rattle.std.specs.declared.cmp.Ordering.{Ordering}
use Rattle.std.specs.declared.cmp.Ordering.TheVariants.{Less, Equal, Greater}
use Rattle.std.specs.Ordering.{is_eq, match_ordering, ordering_reverse, nat_cmp}
use Rattle.std.specs.Cmp.{IsTotalOrder, nat_cmp_total, eq_by_cmp_equiv}
use Rattle.std.specs.List.{AllByRecursion}
use Rattle.std.specs.List.Sorted.{IsStrictlySortedBy}
use Rattle.std.specs.Map.{keys_of, lookup, remove_entry, set_value}
use Rattle.std.specs.BTreeMap.{is_at, insert_entry}
use Rattle.std.proofs.lemmas.Cmp.{alike_right, tied_back}
use Rattle.std.proofs.lemmas.Map.{NonePasses}
use Rattle.std.proofs.lemmas.Map.Entries.{none_past_head, none_below_head}
use Rattle.std.proofs.lemmas.Map.Keys.{sorted_head, sorted_tail, IsDistinct-from_sorted}
use Rattle.std.proofs.lemmas.Map.Lookups.{exact_unsigned}
use Rattle.std.proofs.lemmas.List.Sums.{sum_by-cons}

Equal_is_not_Greater : Equal ≡ Greater → ⊥
Equal_is_not_Greater h = cc

swap_conds : {T : Type 0} (a b : Bool) (u v w : T) → (a ≡ true → b ≡ true → ⊥) → cond b u (cond a v w) ≡ cond a v (cond b u w)
swap_conds true true u v w h = absurd (h refl refl)
swap_conds true false u v w h = refl
swap_conds false true u v w h = refl
swap_conds false false u v w h = refl

same_conds : {T : Type 0} (b : Bool) (u v w : T) → cond b u w ≡ cond b u (cond b v w)
same_conds true u v w = refl
same_conds false u v w = refl

pub is_equal : (r : Ordering) → is_eq r ≡ true → r ≡ Equal
is_equal Less h = absurd cc
is_equal Equal h = refl
is_equal Greater h = absurd cc

-- ---- entries whose values are read through f
module _ {K X Y : Type 0} (f : X → Y) where
  abbrev pub read : List (K × X) → List (K × Y)
  read es = map (λ e. (e.0, f e.1)) es

  pub insert_entry-read : (R : K → K → Ordering) (es : List (K × X)) (k : K) (v : X)
      → insert_entry R (read es) k (f v) ≡ read (insert_entry R es k v)
  insert_entry-read R [] k v = refl
  insert_entry-read R (e ∷ es) k v =
      elim (R k e.0) as
      (λ o. match_ordering o ((k, f v) ∷ read (e ∷ es)) ((e.0, f v) ∷ read es) ((e.0, f e.1) ∷ insert_entry R (read es) k (f v))
      ≡ read (match_ordering o ((k, v) ∷ e ∷ es) ((e.0, v) ∷ es) (e ∷ insert_entry R es k v))) [
        | Less ↦ refl
        | Equal ↦ refl
        | Greater ↦ ap (λ (l : List (K × Y)). (e.0, f e.1) ∷ l) (insert_entry-read R es k v)
      ]

  pub remove_entry-read : (t : K → Bool) (es : List (K × X)) → remove_entry t (read es) ≡ read (remove_entry t es)
  remove_entry-read t [] = refl
  remove_entry-read t (e ∷ es) =
      elim (t e.0) as (λ b. cond b (read es) ((e.0, f e.1) ∷ remove_entry t (read es)) ≡ read (cond b es (e ∷ remove_entry t es))) [
        | true ↦ refl
        | false ↦ ap (λ (l : List (K × Y)). (e.0, f e.1) ∷ l) (remove_entry-read t es)
      ]

  pub set_value-read : (t : K → Bool) (es : List (K × X)) (v : X) → set_value t (read es) (f v) ≡ read (set_value t es v)
  set_value-read t [] v = refl
  set_value-read t (e ∷ es) v =
      elim (t e.0) as
      (λ b. cond b ((e.0, f v) ∷ read es) ((e.0, f e.1) ∷ set_value t (read es) (f v))
      ≡ read (cond b ((e.0, v) ∷ es) (e ∷ set_value t es v))) [
        | true ↦ refl
        | false ↦ ap (λ (l : List (K × Y)). (e.0, f e.1) ∷ l) (set_value-read t es v)
      ]

-- ---- each entry
module _ {K X : Type 0} (P : K × X → Type 0) where
  -- what a look-up finds
  pub All-found : (t : K → Bool) (es : List (K × X)) (v : X) → AllByRecursion P es → lookup t es ≡ Some v
      → (k : K) × (t k ≡ true) × P (k, v)
  All-found t [] v a h = absurd cc
  All-found t (e ∷ es) v a h =
      elim (t e.0) as (λ b. t e.0 ≡ b → cond b (Some e.1) (lookup t es) ≡ Some v → (k : K) × (t k ≡ true) × P (k, v)) [
        | true ↦ λ p q. let same : e.1 ≡ v = cc in (e.0, p, subst (λ x. P (e.0, x)) same a.0)
        | false ↦ λ p q. All-found t es v a.1 q
      ] refl h

  pub All-insert_entry : (R : K → K → Ordering) (es : List (K × X)) (k : K) (v : X) → AllByRecursion P es
      → ((q : K) → R k q ≡ Equal → P (q, v)) → P (k, v)
      → AllByRecursion P (insert_entry R es k v)
  All-insert_entry R [] k v a h p = (p, tt)
  All-insert_entry R (e ∷ es) k v a h p =
      elim (R k e.0) as
      (λ o. R k e.0 ≡ o → AllByRecursion P (match_ordering o ((k, v) ∷ e ∷ es) ((e.0, v) ∷ es) (e ∷ insert_entry R es k v))) [
        | Less ↦ λ q. (p, a)
        | Equal ↦ λ q. (h e.0 q, a.1)
        | Greater ↦ λ q. (a.0, All-insert_entry R es k v a.1 h p)
      ] refl

  pub All-remove_entry : (t : K → Bool) (es : List (K × X)) → AllByRecursion P es → AllByRecursion P (remove_entry t es)
  All-remove_entry t [] a = a
  All-remove_entry t (e ∷ es) a =
      elim (t e.0) as (λ b. AllByRecursion P (cond b es (e ∷ remove_entry t es))) [ true ↦ a.1 | false ↦ (a.0, All-remove_entry t es a.1) ]

  pub All-set_value : (t : K → Bool) (es : List (K × X)) (v : X) → AllByRecursion P es → ((q : K) → t q ≡ true → P (q, v))
      → AllByRecursion P (set_value t es v)
  All-set_value t [] v a h = a
  All-set_value t (e ∷ es) v a h =
      elim (t e.0) as (λ b. t e.0 ≡ b → AllByRecursion P (cond b ((e.0, v) ∷ es) (e ∷ set_value t es v))) [
        | true ↦ λ q. (h e.0 q, a.1)
        | false ↦ λ q. (a.0, All-set_value t es v a.1 h)
      ] refl

  -- from one property to another
  pub All-map : (Q : K × X → Type 0) (es : List (K × X)) → ((e : K × X) → P e → Q e) → AllByRecursion P es → AllByRecursion Q es
  All-map Q [] h a = tt
  All-map Q (e ∷ es) h a = (h e a.0, All-map Q es h a.1)

  pub All-map2 : (N Q : K × X → Type 0) (es : List (K × X)) → ((e : K × X) → N e → P e → Q e) → AllByRecursion N es → AllByRecursion P es
      → AllByRecursion Q es
  All-map2 N Q [] h n a = tt
  All-map2 N Q (e ∷ es) h n a = (h e n.0 a.0, All-map2 N Q es h n.1 a.1)

module _ {K : Type 0} {R : K → K → Ordering} (o : IsTotalOrder R) where
  pub all_above : (k e : K) (ks : List K) → R k e ≡ Less → AllByRecursion (λ y. R e y ≡ Less) ks → AllByRecursion (λ y. R k y ≡ Less) ks
  all_above k e [] h a = tt
  all_above k e (y ∷ ks) h a = (o.trans k e y h a.0, all_above k e ks h a.1)

-- ---- order, and what a look-up finds after an insertion
module _ {K X : Type 0} {R : K → K → Ordering} (o : IsTotalOrder R) where
  pub lookup-insert_entry : (es : List (K × X)) (k : K) (v : X) (q : K)
      → lookup (is_at (R q)) (insert_entry R es k v) ≡ cond (is_eq (R q k)) (Some v) (lookup (is_at (R q)) es)
  lookup-insert_entry [] k v q = refl
  lookup-insert_entry (e ∷ es) k v q =
      elim (R k e.0) as
      (λ r. R k e.0 ≡ r → lookup (is_at (R q)) (match_ordering r ((k, v) ∷ e ∷ es) ((e.0, v) ∷ es) (e ∷ insert_entry R es k v))
      ≡ cond (is_eq (R q k)) (Some v) (cond (is_eq (R q e.0)) (Some e.1) (lookup (is_at (R q)) es))) [
        | Less ↦ λ p. refl
        | Equal ↦ λ p. rw (alike_right o k e.0 q p) (same_conds (is_eq (R q e.0)) (Some v) (Some e.1) (lookup (is_at (R q)) es))
        | Greater ↦ λ p.
            rw (lookup-insert_entry es k v q)
            (swap_conds (is_eq (R q k)) (is_eq (R q e.0)) (Some e.1) (Some v) (lookup (is_at (R q)) es)
            (λ a b. Equal_is_not_Greater (sym (tied_back o e.0 k (sym (o.congr q e.0 k (is_equal _ b)) ∙ is_equal _ a)) ∙ p)))
      ] refl

  -- what was put in and is taken out again
  pub remove_entry-insert_entry : (es : List (K × X)) (k : K) (v : X) → NonePasses (is_at (R k)) es → is_eq (R k k) ≡ true
      → remove_entry (is_at (R k)) (insert_entry R es k v) ≡ es
  remove_entry-insert_entry [] k v n s = rw s refl
  remove_entry-insert_entry (e ∷ es) k v n s =
      elim (R k e.0) as
      (λ r. R k e.0 ≡ r
      → remove_entry (is_at (R k)) (match_ordering r ((k, v) ∷ e ∷ es) ((e.0, v) ∷ es) (e ∷ insert_entry R es k v)) ≡ e ∷ es) [
        | Less ↦ λ p. rw s refl
        | Equal ↦ λ p. absurd (let f : is_eq (R k e.0) ≡ true = ap is_eq p in let g : is_eq (R k e.0) ≡ false = n.0 in cc)
        | Greater ↦ λ p. rw p (ap (λ (l : List (K × X)). e ∷ l) (remove_entry-insert_entry es k v n.1 s))
      ] refl

  keys-insert_entry : (Q : K → Type 0) (es : List (K × X)) (k : K) (v : X) → AllByRecursion Q (keys_of es) → Q k
      → AllByRecursion Q (keys_of (insert_entry R es k v))
  keys-insert_entry Q [] k v a p = (p, tt)
  keys-insert_entry Q (e ∷ es) k v a p =
      elim (R k e.0) as (λ r. AllByRecursion Q (keys_of (match_ordering r ((k, v) ∷ e ∷ es) ((e.0, v) ∷ es) (e ∷ insert_entry R es k v)))) [
        | Less ↦ (p, a)
        | Equal ↦ a
        | Greater ↦ (a.0, keys-insert_entry Q es k v a.1 p)
      ]

  pub ascend-insert_entry : (es : List (K × X)) (k : K) (v : X) → IsStrictlySortedBy R (keys_of es)
      → IsStrictlySortedBy R (keys_of (insert_entry R es k v))
  unfolding IsStrictlySortedBy
  ascend-insert_entry [] k v s = (tt, tt)
  ascend-insert_entry (e ∷ es) k v s =
      elim (R k e.0) as
      (λ r. R k e.0 ≡ r
      → IsStrictlySortedBy R (keys_of (match_ordering r ((k, v) ∷ e ∷ es) ((e.0, v) ∷ es) (e ∷ insert_entry R es k v)))) [
        | Less ↦ λ p. ((p, all_above o k e.0 (keys_of es) p s.0), s)
        | Equal ↦ λ p. s
        | Greater ↦ λ p.
            (keys-insert_entry (λ y. R e.0 y ≡ Less) es k v s.0 (o.antisymm e.0 k ∙ ap ordering_reverse p), ascend-insert_entry es k v s.1)
      ] refl

module _ {K X : Type 0} (R : K → K → Ordering) where
  keys-remove_entry : (Q : K → Type 0) (t : K → Bool) (es : List (K × X)) → AllByRecursion Q (keys_of es)
      → AllByRecursion Q (keys_of (remove_entry t es))
  keys-remove_entry Q t [] a = a
  keys-remove_entry Q t (e ∷ es) a =
      elim (t e.0) as
      (λ b. AllByRecursion Q (keys_of (cond b es (e ∷ remove_entry t es)))) [ true ↦ a.1 | false ↦ (a.0, keys-remove_entry Q t es a.1) ]

  pub ascend-remove_entry : (t : K → Bool) (es : List (K × X)) → IsStrictlySortedBy R (keys_of es)
      → IsStrictlySortedBy R (keys_of (remove_entry t es))
  unfolding IsStrictlySortedBy
  ascend-remove_entry t [] s = s
  ascend-remove_entry t (e ∷ es) s =
      elim (t e.0) as (λ b. IsStrictlySortedBy R (keys_of (cond b es (e ∷ remove_entry t es)))) [
        | true ↦ s.1
        | false ↦ (keys-remove_entry (λ y. R e.0 y ≡ Less) t es s.0, ascend-remove_entry t es s.1)
      ]

-- ---- how many entries pass a test of their values
module _ {K X : Type 0} (p : X → Bool) where
  abbrev pub counted : List (K × X) → ℕ
  counted es = count_by (λ e. p e.1) es

  pub counted-cons : (e : K × X) (es : List (K × X)) → counted (e ∷ es) ≡ cond (p e.1) 1 0 + counted es
  counted-cons e es = sum_by-cons (λ (x : K × X). cond (p x.1) 1 0) e es

  pub counted-insert_entry : (R : K → K → Ordering) (es : List (K × X)) (k : K) (v : X) → NonePasses (is_at (R k)) es
      → counted (insert_entry R es k v) ≡ cond (p v) 1 0 + counted es
  counted-insert_entry R [] k v n = counted-cons (k, v) []
  counted-insert_entry R (e ∷ es) k v n =
      elim (R k e.0) as
      (λ r. R k e.0 ≡ r
      → counted (match_ordering r ((k, v) ∷ e ∷ es) ((e.0, v) ∷ es) (e ∷ insert_entry R es k v)) ≡ cond (p v) 1 0 + counted (e ∷ es)) [
        | Less ↦ λ q. counted-cons (k, v) (e ∷ es)
        | Equal ↦ λ q. absurd (let f : is_eq (R k e.0) ≡ true = ap is_eq q in let g : is_eq (R k e.0) ≡ false = n.0 in cc)
        | Greater ↦ λ q. omega (arith, counted-cons e (insert_entry R es k v), counted-cons e es, counted-insert_entry R es k v n.1)
      ] refl

  pub counted-remove_entry : (t : K → Bool) (es : List (K × X)) (v : X) → lookup t es ≡ Some v
      → cond (p v) 1 0 + counted (remove_entry t es) ≡ counted es
  counted-remove_entry t [] v h = absurd cc
  counted-remove_entry t (e ∷ es) v h =
      elim (t e.0) as
      (λ b. cond b (Some e.1) (lookup t es) ≡ Some v
      → cond (p v) 1 0 + counted (cond b es (e ∷ remove_entry t es)) ≡ counted (e ∷ es)) [
        | true ↦ λ q. let same : e.1 ≡ v = cc in let u : cond {A = ℕ} (p e.1) 1 0
            ≡ cond (p v) 1 0 = ap (λ (x : X). cond {A = ℕ} (p x) 1 0) same in omega (arith, counted-cons e es)
        | false ↦ λ q. omega (arith, counted-cons e (remove_entry t es), counted-cons e es, counted-remove_entry t es v q)
      ] h

-- ---- a look-up by another key, after a removal
module _ {K X : Type 0} (s t : K → Bool) (apart : (k : K) → t k ≡ true → s k ≡ false) where
  pub lookup-remove_other : (es : List (K × X)) → lookup s (remove_entry t es) ≡ lookup s es
  lookup-remove_other [] = refl
  lookup-remove_other (e ∷ es) =
      elim (t e.0) as (λ b. t e.0 ≡ b → lookup s (cond b es (e ∷ remove_entry t es)) ≡ lookup s (e ∷ es)) [
        | true ↦ λ p. rw (apart e.0 p) refl
        | false ↦ λ p. ap (λ (l : Option X). cond (s e.0) (Some e.1) l) (lookup-remove_other es)
      ] refl

  pub lookup-set_other : (es : List (K × X)) (v : X) → lookup s (set_value t es v) ≡ lookup s es
  lookup-set_other [] v = refl
  lookup-set_other (e ∷ es) v =
      elim (t e.0) as (λ b. t e.0 ≡ b → lookup s (cond b ((e.0, v) ∷ es) (e ∷ set_value t es v)) ≡ lookup s (e ∷ es)) [
        | true ↦ λ p. rw (apart e.0 p) refl
        | false ↦ λ p. ap (λ (l : Option X). cond (s e.0) (Some e.1) l) (lookup-set_other es v)
      ] refl

-- ---- entries by number
pub number_itself : (n : ℕ) → is_eq (nat_cmp n n) ≡ true
number_itself n = (eq_by_cmp_equiv nat_cmp_total).refl n

module _ {X : Type 0} where
  later_found : (e : ℕ × X) (es fs : List (ℕ × X)) → AllByRecursion (λ y. nat_cmp e.0 y ≡ Less) (keys_of fs)
      → AllByRecursion (λ f. lookup (is_at (nat_cmp f.0)) es ≡ Some f.1) fs
      → AllByRecursion (λ f. lookup (is_at (nat_cmp f.0)) (e ∷ es) ≡ Some f.1) fs
  later_found e es [] s a = tt
  later_found e es (f ∷ fs) s a = (
    let p : is_eq (nat_cmp f.0 e.0)
        ≡ false = ap is_eq (nat_cmp_total.antisymm f.0 e.0 ∙ ap ordering_reverse s.0) in rw p a.0,
    later_found e es fs s.1 a.1,
  )

  -- a look-up finds each entry
  pub all_found : (es : List (ℕ × X)) → IsStrictlySortedBy nat_cmp (keys_of es)
      → AllByRecursion (λ e. lookup (is_at (nat_cmp e.0)) es ≡ Some e.1) es
  unfolding IsStrictlySortedBy
  all_found [] s = tt
  all_found (e ∷ es) s = (rw (number_itself e.0) refl, later_found e es es s.0 (all_found es s.1))

  -- nothing is left at a number that was taken out
  pub none_left : (k : ℕ) (es : List (ℕ × X)) → IsStrictlySortedBy nat_cmp (keys_of es)
      → NonePasses (is_at (nat_cmp k)) (remove_entry (is_at (nat_cmp k)) es)
  none_left k [] s = tt
  none_left k (e ∷ es) s =
      elim (is_eq (nat_cmp k e.0)) as
      (λ b. is_eq (nat_cmp k e.0) ≡ b → NonePasses (is_at (nat_cmp k)) (cond b es (e ∷ remove_entry (is_at (nat_cmp k)) es))) [
        | true ↦ λ p. none_past_head (eq_by_cmp_equiv nat_cmp_total) k e es (IsDistinct-from_sorted nat_cmp _ s) p
        | false ↦ λ p. (p, none_left k es (sorted_tail nat_cmp _ _ s))
      ] refl

  -- a value written at a number
  pub All-set_number : (P : ℕ × X → Type 0) (k : ℕ) (es : List (ℕ × X)) (v : X) → IsStrictlySortedBy nat_cmp (keys_of es)
      → AllByRecursion (λ e. is_eq (nat_cmp k e.0) ≡ false → P e) es
      → P (k, v) → AllByRecursion P (set_value (is_at (nat_cmp k)) es v)
  All-set_number P k [] v s a p = tt
  All-set_number P k (e ∷ es) v s a p =
      elim (is_eq (nat_cmp k e.0)) as
      (λ b. is_eq (nat_cmp k e.0) ≡ b → AllByRecursion P (cond b ((e.0, v) ∷ es) (e ∷ set_value (is_at (nat_cmp k)) es v))) [
        | true ↦ λ q. (
          subst (λ x. P (x, v)) (exact_unsigned k e.0 (is_equal _ q)) p,
          All-map2 (λ f. is_eq (nat_cmp k f.0) ≡ false → P f) (λ f. is_eq (nat_cmp k f.0) ≡ false) P es (λ f n g. g n)
              (none_past_head (eq_by_cmp_equiv nat_cmp_total) k e es (IsDistinct-from_sorted nat_cmp _ s) q) a.1,
        )
        | false ↦ λ q. (a.0 q, All-set_number P k es v (sorted_tail nat_cmp _ _ s) a.1 p)
      ] refl

-- ---- one entry put in and another taken out
module _ {K X : Type 0} {R : K → K → Ordering} (o : IsTotalOrder R) (exact : (x y : K) → R x y ≡ Equal → x ≡ y) where
  remove_none : (t : K → Bool) (es : List (K × X)) → NonePasses t es → remove_entry t es ≡ es
  remove_none t [] n = refl
  remove_none t (e ∷ es) n = rw n.0 (ap (λ (l : List (K × X)). e ∷ l) (remove_none t es n.1))

  insert_first : (es : List (K × X)) (k : K) (v : X) → AllByRecursion (λ y. R k y ≡ Less) (keys_of es) → insert_entry R es k v ≡ (k, v) ∷ es
  insert_first [] k v a = refl
  insert_first (e ∷ es) k v a = rw a.0 refl

  above_head : (k : K) (e : K × X) (es : List (K × X)) → IsStrictlySortedBy R (keys_of (e ∷ es)) → R k e.0 ≡ Equal
      → AllByRecursion (λ y. R k y ≡ Less) (keys_of es)
  above_head k e es s h = subst (λ x. AllByRecursion (λ y. R x y ≡ Less) (keys_of es)) (sym (exact k e.0 h)) (sorted_head R _ _ s)

  pub insert-remove_same : (es : List (K × X)) (k : K) (v : X) → IsStrictlySortedBy R (keys_of es)
      → insert_entry R (remove_entry (is_at (R k)) es) k v ≡ insert_entry R es k v
  insert-remove_same [] k v s = refl
  insert-remove_same (e ∷ es) k v s =
      elim (R k e.0) as
      (λ r. R k e.0 ≡ r
      → insert_entry R (cond (is_eq r) es (e ∷ remove_entry (is_at (R k)) es)) k v
      ≡ match_ordering r ((k, v) ∷ e ∷ es) ((e.0, v) ∷ es) (e ∷ insert_entry R es k v)) [
        | Less ↦ λ p. rw p (ap (λ (l : List (K × X)). (k, v) ∷ e ∷ l) (remove_none (is_at (R k)) es (none_below_head o k e es s p).1))
        | Equal ↦ λ p. insert_first es k v (above_head k e es s p) ∙ ap (λ (x : K). (x, v) ∷ es) (exact k e.0 p)
        | Greater ↦ λ p. rw p (ap (λ (l : List (K × X)). e ∷ l) (insert-remove_same es k v (sorted_tail R _ _ s)))
      ] refl

  pub remove-insert_apart : (t : K → Bool) (es : List (K × X)) (k : K) (v : X) → ((x : K) → R k x ≡ Equal → t x ≡ false) → t k ≡ false
      → IsStrictlySortedBy R (keys_of es)
      → remove_entry t (insert_entry R es k v) ≡ insert_entry R (remove_entry t es) k v
  remove-insert_apart t [] k v h g s = rw g refl
  remove-insert_apart t (e ∷ es) k v h g s =
      elim (R k e.0) as
      (λ r. R k e.0 ≡ r
      → remove_entry t (match_ordering r ((k, v) ∷ e ∷ es) ((e.0, v) ∷ es) (e ∷ insert_entry R es k v))
      ≡ insert_entry R (remove_entry t (e ∷ es)) k v) [
        | Less ↦ λ p. rw g
            (sym (insert_first (remove_entry t (e ∷ es)) k v
            (keys-remove_entry R (λ y. R k y ≡ Less) t (e ∷ es) (p, all_above o k e.0 (keys_of es) p (sorted_head R _ _ s)))))
        | Equal ↦ λ p. rw (h e.0 p, p) refl
        | Greater ↦ λ p.
            elim (t e.0) as
            (λ b. cond b (insert_entry R es k v) (e ∷ remove_entry t (insert_entry R es k v))
            ≡ insert_entry R (cond b es (e ∷ remove_entry t es)) k v) [
              | true ↦ refl
              | false ↦ rw p (ap (λ (l : List (K × X)). e ∷ l) (remove-insert_apart t es k v h g (sorted_tail R _ _ s)))
            ]
      ] refl
