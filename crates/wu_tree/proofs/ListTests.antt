-- What tests on lists tell.
use Rattle.std.proofs.Common.{◌≡◌, ℕ, zero, suc, ◌+◌, ◌<◌, List, [], ◌∷◌, ◌++◌, length, get_or, take, refl, ap, sym, ◌∙◌, subst, Bool, true}
use Rattle.std.proofs.Common.{false, cond, ◌&&◌, arith}
use Rattle.std.specs.Prelude.{map, ◌==◌, nat_lt}
use Rattle.std.specs.declared.cmp.Ordering.{Ordering}
use Rattle.std.specs.declared.cmp.Ordering.TheVariants.{Less, Equal, Greater}
use Rattle.std.specs.Ordering.{nat_cmp, ordering_reverse}
use Rattle.std.specs.Cmp.{IsTotalOrder}
use Rattle.std.specs.List.{AllByRecursion, list_all, IsAllAdjacentAnswer}
use Rattle.std.specs.List.Sorted.{IsStrictlySortedBy}
use Rattle.std.specs.Map.{keys_of}
use Rattle.std.specs.BTreeMap.{insert_entry}
use Rattle.wu_tree.specs.Lists.{is_less, ascends}
use Rattle.wu_base.proofs.MapEntries.{all_above}

-- a test's answer tells whether the fact holds
abbrev pub Decides : Bool → Type 0 → Type 0
Decides true fact = fact
Decides false fact = fact → ⊥

pub decides_by : (b : Bool) (P : Type 0) → (b ≡ true → P) → (P → b ≡ true) → Decides b P
decides_by true P f g = f refl
decides_by false P f g = λ p. let h : false ≡ true = g p in cc

pub same_answer : (a b : Bool) (fact : Type 0) → Decides a fact → Decides b fact → a ≡ b
same_answer true true fact x y = refl
same_answer false false fact x y = refl
same_answer true false fact x y = absurd (y x)
same_answer false true fact x y = absurd (x y)

pub decided_yes : (a : Bool) (fact : Type 0) → Decides a fact → a ≡ true → fact
decided_yes true fact x h = x
decided_yes false fact x h = absurd cc

pub decided_no : (a : Bool) (fact : Type 0) → Decides a fact → a ≡ false → fact → ⊥
decided_no true fact x h = absurd cc
decided_no false fact x h = x

pub decides_both : (a b : Bool) (P Q : Type 0) → Decides a P → Decides b Q → Decides (a && b) (P × Q)
decides_both true true P Q x y = (x, y)
decides_both true false P Q x y = λ h. y h.1
decides_both false b P Q x y = λ h. x h.0

pub decides_less : (r : Ordering) → Decides (is_less r) (r ≡ Less)
decides_less Less = refl
decides_less Equal = λ h. cc
decides_less Greater = λ h. cc

module _ {X : Type 0} where
  pub decides_all : (p : X → Bool) (P : X → Type 0) (xs : List X) → ((x : X) → Decides (p x) (P x))
      → Decides (list_all p xs) (AllByRecursion P xs)
  decides_all p P [] h = tt
  decides_all p P (x ∷ xs) h = decides_both (p x) (list_all p xs) (P x) (AllByRecursion P xs) (h x) (decides_all p P xs h)

pub decides_ascends : {K : Type 0} (cmp : K → K → Ordering) (keys : List K) → Decides (ascends cmp keys) (IsStrictlySortedBy cmp keys)
unfolding IsStrictlySortedBy
decides_ascends cmp [] = tt
decides_ascends cmp (key ∷ keys) =
    decides_both (list_all (λ next. is_less (cmp key next)) keys) (ascends cmp keys) (AllByRecursion (λ next. cmp key next ≡ Less) keys)
    (IsStrictlySortedBy cmp keys)
    (decides_all (λ next. is_less (cmp key next)) (λ next. cmp key next ≡ Less) keys (λ next. decides_less (cmp key next)))
    (decides_ascends cmp keys)

-- ---- from neighbours
module _ {X K : Type 0} {cmp : K → K → Ordering} (o : IsTotalOrder cmp) (key : X → K) where
  from_neighbours : (xs : List X) → ((k : ℕ) (d : X) → k + 1 < length xs → cmp (key (get_or xs k d)) (key (get_or xs (k + 1) d)) ≡ Less)
      → IsStrictlySortedBy cmp (map key xs)
  unfolding IsStrictlySortedBy
  from_neighbours [] h = tt
  from_neighbours (x ∷ []) h = (tt, tt)
  from_neighbours (x ∷ y ∷ ys) h =
      let later = from_neighbours (y ∷ ys)
      (λ k d l. let e : suc k + 1
      ≡ suc (k + 1) = omega arith in subst (λ (n : ℕ). cmp (key (get_or (y ∷ ys) k d)) (key (get_or (x ∷ y ∷ ys) n d)) ≡ Less) e
      (h (suc k) d (omega arith))) in
      let first : cmp (key x) (key y) ≡ Less = h 0 x (omega arith) in
      ((first, all_above o (key x) (key y) (map key ys) first later.0), later)

  pub neighbours : (xs : List X) → IsStrictlySortedBy cmp (map key xs) → (k : ℕ) (d : X) → k + 1 < length xs
      → cmp (key (get_or xs k d)) (key (get_or xs (k + 1) d)) ≡ Less
  unfolding IsStrictlySortedBy
  neighbours [] s k d l = absurd (omega arith)
  neighbours (x ∷ []) s k d l = absurd (omega arith)
  neighbours (x ∷ y ∷ ys) s zero d l = s.0.0
  neighbours (x ∷ y ∷ ys) s (suc k) d l =
      let e : suc (k + 1) ≡ suc k + 1 = omega arith in
      subst (λ (n : ℕ). cmp (key (get_or (y ∷ ys) k d)) (key (get_or (x ∷ y ∷ ys) n d)) ≡ Less) e
      (neighbours (y ∷ ys) s.1 k d (omega arith))

  pub sorted_answer : (e : X → X → Bool) → ((x y : X) → e x y ≡ is_less (cmp (key x) (key y))) → (xs : List X) (r : Bool)
      → IsAllAdjacentAnswer (λ x y b. b ≡ e x y) xs r → r ≡ ascends cmp (map key xs)
  sorted_answer e h xs r a =
      same_answer r (ascends cmp (map key xs)) (IsStrictlySortedBy cmp (map key xs))
      (elim r as (λ r. IsAllAdjacentAnswer (λ x y b. b ≡ e x y) xs r → Decides r (IsStrictlySortedBy cmp (map key xs))) [
        | true ↦ λ f. from_neighbours xs
            (λ k d l. decided_yes _ _ (decides_less (cmp (key (get_or xs k d)) (key (get_or xs (k + 1) d))))
            (sym (f k d l ∙ h (get_or xs k d) (get_or xs (k + 1) d))))
        | false ↦ λ f s. differs xs f s
      ] a)
      (decides_ascends cmp (map key xs))
    where
      differs : (xs : List X) → (k : ℕ) × (k + 1 < length xs) × ((d : X) → false ≡ e (get_or xs k d) (get_or xs (k + 1) d))
          → IsStrictlySortedBy cmp (map key xs) → ⊥
      differs [] f s = absurd (omega (arith, f.1))
      differs (x ∷ xs) f s =
          decided_no _ _ (decides_less (cmp (key (get_or (x ∷ xs) f.0 x)) (key (get_or (x ∷ xs) (f.0 + 1) x))))
          (sym (f.2 x ∙ h (get_or (x ∷ xs) f.0 x) (get_or (x ∷ xs) (f.0 + 1) x))) (neighbours (x ∷ xs) s f.0 x f.1)

-- ---- what is put behind the last
module _ {X K V : Type 0} {cmp : K → K → Ordering} (o : IsTotalOrder cmp) (f : X → K × V) where
  reversed : (a b : K) → cmp a b ≡ Less → cmp b a ≡ Greater
  reversed a b h = o.antisymm b a ∙ ap ordering_reverse h

  below_later : (k : K) (xs : List X) (i : ℕ) (x : X) → i < length xs → get_or xs i x ≡ x
      → AllByRecursion (λ q. cmp k q ≡ Less) (keys_of (map f xs)) → cmp k (f x).0 ≡ Less
  below_later k [] i x l e a = absurd (omega arith)
  below_later k (y ∷ ys) zero x l e a = subst (λ (v : X). cmp k (f v).0 ≡ Less) e a.0
  below_later k (y ∷ ys) (suc i) x l e a = below_later k ys i x (omega arith) e a.1

  -- entries that were put in one by one, in the order of their keys
  pub grown : (xs : List X) (i : ℕ) (x : X) → i < length xs → get_or xs i x ≡ x → IsStrictlySortedBy cmp (keys_of (map f xs))
      → insert_entry cmp (map f (take i xs)) (f x).0 (f x).1 ≡ map f (take (i + 1) xs)
  unfolding IsStrictlySortedBy
  grown [] i x l e s = absurd (omega arith)
  grown (y ∷ ys) zero x l e s = ap (λ (v : X). f v ∷ []) (sym e)
  grown (y ∷ ys) (suc i) x l e s =
      let n : suc (i + 1) ≡ suc i + 1 = omega arith in
      let g : cmp (f x).0 (f y).0 ≡ Greater = reversed (f y).0 (f x).0 (below_later (f y).0 ys i x (omega arith) e s.0) in
      rw g (ap (λ (l : List (K × V)). f y ∷ l) (grown ys i x (omega arith) e s.1) ∙ ap (λ (k : ℕ). map f (take k (y ∷ ys))) n)

module _ {X : Type 0} where
  pub more_mapped : {Y : Type 0} (f : X → Y) (xs : List X) (i : ℕ) (x : X) → i < length xs → get_or xs i x ≡ x
      → map f (take i xs) ++ f x ∷ [] ≡ map f (take (i + 1) xs)
  more_mapped f [] i x l e = absurd (omega arith)
  more_mapped {Y} f (y ∷ ys) zero x l e = ap (λ (v : X). f v ∷ []) (sym e)
  more_mapped {Y} f (y ∷ ys) (suc i) x l e =
      let n : suc (i + 1) ≡ suc i + 1 = omega arith in
      ap (λ (l : List Y). f y ∷ l) (more_mapped f ys i x (omega arith) e) ∙ ap (λ (k : ℕ). map f (take k (y ∷ ys))) n

pub less_is : (a b : ℕ) → nat_lt a b ≡ is_less (nat_cmp a b)
less_is a b = elim (nat_lt a b) as
    (λ v. v
    ≡ is_less (cond v Less (cond (a == b) Equal Greater))) [
      | true ↦ refl
      | false ↦ elim (a == b) as
          (λ w. false ≡ is_less (cond w Equal Greater)) [ true ↦ refl | false ↦ refl ]
    ]

pub keys_mapped : {X K V : Type 0} (f : X → K × V) (xs : List X) → keys_of (map f xs) ≡ map (λ x. (f x).0) xs
keys_mapped f [] = refl
keys_mapped f (x ∷ xs) = ap (λ (l : List _). (f x).0 ∷ l) (keys_mapped f xs)

pub itself_mapped : {X : Type 0} (xs : List X) → map (λ x. x) xs ≡ xs
itself_mapped [] = refl
itself_mapped (x ∷ xs) = ap (λ (l : List _). x ∷ l) (itself_mapped xs)

-- the same test of what a list is mapped to
pub all_mapped : {X Y : Type 0} (p : Y → Bool) (f : X → Y) (xs : List X) → list_all (λ x. p (f x)) xs ≡ list_all p (map f xs)
all_mapped p f [] = refl
all_mapped p f (x ∷ xs) = ap (λ (b : Bool). p (f x) && b) (all_mapped p f xs)
