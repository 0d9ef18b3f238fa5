-- Sums over files, and which files two lists have in common.
use Rattle.std.proofs.Common.{◌≡◌, ℕ, ◌+◌, ◌<◌, ◌≤◌, Bool, true, false, cond, eqb, List, [], ◌∷◌, ◌++◌, length, refl, ap, sym, ◌∙◌, subst}
use Rattle.std.proofs.Common.{inl, inr, ⊎_elim, arith}
use Rattle.std.specs.Prelude.{◌&&◌, None, Some, sum_by, map, filter, find, IsPermutation}
use Rattle.std.specs.declared.cmp.Ordering.TheVariants.{Less, Equal, Greater}
use Rattle.std.specs.Ordering.{match_ordering, nat_cmp, is_eq}
use Rattle.std.specs.Map.{lookup, remove_entry}
use Rattle.std.specs.BTreeMap.{is_at, insert_entry}
use Rattle.std.proofs.lemmas.Bool.{cases_lt, and_parts, and_from, eqb-true, eq-eqb}
use Rattle.std.proofs.lemmas.List.Sums.{sum_by-cons, sum_by-append}
use Rattle.std.proofs.lemmas.List.Sorted.{IsPermutation-refl, IsPermutation-sym, IsPermutation-cons, IsPermutation-trans}
use Rattle.std.proofs.lemmas.List.Sorted.{IsPermutation-middle}
use Rattle.std.proofs.lemmas.Map.Lookups.{exact_unsigned}
use Rattle.wu_base.specs.declared.addresses.Range.{Range}
use Rattle.wu_base.proofs.Members.{Has}
use Rattle.wu_base.proofs.MapEntries.{is_equal}
use Rattle.wu_space.specs.Addresses.{Ranges}

-- ---- sums over any list
module _ {X : Type 0} where
  pub sum_by-same : (f g : X → ℕ) → ((x : X) → f x ≡ g x) → (xs : List X) → sum_by f xs ≡ sum_by g xs
  sum_by-same f g h [] = refl
  sum_by-same f g h (x ∷ xs) = omega (arith, sum_by-cons f x xs, sum_by-cons g x xs, h x, sum_by-same f g h xs)

  pub sum_by-one : (xs : List X) → sum_by (λ x. 1) xs ≡ length xs
  sum_by-one [] = refl
  sum_by-one (x ∷ xs) = omega (arith, sum_by-cons (λ (y : X). 1) x xs, sum_by-one xs)

  pub sum_by-filter : (f : X → ℕ) (p : X → Bool) (xs : List X) → sum_by f (filter p xs) ≡ sum_by (λ x. cond (p x) (f x) 0) xs
  sum_by-filter f p [] = refl
  sum_by-filter f p (x ∷ xs) =
      elim (p x) as (λ b. sum_by f (cond b (x ∷ filter p xs) (filter p xs)) ≡ cond b (f x) 0 + sum_by (λ y. cond (p y) (f y) 0) xs) [
        | true ↦ omega (arith, sum_by-cons f x (filter p xs), sum_by-filter f p xs)
        | false ↦ omega (arith, sum_by-filter f p xs)
      ]
      ∙ sym (sum_by-cons (λ y. cond (p y) (f y) 0) x xs)

  pub sum_by-map : {Y : Type 0} (f : Y → ℕ) (g : X → Y) (xs : List X) → sum_by f (map g xs) ≡ sum_by (λ x. f (g x)) xs
  sum_by-map f g [] = refl
  sum_by-map f g (x ∷ xs) =
      omega (arith, sum_by-cons f (g x) (map g xs), sum_by-cons (λ (y : X). f (g y)) x xs, sum_by-map f g xs)

  pub sum-positive : (f : X → ℕ) (x : X) (xs : List X) → Has x xs → 0 < f x → 0 < sum_by f xs
  sum-positive f x [] h l = absurd h
  sum-positive f x (y ∷ ys) h l =
      ⊎_elim
      (λ e. omega (arith, sum_by-cons f y ys, ap f e))
      (λ i. omega (arith, sum_by-cons f y ys, sum-positive f x ys i l))
      h

  pub positive-has : (f : X → ℕ) (xs : List X) → 0 < sum_by f xs → (x : X) × (Has x xs × (0 < f x))
  positive-has f [] l = absurd (omega arith)
  positive-has f (x ∷ xs) l =
      ⊎_elim
      (λ (h : 0 < f x). (x, (inl refl, h)))
      (λ (h : f x ≤ 0). let r = positive-has f xs (omega (arith, sum_by-cons f x xs)) in (r.0, (inr r.1.0, r.1.1)))
      (cases_lt 0 (f x))

  pub find-none : (p : X → Bool) (xs : List X) → ((x : X) → Has x xs → p x ≡ false) → find p xs ≡ None
  find-none p [] h = refl
  find-none p (x ∷ xs) h = rw (h x (inl refl)) (find-none p xs (λ y i. h y (inr i)))

  -- the one item that passes
  pub find-is : (p : X → Bool) (x : X) (xs : List X) → Has x xs → p x ≡ true → ((y : X) → Has y xs → p y ≡ true → y ≡ x)
      → find p xs ≡ Some x
  find-is p x [] h t u = absurd h
  find-is p x (y ∷ ys) h t u =
      elim (p y) as (λ b. p y ≡ b → cond b (Some y) (find p ys) ≡ Some x) [
        | true ↦ λ q. ap (λ (v : X). Some v) (u y (inl refl) q)
        | false ↦ λ q.
            find-is p x ys
            (⊎_elim (λ e. let f : p y ≡ true = ap p e ∙ t in absurd cc) (λ i. i) h)
            t (λ z i. u z (inr i))
      ] refl

-- ---- lists over which each sum is the same are in another order at most
module _ {X : Type 0} (same : X → X → Bool) (alike : (x : X) → same x x ≡ true) (exact : (x y : X) → same x y ≡ true → x ≡ y) where
  abbrev marks : X → X → ℕ
  marks x y = cond (same x y) 1 0

  marked : (x y : X) → 0 < marks x y → x ≡ y
  marked x y h =
      elim (same x y) as (λ b. same x y ≡ b → 0 < cond {A = ℕ} b 1 0 → x ≡ y) [
        | true ↦ λ q l. exact x y q
        | false ↦ λ q l. absurd (omega arith)
      ] refl h

  marks-itself : (x : X) → marks x x ≡ 1
  marks-itself x = rw (alike x) refl

  pub has-from_sums : (xs ys : List X) → ((f : X → ℕ) → sum_by f xs ≡ sum_by f ys) → (x : X) → Has x xs → Has x ys
  has-from_sums xs ys h x i =
      let a : 0 < sum_by (marks x) xs = sum-positive (marks x) x xs i (omega (arith, marks-itself x)) in
      let b : 0 < sum_by (marks x) ys = omega (arith, h (marks x)) in
      let r = positive-has (marks x) ys b in
      subst (λ (y : X). Has y ys) (sym (marked x r.0 r.1.1)) r.1.0

  split : (x : X) (ys : List X) → Has x ys → (before : List X) × (after : List X) × (ys ≡ before ++ x ∷ after)
  split x [] h = absurd h
  split x (y ∷ ys) h =
      ⊎_elim
      (λ e. ([], ys, ap (λ (v : X). v ∷ ys) e))
      (λ i. let r = split x ys i in (y ∷ r.0, r.1, ap (λ (l : List X). y ∷ l) r.2))
      h

  pub IsPermutation-from_sums : (xs ys : List X) → ((f : X → ℕ) → sum_by f xs ≡ sum_by f ys) → IsPermutation xs ys
  IsPermutation-from_sums [] [] h = IsPermutation-refl []
  IsPermutation-from_sums [] (y ∷ ys) h = absurd (omega (arith, h (λ _. 1), sum_by-cons (λ (v : X). 1) y ys))
  IsPermutation-from_sums (x ∷ xs) ys h =
      let r = split x ys (has-from_sums (x ∷ xs) ys h x (inl refl)) in
      let rest : (f : X → ℕ) → sum_by f xs ≡ sum_by f (r.0 ++ r.1) = λ f.
      omega (arith, h f, ap (sum_by f) r.2, sum_by-cons f x xs, sum_by-append f r.0 (x ∷ r.1), sum_by-cons f x r.1, sum_by-append f r.0 r.1) in
      let p : IsPermutation (x ∷ xs) (x ∷ (r.0 ++ r.1)) = IsPermutation-cons x xs (r.0 ++ r.1) (IsPermutation-from_sums xs (r.0 ++ r.1) rest) in
      let q : IsPermutation (x ∷ (r.0 ++ r.1)) (r.0 ++ x ∷ r.1) = IsPermutation-sym (r.0 ++ x ∷ r.1) (x ∷ (r.0 ++ r.1)) (IsPermutation-middle r.0 x r.1) in
      subst (λ (l : List X). IsPermutation (x ∷ xs) l) (sym r.2)
      (IsPermutation-trans (x ∷ xs) (x ∷ (r.0 ++ r.1)) (r.0 ++ x ∷ r.1) p q)

-- ---- files by number
module _ (f : ℕ × Range → ℕ) (ino : ℕ) where
  pub sum-insert_entry : (files : Ranges) (range : Range) → lookup (is_at (nat_cmp ino)) files ≡ None
      → sum_by f (insert_entry nat_cmp files ino range) ≡ f (ino, range) + sum_by f files
  sum-insert_entry [] range h = sum_by-cons f (ino, range) []
  sum-insert_entry (e ∷ es) range h =
      elim (nat_cmp ino e.0) as
      (λ r. cond (is_eq r) (Some e.1) (lookup (is_at (nat_cmp ino)) es) ≡ None
      → sum_by f (match_ordering r ((ino, range) ∷ e ∷ es) ((e.0, range) ∷ es) (e ∷ insert_entry nat_cmp es ino range))
      ≡ f (ino, range) + sum_by f (e ∷ es)) [
        | Less ↦ λ g. sum_by-cons f (ino, range) (e ∷ es)
        | Equal ↦ λ g. absurd cc
        | Greater ↦ λ g.
            omega (arith, sum_by-cons f e (insert_entry nat_cmp es ino range), sum_by-cons f e es, sum-insert_entry es range g)
      ] h

  pub sum-remove_entry : (files : Ranges) (range : Range) → lookup (is_at (nat_cmp ino)) files ≡ Some range
      → f (ino, range) + sum_by f (remove_entry (is_at (nat_cmp ino)) files) ≡ sum_by f files
  sum-remove_entry [] range h = absurd cc
  sum-remove_entry (e ∷ es) range h =
      elim (is_eq (nat_cmp ino e.0)) as
      (λ b. is_eq (nat_cmp ino e.0) ≡ b → cond b (Some e.1) (lookup (is_at (nat_cmp ino)) es) ≡ Some range
      → f (ino, range) + sum_by f (cond b es (e ∷ remove_entry (is_at (nat_cmp ino)) es)) ≡ sum_by f (e ∷ es)) [
        | true ↦ λ p g.
            let number : ino ≡ e.0 = exact_unsigned ino e.0 (is_equal _ p) in
            let same : e.1 ≡ range = cc in
            let value : f (ino, range) ≡ f (e.0, e.1) = ap (λ (n : ℕ). f (n, range)) number ∙ ap (λ (r : Range). f (e.0, r)) (sym same) in
            omega (arith, sum_by-cons f e es, value)
        | false ↦ λ p g.
            omega (arith, sum_by-cons f e (remove_entry (is_at (nat_cmp ino)) es), sum_by-cons f e es, sum-remove_entry es range g)
      ] refl h

-- ---- whether two ranges, or two files with their ranges, are the same
pub same_range : Range → Range → Bool
same_range a b = eqb a.start b.start && eqb a.len b.len

pub alike_range : (a : Range) → same_range a a ≡ true
unfolding same_range
alike_range a = and_from _ _ (eq-eqb a.start a.start refl) (eq-eqb a.len a.len refl)

pub exact_range : (a b : Range) → same_range a b ≡ true → a ≡ b
unfolding same_range
exact_range a b h =
    let p = and_parts _ _ h in
    let start : a.start ≡ b.start = eqb-true _ _ p.0 in
    let len : a.len ≡ b.len = eqb-true _ _ p.1 in
    let first : ℕ → Range = λ n. record { start = n; len = a.len } in
    let second : ℕ → Range = λ n. record { start = b.start; len = n } in
    ap first start ∙ ap second len

pub same_file : ℕ × Range → ℕ × Range → Bool
same_file a b = eqb a.0 b.0 && same_range a.1 b.1

pub alike_file : (a : ℕ × Range) → same_file a a ≡ true
unfolding same_file
alike_file a = and_from _ _ (eq-eqb a.0 a.0 refl) (alike_range a.1)

pub exact_file : (a b : ℕ × Range) → same_file a b ≡ true → a ≡ b
unfolding same_file
exact_file a b h =
    let p = and_parts _ _ h in
    let number : a.0 ≡ b.0 = eqb-true _ _ p.0 in
    let range : a.1 ≡ b.1 = exact_range _ _ p.1 in
    let first : ℕ → ℕ × Range = λ n. (n, a.1) in
    let second : Range → ℕ × Range = λ r. (b.0, r) in
    ap first number ∙ ap second range

pub mark : ℕ × Range → ℕ × Range → ℕ
mark a b = cond (same_file a b) 1 0

pub marked_file : (a b : ℕ × Range) → 0 < mark a b → a ≡ b
unfolding mark
marked_file a b h =
    elim (same_file a b) as (λ t. same_file a b ≡ t → 0 < cond {A = ℕ} t 1 0 → a ≡ b) [
      | true ↦ λ q l. exact_file a b q
      | false ↦ λ q l. absurd (omega arith)
    ] refl h

pub mark-itself : (a : ℕ × Range) → mark a a ≡ 1
unfolding mark
mark-itself a = rw (alike_file a) refl
