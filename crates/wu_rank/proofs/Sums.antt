-- The sum of two sparse vectors over the same units.
use Rattle.std.proofs.Common.{◌≡◌, ℕ, ◌+◌, ◌-◌, ◌<◌, ◌≤◌, Option, Some, None, cond, leb, ltb, List, [], ◌∷◌, ◌++◌, append-nil, length, drop}
use Rattle.std.proofs.Common.{refl, sym, ap, ap₂, ◌∙◌, ⊎_elim, arith}
use Rattle.std.specs.List.{AllByRecursion}
use Rattle.std.proofs.lemmas.Bool.{cases_order, lt-ltb, le-ltb, le-leb, lt-leb, cond-true, cond-false, cond_both}
use Rattle.std.proofs.Math.Nat.{add-zero, zero-add}
use Rattle.wu_rank.specs.declared.entries.Entry.{Entry}
use Rattle.wu_rank.specs.declared.results.Unit.{Unit as RankedUnit}
use Rattle.wu_rank.specs.Entries.{with_entry, entries, first_sum, sum_behind, sparse_sum}

-- ---- what two values come to

abbrev pub sum_of : Option ℕ → Option ℕ → Option ℕ
sum_of None b = b
sum_of (Some a) None = Some a
sum_of (Some a) (Some b) = Some (a + b)

-- the first of the entries, if there is one, is of a later unit
abbrev Later : ℕ → List Entry → Type 0
Later place [] = Unit {0}
Later place (e ∷ es) = place < e.unit

later_with : (place other : ℕ) (value : Option ℕ) (rest : List Entry) → place < other → Later place rest
    → Later place (with_entry other value rest)
later_with place other None rest l r = r
later_with place other (Some v) rest l r = l

entries_later : (f : RankedUnit → Option ℕ) (end place : ℕ) (us : List RankedUnit) → length us ≤ end → place < end - length us
    → Later place (entries f end us)
entries_later f end place [] w l = tt
entries_later f end place (u ∷ us) w l =
    later_with place (end - length (u ∷ us)) (f u) (entries f end us) l (entries_later f end place us (omega arith) (omega arith))

sum-nil : (xs : List Entry) → sparse_sum xs [] ≡ xs
sum-nil [] = refl
sum-nil (x ∷ xs) = refl

same_entry : (u v x y : ℕ) → u ≡ x → v ≡ y → ◌≡◌ {A = Entry} (record { unit = u; value = v }) (record { unit = x; value = y })
same_entry u v x y e f = ap₂ (λ (m n : ℕ). let r : Entry = record { unit = m; value = n } in r) e f

first-left : (a b : Entry) → a.unit < b.unit → first_sum a b ≡ a
first-left a b l =
    same_entry _ _ _ _ (omega arith)
    (ap₂ (λ (v w : ℕ). v + w) (cond-true (leb a.unit b.unit) a.value 0 (le-leb a.unit b.unit (omega arith)))
    (cond-false (leb b.unit a.unit) b.value 0 (lt-leb b.unit a.unit l))
    ∙ add-zero a.value)

first-right : (a b : Entry) → b.unit < a.unit → first_sum a b ≡ b
first-right a b l =
    same_entry _ _ _ _ (omega arith)
    (ap₂ (λ (v w : ℕ). v + w) (cond-false (leb a.unit b.unit) a.value 0 (lt-leb a.unit b.unit l))
    (cond-true (leb b.unit a.unit) b.value 0 (le-leb b.unit a.unit (omega arith)))
    ∙ zero-add b.value)

first-both : (place v w : ℕ) → first_sum (record { unit = place; value = v }) (record { unit = place; value = w })
    ≡ record { unit = place; value = v + w }
first-both place v w =
    same_entry _ _ _ _ (omega arith)
    (ap₂ (λ (x y : ℕ). x + y) (cond-true (leb place place) v 0 (le-leb place place (omega arith)))
    (cond-true (leb place place) w 0 (le-leb place place (omega arith))))

-- what follows the first entry of the sum
rest-left : (a b : Entry) (xs ys : List Entry) → a.unit < b.unit
    → sparse_sum (a ∷ xs) (b ∷ ys) ≡ first_sum a b ∷ sparse_sum xs (b ∷ ys)
rest-left a b xs ys l = ap (λ (es : List Entry). first_sum a b ∷ es) (cond-true (ltb a.unit b.unit) _ _ (lt-ltb a.unit b.unit l))

rest-right : (a b : Entry) (xs ys : List Entry) → b.unit < a.unit
    → sparse_sum (a ∷ xs) (b ∷ ys) ≡ first_sum a b ∷ sparse_sum (a ∷ xs) ys
rest-right a b xs ys l =
    ap (λ (es : List Entry). first_sum a b ∷ es)
    (cond-false (ltb a.unit b.unit) _ _ (le-ltb a.unit b.unit (omega arith)) ∙ cond-true (ltb b.unit a.unit) _ _ (lt-ltb b.unit a.unit l))

rest-both : (a b : Entry) (xs ys : List Entry) → a.unit ≡ b.unit → sparse_sum (a ∷ xs) (b ∷ ys) ≡ first_sum a b ∷ sparse_sum xs ys
rest-both a b xs ys e =
    ap (λ (es : List Entry). first_sum a b ∷ es)
    (cond-false (ltb a.unit b.unit) _ _ (le-ltb a.unit b.unit (omega arith))
    ∙ cond-false (ltb b.unit a.unit) _ _ (le-ltb b.unit a.unit (omega arith)))

-- an entry before all of the other vector's
sum-left : (place v : ℕ) (xs ys : List Entry) → Later place ys
    → sparse_sum (record { unit = place; value = v } ∷ xs) ys ≡ record { unit = place; value = v } ∷ sparse_sum xs ys
sum-left place v xs [] l = ap (λ (es : List Entry). let e : Entry = record { unit = place; value = v } in e ∷ es) (sym (sum-nil xs))
sum-left place v xs (y ∷ ys) l =
    rest-left (record { unit = place; value = v }) y xs ys l
    ∙ ap (λ (e : Entry). e ∷ sparse_sum xs (y ∷ ys)) (first-left (record { unit = place; value = v }) y l)

sum-right : (place v : ℕ) (xs ys : List Entry) → Later place xs
    → sparse_sum xs (record { unit = place; value = v } ∷ ys) ≡ record { unit = place; value = v } ∷ sparse_sum xs ys
sum-right place v [] ys l = refl
sum-right place v (x ∷ xs) ys l =
    rest-right x (record { unit = place; value = v }) xs ys l
    ∙ ap (λ (e : Entry). e ∷ sparse_sum (x ∷ xs) ys) (first-right x (record { unit = place; value = v }) l)

sum-both : (place v w : ℕ) (xs ys : List Entry)
    → sparse_sum (record { unit = place; value = v } ∷ xs) (record { unit = place; value = w } ∷ ys)
    ≡ record { unit = place; value = v + w } ∷ sparse_sum xs ys
sum-both place v w xs ys =
    rest-both (record { unit = place; value = v }) (record { unit = place; value = w }) xs ys refl
    ∙ ap (λ (e : Entry). e ∷ sparse_sum xs ys) (first-both place v w)

sum-with : (place : ℕ) (a b : Option ℕ) (xs ys : List Entry) → Later place xs → Later place ys
    → sparse_sum (with_entry place a xs) (with_entry place b ys) ≡ with_entry place (sum_of a b) (sparse_sum xs ys)
sum-with place None None xs ys l m = refl
sum-with place (Some v) None xs ys l m = sum-left place v xs ys m
sum-with place None (Some w) xs ys l m = sum-right place w xs ys l
sum-with place (Some v) (Some w) xs ys l m = sum-both place v w xs ys

-- the sum has each unit's two values
pub sum-entries : (f g : RankedUnit → Option ℕ) (end : ℕ) (us : List RankedUnit) → length us ≤ end
    → sparse_sum (entries f end us) (entries g end us) ≡ entries (λ u. sum_of (f u) (g u)) end us
sum-entries f g end [] w = refl
sum-entries f g end (u ∷ us) w =
    sum-with (end - length (u ∷ us)) (f u) (g u) (entries f end us) (entries g end us)
    (entries_later f end (end - length (u ∷ us)) us (omega arith) (omega arith))
    (entries_later g end (end - length (u ∷ us)) us (omega arith) (omega arith))
    ∙ ap (with_entry (end - length (u ∷ us)) (sum_of (f u) (g u))) (sum-entries f g end us (omega arith))

-- where one of the vectors has no entry
pub none_of_one : (xs ys : List Entry) → length xs ≡ 0 → xs ++ ys ≡ sparse_sum xs ys
none_of_one [] ys e = refl
none_of_one (x ∷ xs) ys e = absurd (omega arith)

pub none_of_other : (xs ys : List Entry) → length ys ≡ 0 → xs ++ ys ≡ sparse_sum xs ys
none_of_other xs [] e = append-nil xs ∙ sym (sum-nil xs)
none_of_other xs (y ∷ ys) e = absurd (omega arith)

-- ---- one step of the merging

-- each vector without its first entry, where that is of the first unit
pub sum-step : (a b : Entry) (xs ys : List Entry) (p q : ℕ) → p ≡ cond (leb a.unit b.unit) 1 0 → q ≡ cond (leb b.unit a.unit) 1 0
    → sparse_sum (a ∷ xs) (b ∷ ys) ≡ first_sum a b ∷ sparse_sum (drop p (a ∷ xs)) (drop q (b ∷ ys))
sum-step a b xs ys p q ep eq =
    ⊎_elim
    (λ (e : a.unit ≡ b.unit). rest-both a b xs ys e ∙ rw (left_with (omega arith), right_with (omega arith)) refl)
    (⊎_elim
    (λ (l : a.unit < b.unit). rest-left a b xs ys l ∙ rw (left_with (omega arith), right_without l) refl)
    (λ (l : b.unit < a.unit). rest-right a b xs ys l ∙ rw (left_without l, right_with (omega arith)) refl))
    (cases_order a.unit b.unit)
  where
    left_with : a.unit ≤ b.unit → p ≡ 1
    left_with l = ep ∙ cond-true (leb a.unit b.unit) 1 0 (le-leb a.unit b.unit l)

    left_without : b.unit < a.unit → p ≡ 0
    left_without l = ep ∙ cond-false (leb a.unit b.unit) 1 0 (lt-leb a.unit b.unit l)

    right_with : b.unit ≤ a.unit → q ≡ 1
    right_with l = eq ∙ cond-true (leb b.unit a.unit) 1 0 (le-leb b.unit a.unit l)

    right_without : a.unit < b.unit → q ≡ 0
    right_without l = eq ∙ cond-false (leb b.unit a.unit) 1 0 (lt-leb b.unit a.unit l)

-- ---- how large the sums are

module _ (m n : ℕ) where
  at_most_left : (xs : List Entry) → AllByRecursion (λ e. e.value ≤ m) xs → AllByRecursion (λ e. e.value ≤ m + n) xs
  at_most_left [] a = tt
  at_most_left (x ∷ xs) a = (omega (arith, a.0), at_most_left xs a.1)

  at_most_right : (xs : List Entry) → AllByRecursion (λ e. e.value ≤ n) xs → AllByRecursion (λ e. e.value ≤ m + n) xs
  at_most_right [] a = tt
  at_most_right (x ∷ xs) a = (omega (arith, a.0), at_most_right xs a.1)

  first-small : (a b : Entry) → a.value ≤ m → b.value ≤ n → (first_sum a b).value ≤ m + n
  first-small a b l k =
      let left : cond (leb a.unit b.unit) a.value 0 ≤ m =
      cond_both (leb a.unit b.unit) a.value 0 (λ (v : ℕ). v ≤ m) (λ e. l) (λ e. omega arith) in
      let right : cond (leb b.unit a.unit) b.value 0 ≤ n =
      cond_both (leb b.unit a.unit) b.value 0 (λ (v : ℕ). v ≤ n) (λ e. k) (λ e. omega arith) in
      omega arith

  behind-small : (a : Entry) (xs : List Entry) (sum : List Entry → List Entry) → a.value ≤ m → AllByRecursion (λ e. e.value ≤ m) xs
      → ((ys : List Entry) → AllByRecursion (λ e. e.value ≤ n) ys → AllByRecursion (λ e. e.value ≤ m + n) (sum ys))
      → (ys : List Entry) → AllByRecursion (λ e. e.value ≤ n) ys → AllByRecursion (λ e. e.value ≤ m + n) (sum_behind a xs sum ys)
  behind-small a xs sum l ls each [] rs = (omega (arith, l), at_most_left xs ls)
  behind-small a xs sum l ls each (b ∷ ys) rs = (
    first-small a b l rs.0,
    cond_both (ltb a.unit b.unit) _ _ (λ (es : List Entry). AllByRecursion (λ e. e.value ≤ m + n) es) (λ e. each (b ∷ ys) rs)
        (λ e. cond_both (ltb b.unit a.unit) _ _ (λ (es : List Entry). AllByRecursion (λ e. e.value ≤ m + n) es)
        (λ f. behind-small a xs sum l ls each ys rs.1)
        (λ f. each ys rs.1)),
  )

  pub sum-small : (xs ys : List Entry) → AllByRecursion (λ e. e.value ≤ m) xs → AllByRecursion (λ e. e.value ≤ n) ys
      → AllByRecursion (λ e. e.value ≤ m + n) (sparse_sum xs ys)
  sum-small [] ys ls rs = at_most_right ys rs
  sum-small (x ∷ xs) ys ls rs = behind-small x xs (sparse_sum xs) ls.0 ls.1 (λ zs cs. sum-small xs zs ls.1 cs) ys rs
