-- Lemmas on the lowest and the highest address of lists.
use Rattle.std.proofs.Common.{◌≡◌, ℕ, zero, suc, ◌+◌, ◌<◌, ◌≤◌, ⊎_elim, List, [], ◌∷◌, length, min, get_or, refl, ap, sym, subst, ◌∙◌, true}
use Rattle.std.proofs.Common.{◌==◌, arith}
use Rattle.std.specs.List.{AllByRecursion, list_any}
use Rattle.std.proofs.lemmas.Bool.{cases_lt, eq-eqb}
use Rattle.std.proofs.lemmas.List.Folds.{list_any_at}
use Rattle.wu_base.specs.declared.addresses.TermList.{TermList}

same_item : (lists : List TermList) (k : ℕ) (d e : TermList) → k < length lists → get_or lists k d ≡ get_or lists k e
same_item [] k d e inside = absurd (omega arith)
same_item (x ∷ lists) zero d e inside = refl
same_item (x ∷ lists) (suc k) d e inside = same_item lists k d e (omega arith)

pub all_of_each : (P : TermList → Type 0) (lists : List TermList) → ((k : ℕ) (d : TermList) → k < length lists → P (get_or lists k d))
    → AllByRecursion P lists
all_of_each P [] each = tt
all_of_each P (x ∷ lists) each = (each 0 x (omega arith), all_of_each P lists (λ k d inside. each (suc k) d (omega arith)))

pub each_of_all : (P : TermList → Type 0) (lists : List TermList) → AllByRecursion P lists → (k : ℕ) (d : TermList) → k < length lists
    → P (get_or lists k d)
each_of_all P [] all k d inside = absurd (omega arith)
each_of_all P (x ∷ lists) all zero d inside = all.0
each_of_all P (x ∷ lists) all (suc k) d inside = each_of_all P lists all.1 k d (omega arith)

-- the value of f at some list
abbrev pub IsOneOf : (TermList → ℕ) → List TermList → ℕ → Type 0
IsOneOf f lists value = (k : ℕ) × (k < length lists) × ((d : TermList) → f (get_or lists k d) ≡ value)

pub one_at : (f : TermList → ℕ) (lists : List TermList) (k : ℕ) (item : TermList) → k < length lists → item ≡ get_or lists k item
    → IsOneOf f lists (f item)
one_at f lists k item inside is = (k, inside, λ d. ap f (same_item lists k d item inside ∙ sym is))

pub any_of_one : (f : TermList → ℕ) (lists : List TermList) (value : ℕ) → IsOneOf f lists value
    → list_any (λ list. f list == value) lists ≡ true
any_of_one f [] value o = absurd (omega (arith, o.1))
any_of_one f (x ∷ lists) value o =
    list_any_at (λ list. f list == value) (x ∷ lists) o.0 x o.1 (eq-eqb (f (get_or (x ∷ lists) o.0 x)) value (o.2 x))

-- the least of the first values, and one of the values
pub record IsLeast (f : TermList → ℕ) (lists : List TermList) (n value : ℕ) : Type 0 where
  pub each : (k : ℕ) (d : TermList) → k < n → k < length lists → value ≤ f (get_or lists k d)
  pub one : IsOneOf f lists value

pub least_more : (f : TermList → ℕ) (lists : List TermList) (n value new : ℕ) (item : TermList) → IsLeast f lists n value → n < length lists
    → item ≡ get_or lists n item → new ≡ min value (f item) → IsLeast f lists (n + 1) new
least_more f lists n value new item l inside is e = record {
  each = λ k d below within.
      ⊎_elim
      (λ (s : k < n). let before = l.each k d s within in omega arith)
      (λ (s : n ≤ k).
      let same : k ≡ n = omega arith in
      let its : get_or lists k d ≡ item = ap (λ x. get_or lists x d) same ∙ (same_item lists n d item inside ∙ sym is) in
      let value_is = ap f its in
      omega arith)
      (cases_lt k n);
  one =
      ⊎_elim
      (λ (s : value < f item). let is_old : value ≡ new = omega arith in subst (λ x. IsOneOf f lists x) is_old l.one)
      (λ (s : f item ≤ value). let is_new : f item ≡ new = omega arith in subst (λ x. IsOneOf f lists x) is_new
      (one_at f lists n item inside is))
      (cases_lt value (f item));
}

pub least_all : (f : TermList → ℕ) (lists : List TermList) (n value : ℕ) → IsLeast f lists n value → length lists ≤ n
    → AllByRecursion (λ list. value ≤ f list) lists
least_all f lists n value l over = all_of_each (λ list. value ≤ f list) lists (λ k d inside. l.each k d (omega arith) inside)
