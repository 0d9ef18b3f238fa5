-- A phrase's words in turn: where the first ones stand, and then where one more does.
use Rattle.std.proofs.Common.{◌≡◌, ℕ, zero, suc, ◌+◌, ◌<◌, Bool, true, false, cond, ◌&&◌, List, [], ◌∷◌, length, get_or, take, refl, sym}
use Rattle.std.proofs.Common.{ap, ◌∙◌, arith}
use Rattle.std.specs.Prelude.{filter}
use Rattle.std.specs.List.{All}
use Rattle.std.proofs.Math.Bool.{and_assoc, and-true}
use Rattle.std.proofs.lemmas.List.Elements.{recursion_from_All}
use Rattle.wu_base.specs.declared.addresses.Extent.{Extent}
use Rattle.wu_gcl.specs.Extents.{words_stand}
use Rattle.wu_solve.proofs.Sets.{all_has}
use Rattle.wu_solve.proofs.Results.{filter_alike}
use Rattle.wu_solve.proofs.Whole.{keeps_all}

-- one word more
pub one_more : (stands : List ℕ → ℕ → Bool) (words : List (List ℕ)) (place k : ℕ) → k < length words
    → words_stand stands (take (suc k) words) place ≡ (words_stand stands (take k words) place && stands (get_or words k []) (place + k))
one_more stands [] place k within = absurd (omega arith)
one_more stands (word ∷ words) place zero within =
    let here : place + 0 ≡ place = omega arith in
    and-true (stands word place) ∙ sym (ap (stands word) here)
one_more stands (word ∷ words) place (suc k) within =
    let there : place + 1 + k ≡ place + suc k = omega arith in
    ap (λ (b : Bool). stands word place && b)
    (one_more stands words (place + 1) k (omega arith)
    ∙ ap (λ (p : ℕ). words_stand stands (take k words) (place + 1) && stands (get_or words k []) p) there)
    ∙ sym (and_assoc (stands word place) (words_stand stands (take k words) (place + 1)) (stands (get_or words k []) (place + suc k)))

twice_by : (q : Extent → Bool) (x : Extent) (ys zs : List Extent) (test : Bool) → filter q ys ≡ zs
    → filter q (cond test (x ∷ ys) ys) ≡ cond (test && q x) (x ∷ zs) zs
twice_by q x ys zs true same = rw same refl
twice_by q x ys zs false same = same

-- what passes two tests, one after the other
pub filter_twice : (p q : Extent → Bool) (xs : List Extent) → filter q (filter p xs) ≡ filter (λ x. p x && q x) xs
filter_twice p q [] = refl
filter_twice p q (x ∷ xs) = twice_by q x (filter p xs) (filter (λ x. p x && q x) xs) (p x) (filter_twice p q xs)

-- the extents at whose start one word more stands
pub next_kept : (stands : List ℕ → ℕ → Bool) (words : List (List ℕ)) (k : ℕ) (xs : List Extent) → k < length words
    → filter (λ x. stands (get_or words k []) (x.start + k)) (filter (λ x. words_stand stands (take k words) x.start) xs)
    ≡ filter (λ x. words_stand stands (take (k + 1) words) x.start) xs
next_kept stands words k xs within =
    let step : k + 1 ≡ suc k = omega arith in
    filter_twice (λ x. words_stand stands (take k words) x.start) (λ x. stands (get_or words k []) (x.start + k)) xs
    ∙ filter_alike (λ x. words_stand stands (take k words) x.start && stands (get_or words k []) (x.start + k))
    (λ x. words_stand stands (take (k + 1) words) x.start) xs
    (λ x has. rw step (sym (one_more stands words x.start k within)))

-- a test that all pass
pub all_kept : (p : Extent → Bool) (xs : List Extent) → All (λ x. p x ≡ true) xs → filter p xs ≡ xs
all_kept p xs all = keeps_all p xs (λ x has. all_has (λ x. p x ≡ true) xs x (recursion_from_All (λ x. p x ≡ true) xs all) has)
