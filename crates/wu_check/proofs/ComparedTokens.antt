-- Tokens that are compared one after another.
use Rattle.std.proofs.Common.{◌≡◌, ℕ, ◌+◌, Bool, true, false, ◌&&◌, List, [], ◌∷◌, ◌++◌, length, length-append, refl, ap, ap₂, sym, ◌∙◌, arith}
use Rattle.std.proofs.Common.{get_or}
use Rattle.wu_check.specs.declared.comparing.Compared.{Compared}
use Rattle.wu_check.specs.Comparing.{are_numbers_of, compared_with, is_number_of}

and_assoc : (a b c : Bool) → ((a && b) && c) ≡ (a && (b && c))
and_assoc true b c = refl
and_assoc false b c = refl

and_true : (a : Bool) → (a && true) ≡ a
and_true true = refl
and_true false = refl

zero_more : (n : ℕ) → n + 0 ≡ n
zero_more n = omega arith

shift : (n m : ℕ) → (n + 1) + m ≡ n + (m + 1)
shift n m = omega arith

pub are_numbers-append : (terms : List (List ℕ)) (numbers : List ℕ) (place : ℕ) (xs ys : List (List ℕ))
    → are_numbers_of terms numbers place (xs ++ ys)
    ≡ (are_numbers_of terms numbers place xs && are_numbers_of terms numbers (place + length xs) ys)
are_numbers-append terms numbers place [] ys = ap (λ p. are_numbers_of terms numbers p ys) (sym (zero_more place))
are_numbers-append terms numbers place (x ∷ xs) ys =
    let here = is_number_of terms (get_or numbers place 0) x in
    let same : (place + 1) + length xs ≡ place + length (x ∷ xs) = omega arith in
    ap (λ b. here && b) (are_numbers-append terms numbers (place + 1) xs ys)
    ∙ sym (and_assoc here (are_numbers_of terms numbers (place + 1) xs) (are_numbers_of terms numbers ((place + 1) + length xs) ys))
    ∙ ap (λ p. (here && are_numbers_of terms numbers (place + 1) xs) && are_numbers_of terms numbers p ys) same

make : ℕ → Bool → Compared
make count same = record { count = count; same = same }

pub compared-append : (terms : List (List ℕ)) (numbers : List ℕ) (compared : Compared) (xs ys : List (List ℕ))
    → compared_with terms numbers compared (xs ++ ys) ≡ compared_with terms numbers (compared_with terms numbers compared xs) ys
unfolding make
compared-append terms numbers compared xs ys =
    let count : compared.count + length (xs ++ ys) ≡ (compared.count + length xs) + length ys = omega (arith, length-append xs ys) in
    let a = are_numbers_of terms numbers compared.count xs in
    let b = are_numbers_of terms numbers (compared.count + length xs) ys in
    let same : (compared.same && are_numbers_of terms numbers compared.count (xs ++ ys)) ≡ ((compared.same && a) && b) =
    ap (λ x. compared.same && x) (are_numbers-append terms numbers compared.count xs ys) ∙ sym (and_assoc compared.same a b) in
    ap₂ make count same

pub compared-none : (terms : List (List ℕ)) (numbers : List ℕ) (compared : Compared) → compared_with terms numbers compared [] ≡ compared
unfolding make
compared-none terms numbers compared = ap₂ make (zero_more compared.count) (and_true compared.same)
