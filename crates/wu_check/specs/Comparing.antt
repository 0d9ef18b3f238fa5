-- How a text's tokens are compared with the numbers that a part has at the addresses of its range:
-- a number above 0 is that of a term, counted from 1.
use Rattle.std.specs.Prelude.{ℕ, ◌+◌, ◌-◌, ◌&&◌, Bool, true, nat_eq, nat_lt, List, [], ◌∷◌, get_or, length}
use Rattle.std.specs.Cmp.Lexicographic.{pointwise}
use Rattle.wu_check.specs.declared.comparing.Compared.{Compared}

-- the number is that of the term
abbrev pub is_number_of : List (List ℕ) → ℕ → List ℕ → Bool
is_number_of terms number term = nat_lt 0 number && pointwise nat_eq (get_or terms (number - 1) []) term

-- the numbers from the place on are those of the tokens
abbrev pub are_numbers_of : List (List ℕ) → List ℕ → ℕ → List (List ℕ) → Bool
are_numbers_of terms numbers place [] = true
are_numbers_of terms numbers place (token ∷ tokens) =
    is_number_of terms (get_or numbers place 0) token && are_numbers_of terms numbers (place + 1) tokens

-- the same with these tokens compared too
abbrev pub compared_with : List (List ℕ) → List ℕ → Compared → List (List ℕ) → Compared
compared_with terms numbers compared tokens = record {
  count = compared.count + length tokens;
  same = compared.same && are_numbers_of terms numbers compared.count tokens;
}
