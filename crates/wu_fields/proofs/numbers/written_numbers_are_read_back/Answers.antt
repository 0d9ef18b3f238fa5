use Rattle.std.proofs.Common.{◌≡◌, ◌≢◌, ℕ, zero, suc, ◌^◌, ◌<◌, true, List, [], ◌∷◌, length, get_or, decimal, refl, lit<, arith, rules}
use Rattle.std.proofs.lemmas.Fmt.{digits_decimal, digits_value-decimal, decimal_nonempty, decimal_digit, first_decimal}
use Rattle.std.proofs.lemmas.Str.Parse.{IsNumeralModel, numerals_by_value}
use Rattle.std.specs.Char.{is_ascii_digit}
use Rattle.std.specs.List.{list_all}
use Rattle.std.specs.Str.Parse.{digits_value}
use Rattle.wu_fields.specs.Numbers.{is_plain_numeral, number_of}
use Rattle.std.proofs.lemmas.Bool.{ne_eqb}
use Rattle.wu_fields.proofs.numbers.written_numbers_are_read_back.Goals as goal

numerals : IsNumeralModel (λ ds. list_all is_ascii_digit ds ≡ true) (digits_value 10)
numerals = numerals_by_value _ (search rules)

unpadded : (ds : List ℕ) → 0 < length ds → get_or ds 0 0 ≢ 48 → list_all is_ascii_digit ds ≡ true → is_plain_numeral ds ≡ true
unpadded [] some nonzero digits = absurd (omega arith)
unpadded (d ∷ ds) some nonzero digits = rw (digits, ne_eqb d 48 nonzero) refl

plain : (n : ℕ) → n < 2 ^ 64 → is_plain_numeral (decimal n) ≡ true
plain zero small = rw (decimal_digit 0 (lit< tt)) refl
plain (suc n) small =
    let first = first_decimal (suc n) (omega arith) small in
    unpadded (decimal (suc n)) (decimal_nonempty (suc n) small) (λ e. absurd (omega arith)) (digits_decimal numerals (suc n) small)

pub returns : goal.returns
unfolding number_of
returns c =
    let n = c.args.number in
    let small : n < 2 ^ 64 = omega arith in
    rw (plain n small, digits_value-decimal numerals n small) refl
