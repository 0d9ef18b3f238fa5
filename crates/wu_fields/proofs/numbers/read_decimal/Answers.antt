use Rattle.std.proofs.Common.{◌≡◌, ℕ, ◌^◌, ◌<◌, ◌≤◌, Bool, true, false, List, length, get_or, Option, Some, None, IfSome, decimal, nat_le}
use Rattle.std.proofs.Common.{◌&&◌, if◌then◌else◌, refl, sym, arith, rules}
use Rattle.std.proofs.lemmas.Bool.{and_parts, leb-true}
use Rattle.std.proofs.lemmas.Fmt.{decimal-digits_value}
use Rattle.std.proofs.lemmas.Str.Parse.{IsNumeralModel, numerals_by_value}
use Rattle.std.specs.Char.{is_ascii_digit}
use Rattle.std.specs.List.{list_all}
use Rattle.std.specs.Str.Parse.{digits_value}
use Rattle.wu_fields.proofs.numbers.read_decimal.Goals as goal

numerals : IsNumeralModel (λ ds. list_all is_ascii_digit ds ≡ true) (digits_value 10)
numerals = numerals_by_value _ (search rules)

chosen : (b : Bool) (v n : ℕ) → Some n ≡ (if b then Some v else None) → (b ≡ true) × (n ≡ v)
chosen true v n e = (refl, cc)
chosen false v n e = cc

printed : (field : List ℕ) (max : ℕ) (r : Option ℕ) → max < 2 ^ 64 → 0 < length field → (get_or field 0 0 ≡ 48 → length field ≡ 1)
    → r ≡ (if list_all is_ascii_digit field && nat_le (digits_value 10 field) max then Some (digits_value 10 field) else None)
    → IfSome r (λ n. field ≡ decimal n)
printed field max None small some plain e = tt
printed field max (Some n) small some plain e =
    let picked = chosen (list_all is_ascii_digit field && nat_le (digits_value 10 field) max) (digits_value 10 field) n e in
    let tests = and_parts (list_all is_ascii_digit field) (nat_le (digits_value 10 field) max) picked.0 in
    let within : digits_value 10 field ≤ max = leb-true _ _ tests.1 in
    rw picked.1 (sym (decimal-digits_value numerals field tests.0 some plain (omega arith)))

pub returns-clause-spelled : goal.returns-clause-spelled
returns-clause-spelled c =
    let unpadded = c.if-is_padded.ensures in
    printed c.args.field.now c.args.max _ (omega arith) unpadded.0 unpadded.1 c.number_up_to.ensures.value
