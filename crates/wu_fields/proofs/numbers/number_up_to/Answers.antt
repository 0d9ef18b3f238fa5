use Rattle.std.proofs.Common.{◌≡◌, ℕ, ◌+◌, ◌-◌, ◌*◌, ◌<◌, true, List, length, get_or, take, arith, rules}
use Rattle.std.proofs.lemmas.Bool.Decides.{nat_tests}
use Rattle.std.proofs.lemmas.Bool.{and_right}
use Rattle.std.proofs.lemmas.Int.Digits.{digits_value_more}
use Rattle.std.proofs.lemmas.List.Folds.{list_all_more}
use Rattle.std.proofs.lemmas.Str.Parse.{digits_value-take-le}
use Rattle.std.specs.Char.{is_ascii_digit, digit_value}
use Rattle.std.specs.List.{list_all}
use Rattle.std.specs.Str.Parse.{digits_value}
use Rattle.wu_fields.proofs.numbers.number_up_to.Goals as goal

next_value : (ds : List ℕ) (i number : ℕ) → i < length ds → is_ascii_digit (get_or ds i 0) ≡ true
    → number ≡ digits_value 10 (take i ds) → digits_value 10 (take (i + 1) ds) ≡ number * 10 + (get_or ds i 0 - 48)
next_value ds i number inside digit value =
    let worth : digit_value (get_or ds i 0) ≡ get_or ds i 0 - 48 = grind (arith, nat_tests) in
    rw (digits_value_more 10 ds i inside, worth, value)

next_digits : (ds : List ℕ) (i : ℕ) → i < length ds → is_ascii_digit (get_or ds i 0) ≡ true → list_all is_ascii_digit (take i ds) ≡ true → list_all is_ascii_digit (take (i + 1) ds) ≡ true
next_digits ds i inside digit before = rw (list_all_more is_ascii_digit ds i 0 inside, before, digit)

pub returns-in-None : goal.returns-in-None
returns-in-None c =
    let digits = c.args.digits.now in
    let next = next_value digits _ _ c.loop-byte-test.true (search rules) c.loop-byte.invariant.value in
    let most = digits_value-take-le 10 digits (c.loop-byte.byte-index + 1) (omega arith) in
    let large : c.args.max < digits_value 10 digits = grind arith in
    grind (arith, nat_tests, and_right)

pub loop-byte-preserved : goal.loop-byte-preserved
loop-byte-preserved c =
    let digits = c.args.digits.now in
    let next = next_value digits _ _ c.loop-byte-test.true (search rules) c.loop-byte.invariant.value in
    record {
      digits = next_digits digits _ c.loop-byte-test.true (search rules) c.loop-byte.invariant.digits;
      value = grind arith;
    }
