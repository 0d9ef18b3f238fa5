-- Lines that are written for fields, and numbers in them, as they are read.
use Rattle.std.proofs.Common.{◌≡◌, ◌≢◌, ℕ, zero, suc, ◌+◌, ◌*◌, ◌^◌, ◌<◌, ◌≤◌, Bool, true, false, List, [], ◌∷◌, length, get_or}
use Rattle.std.proofs.Common.{Option, Some, None, decimal, refl, sym, ◌∙◌, eqb, ◌⊎◌, inl, inr, length-append, lit<, arith, rules}
use Rattle.std.specs.Char.{is_ascii_digit}
use Rattle.std.specs.List.{list_all, list_any}
use Rattle.std.specs.Str.Parse.{digits_value}
use Rattle.std.proofs.lemmas.Bool.{cases_eq, le-leb, ne_eqb}
use Rattle.std.proofs.lemmas.Fmt.{digits_decimal, digits_value-decimal, decimal_nonempty, decimal_digit, first_decimal}
use Rattle.std.proofs.lemmas.List.Folds.{list_any-append}
use Rattle.std.proofs.lemmas.Str.Parse.{IsNumeralModel, numerals_by_value}
use Rattle.wu_base.specs.declared.limits.TheConstants.{NAME_MAX, TEXT_MAX}
use Rattle.wu_export.specs.Exports.{Entry as Made, Directory, File, Link, Text}
use Rattle.wu_fields.specs.Fields.{escaped, escaped_byte, letter_of, line_of, with_letter}
use Rattle.wu_fields.specs.Numbers.{is_plain_numeral, number_of}

-- ---- what a script can say

-- the number of a node
abbrev pub IsNumber : ℕ → Type 0
IsNumber number = (1 ≤ number) × (number < 2 ^ 32)

-- what a script can say of an entry: numbers of nodes, and a name and a text that are not too long
abbrev pub IsSayable : Made → Type 0
IsSayable (Directory number parent name) = IsNumber number × IsNumber parent × (length name ≤ NAME_MAX)
IsSayable (File number parent name) = IsNumber number × IsNumber parent × (length name ≤ NAME_MAX)
IsSayable (Link number parent name) = IsNumber number × IsNumber parent × (length name ≤ NAME_MAX)
IsSayable (Text number text) = IsNumber number × (length text ≤ TEXT_MAX)

-- ---- a number that is written is read back

numerals : IsNumeralModel (λ ds. list_all is_ascii_digit ds ≡ true) (digits_value 10)
numerals = numerals_by_value _ (search rules)

unpadded : (ds : List ℕ) → 0 < length ds → get_or ds 0 0 ≢ 48 → list_all is_ascii_digit ds ≡ true → is_plain_numeral ds ≡ true
unpadded [] some nonzero digits = absurd (omega arith)
unpadded (d ∷ ds) some nonzero digits = rw (digits, ne_eqb d 48 nonzero) refl

plain : (n : ℕ) → n < 2 ^ 64 → is_plain_numeral (decimal n) ≡ true
plain zero small = rw (decimal_digit 0 (lit< tt)) refl
plain (suc n) small =
    let first = first_decimal (suc n) (omega arith) small in
    unpadded (decimal (suc n)) (decimal_nonempty (suc n) small) (λ e. absurd (omega arith)) (digits_decimal numerals (suc n) small)

pub number_read : (n most : ℕ) → n ≤ most → most < 2 ^ 64 → number_of (decimal n) most ≡ Some n
unfolding number_of
number_read n most within small = rw (plain n (omega arith), digits_value-decimal numerals n (omega arith), le-leb n most within) refl

-- ---- no LF is written for fields

abbrev pub feedless : List ℕ → Bool
feedless bytes = list_any (λ byte. eqb byte 10) bytes

feedless_by_kind : (byte : ℕ) → (byte ≡ 92) ⊎ (byte ≢ 92) → (byte ≡ 9) ⊎ (byte ≢ 9) → (byte ≡ 10) ⊎ (byte ≢ 10)
    → feedless (escaped_byte byte) ≡ false
unfolding letter_of
feedless_by_kind byte (inl e) tab feed = rw e refl
feedless_by_kind byte (inr slash) (inl e) feed = rw e refl
feedless_by_kind byte (inr slash) (inr tab) (inl e) = rw e refl
feedless_by_kind byte (inr slash) (inr tab) (inr feed) =
    rw (
      ne_eqb 92 byte (λ e. slash (sym e)),
      ne_eqb 9 byte (λ e. tab (sym e)),
      ne_eqb 10 byte (λ e. feed (sym e)),
      ne_eqb byte 10 feed,
    ) refl

feedless_field : (field : List ℕ) → feedless (escaped field) ≡ false
feedless_field [] = refl
feedless_field (byte ∷ field) =
    list_any-append (λ b. eqb b 10) (escaped_byte byte) (escaped field)
    ∙ rw (feedless_by_kind byte (cases_eq byte 92) (cases_eq byte 9) (cases_eq byte 10), feedless_field field) refl

pub feedless_line : (fields : List (List ℕ)) → feedless (line_of fields) ≡ false
feedless_line [] = refl
feedless_line (field ∷ []) = feedless_field field
feedless_line (field ∷ next ∷ fields) =
    list_any-append (λ b. eqb b 10) (escaped field) (9 ∷ line_of (next ∷ fields))
    ∙ rw (feedless_field field, feedless_line (next ∷ fields)) refl

-- ---- how long a line is

letter_length : (letter : Option ℕ) (byte : ℕ) → length (with_letter letter byte) ≤ 2
letter_length None byte = omega arith
letter_length (Some letter) byte = omega arith

escaped_length : (field : List ℕ) → length (escaped field) ≤ 2 * length field
escaped_length [] = omega arith
escaped_length (byte ∷ field) = omega (
  arith,
  length-append (escaped_byte byte) (escaped field),
  letter_length (letter_of byte) byte,
  escaped_length field,
)

-- a field takes at most two bytes for each of its own, and a TAB
pub line_length : (field : List ℕ) (fields : List (List ℕ))
    → length (line_of (field ∷ fields)) ≤ 2 * length field + 1 + length (line_of fields)
line_length field [] = omega (arith, escaped_length field)
line_length field (next ∷ fields) =
    omega (arith, length-append (escaped field) (9 ∷ line_of (next ∷ fields)), escaped_length field)
