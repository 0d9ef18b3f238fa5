-- Numbers in a field of a line: in decimal without leading zeros, and modes in octal.
use Rattle.std.specs.Prelude.{ℕ, Bool, false, List, [], ◌∷◌, Option, Some, None, ◌&&◌, ◌||◌, ◌==◌, nat_lt, nat_le, not, length}
use Rattle.std.specs.Prelude.{if◌then◌else◌}
use Rattle.std.specs.Char.{is_ascii_digit}
use Rattle.std.specs.Str.Parse.{digits_value}
use Rattle.std.specs.List.{list_all}

-- one digit or more, and no zero before another digit
abbrev pub is_plain_numeral : List ℕ → Bool
is_plain_numeral [] = false
is_plain_numeral (digit ∷ digits) = list_all is_ascii_digit (digit ∷ digits) && (not (digit == 48) || length digits == 0)

-- the number that the field spells, where it spells one of at most max
unfoldable pub number_of : List ℕ → ℕ → Option ℕ
number_of field max = if is_plain_numeral field && nat_le (digits_value 10 field) max then Some (digits_value 10 field) else None

-- the byte is a digit from 0 to 7
abbrev pub is_octal_digit : ℕ → Bool
is_octal_digit byte = nat_le 48 byte && nat_lt byte 56

-- the mode that three or four octal digits spell
unfoldable pub mode_of : List ℕ → Option ℕ
mode_of field = if (length field == 3 || length field == 4) && list_all is_octal_digit field then Some (digits_value 8 field) else None
