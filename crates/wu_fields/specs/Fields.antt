-- The fields of a line. TABs stand between them; in a field a backslash, a TAB and an LF are written as a backslash
-- and a letter, and every other byte as itself.
use Rattle.std.specs.Prelude.{ℕ, List, [], ◌∷◌, Option, Some, None, ◌==◌, if◌then◌else◌, map, option_and_then}
use Rattle.std.specs.List.{find, flat_map, slice_split, join_with_byte}
use Rattle.std.specs.Option.{option_map}

-- the bytes that are escaped, each with the letter that stands for it after a backslash: \\, \t and \n
abbrev pub escapes : List (ℕ × ℕ)
escapes = (92, 92) ∷ (9, 116) ∷ (10, 110) ∷ []

-- the letter that stands for the byte, if it is escaped
unfoldable pub letter_of : ℕ → Option ℕ
letter_of byte = option_map (λ e. e.1) (find (λ e. e.0 == byte) escapes)

-- the byte that the letter stands for, if it stands for one
unfoldable pub byte_of : ℕ → Option ℕ
byte_of letter = option_map (λ e. e.0) (find (λ e. e.1 == letter) escapes)

-- a backslash and the letter, or the byte itself where there is no letter for it
abbrev pub with_letter : Option ℕ → ℕ → List ℕ
with_letter None byte = byte ∷ []
with_letter (Some letter) byte = 92 ∷ letter ∷ []

-- the bytes that are written for one byte of a field
abbrev pub escaped_byte : ℕ → List ℕ
escaped_byte byte = with_letter (letter_of byte) byte

-- the bytes that are written for a field
abbrev pub escaped : List ℕ → List ℕ
escaped field = flat_map escaped_byte field

-- the field that these bytes are written for, if they are for one: a backslash and the letter after it are the letter's
-- byte, and every other byte is itself
abbrev pub unescaped : List ℕ → Option (List ℕ)
unescaped [] = Some []
unescaped (byte ∷ []) = if byte == 92 then None else Some (byte ∷ [])
unescaped (byte ∷ next ∷ rest) =
    if byte == 92 then
    option_and_then (λ meant. option_map (λ field. meant ∷ field) (unescaped rest)) (byte_of next)
    else
    option_map (λ field. byte ∷ field) (unescaped (next ∷ rest))

-- the values, if each is there
abbrev pub all_some : {A : Type 0} → List (Option A) → Option (List A)
all_some [] = Some []
all_some (None ∷ options) = None
all_some (Some value ∷ options) = option_map (λ values. value ∷ values) (all_some options)

-- the fields of a line, if each is one
unfoldable pub fields_of : List ℕ → Option (List (List ℕ))
fields_of line = all_some (map unescaped (slice_split (λ byte. byte == 9) line))

-- the line that is written for the fields
abbrev pub line_of : List (List ℕ) → List ℕ
line_of fields = join_with_byte 9 (map escaped fields)
