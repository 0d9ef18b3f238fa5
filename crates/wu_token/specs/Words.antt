-- The words of a byte string: its maximal runs of ASCII letters, ASCII digits and bytes of 0x80 and above, each without
-- differences of case and cut to WORD_MAX bytes.
-- Case goes by full default case folding: toCasefold of the default case algorithms of The Unicode Standard, over the text
-- at the front of a run. Bytes that are not UTF-8 have no letters but those of ASCII. Which bytes make words is this project's own choice.
use Rattle.std.specs.Prelude.{◌≡◌, ℕ, ◌≤◌, Bool, List, [], ◌∷◌, ◌++◌, ◌||◌, ◌==◌, nat_le, not, filter, map, take, drop, length, All, chars}
use Rattle.std.specs.Prelude.{encode_utf8_all}
use Rattle.std.specs.List.{slice_split}
use Rattle.std.specs.Char.{is_ascii_alphanumeric}
use Rattle.std.specs.Str.{str_to_ascii_lowercase}
use Rattle.std.specs.Str.Lossy.{utf8_valid_len}
use Rattle.caseless.specs.Caseless.{default_case_fold}
use Rattle.wu_base.specs.declared.limits.TheConstants.{WORD_MAX}

-- the byte is an ASCII letter, an ASCII digit, or 0x80 and above
abbrev pub is_word_byte : ℕ → Bool
is_word_byte byte = is_ascii_alphanumeric byte || nat_le 128 byte

-- the byte belongs to no word
abbrev pub is_separator : ℕ → Bool
is_separator byte = not (is_word_byte byte)

-- there is at least one byte
abbrev pub has_bytes : List ℕ → Bool
has_bytes bytes = not (length bytes == 0)

-- the maximal runs of word bytes: what lies between one separator and the next, where anything does
unfoldable pub runs_of : List ℕ → List (List ℕ)
runs_of bytes = filter has_bytes (slice_split is_separator bytes)

-- the text folded, in UTF-8
unfoldable pub folded_text : List ℕ → List ℕ
folded_text text = encode_utf8_all (default_case_fold (chars text))

-- the longest front of a run that is UTF-8 folded, and the rest with ASCII letters in lower case
unfoldable pub folded_run : List ℕ → List ℕ
folded_run run = let n = utf8_valid_len run in folded_text (take n run) ++ str_to_ascii_lowercase (drop n run)

-- the word of a run: its first WORD_MAX bytes once it is folded
unfoldable pub word_of : List ℕ → List ℕ
word_of run = take WORD_MAX (folded_run run)

-- the words of a byte string, in order
unfoldable pub words_of : List ℕ → List (List ℕ)
words_of bytes = map word_of (runs_of bytes)

-- a word or a tag has 1 to WORD_MAX bytes
abbrev pub IsTerm : List ℕ → Type 0
IsTerm term = (1 ≤ length term) × (length term ≤ WORD_MAX)

-- Each word of a byte string, taken as a byte string, has one word: itself.
abbrev pub EachWordIsItsOwn : Type 0
EachWordIsItsOwn = (bytes : List ℕ) → All (λ word. words_of word ≡ word ∷ []) (words_of bytes)
