-- The tokens of a text: `<file>`, then for each line `<line>`, its words and `</line>`, last `</file>`.
-- Tags take places among the words, as in Clarke, Cormack and Burkowski, The Computer Journal 38(1), 1995. Lines are those
-- of POSIX.1, with an incomplete line at the end.
use Rattle.std.specs.Prelude.{ℕ, Bool, List, [], ◌∷◌, ◌++◌, ◌==◌, if◌then◌else◌, codes}
use Rattle.std.specs.List.{slice_split, flat_map}
use Rattle.wu_token.specs.Words.{has_bytes, words_of}

unfoldable pub file_start : List ℕ
file_start = codes "<file>"

unfoldable pub file_end : List ℕ
file_end = codes "</file>"

unfoldable pub line_start : List ℕ
line_start = codes "<line>"

unfoldable pub line_end : List ℕ
line_end = codes "</line>"

-- the byte ends a line
abbrev pub is_line_feed : ℕ → Bool
is_line_feed byte = byte == 10

-- of what lies between line feeds each piece is a line, but the last only if it has bytes
abbrev pub lines_of_pieces : List (List ℕ) → List (List ℕ)
lines_of_pieces [] = []
lines_of_pieces (last ∷ []) = if has_bytes last then last ∷ [] else []
lines_of_pieces (line ∷ next ∷ more) = line ∷ lines_of_pieces (next ∷ more)

-- the lines of a text, without their line feeds
unfoldable pub lines_of : List ℕ → List (List ℕ)
lines_of text = lines_of_pieces (slice_split is_line_feed text)

-- the tokens of a line
unfoldable pub line_tokens_of : List ℕ → List (List ℕ)
line_tokens_of line = line_start ∷ (words_of line ++ line_end ∷ [])

-- the tokens of a text
unfoldable pub tokens_of : List ℕ → List (List ℕ)
tokens_of text = file_start ∷ (flat_map line_tokens_of (lines_of text) ++ file_end ∷ [])
