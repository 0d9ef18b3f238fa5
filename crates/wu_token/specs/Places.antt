-- The tokens of a text with their places in it.
use Rattle.std.specs.Prelude.{ℕ, ◌+◌, List, [], ◌∷◌, ◌++◌, filter, map, length}
use Rattle.std.specs.List.{slice_split, flat_map}
use Rattle.wu_token.specs.declared.spans.Token.{Token}
use Rattle.wu_token.specs.Words.{has_bytes, is_separator, word_of}
use Rattle.wu_token.specs.Tokens.{file_start, file_end, line_start, line_end, lines_of}

-- a line or a run, and the place of its first byte in the text
pub record Piece : Type 0 where
  pub start : ℕ
  pub bytes : List ℕ

-- the pieces from a place on, where one byte lies between a piece and the next
abbrev pub placed : ℕ → List (List ℕ) → List Piece
placed start [] = []
placed start (bytes ∷ more) = record { start = start; bytes = bytes } ∷ placed (start + length bytes + 1) more

-- the runs of a line
unfoldable pub runs_at : Piece → List Piece
runs_at line = filter (λ run. has_bytes run.bytes) (placed line.start (slice_split is_separator line.bytes))

-- a tag takes no byte
unfoldable pub tag_at : List ℕ → ℕ → Token
tag_at tag place = record { term = tag; start = place; end = place }

-- a word takes the bytes of its whole run
unfoldable pub word_at : Piece → Token
word_at run = record { term = word_of run.bytes; start = run.start; end = run.start + length run.bytes }

-- the tokens of a line: it starts at its first byte, and ends after its last
unfoldable pub line_tokens_at : Piece → List Token
line_tokens_at line = tag_at line_start line.start ∷ (map word_at (runs_at line) ++ tag_at line_end (line.start + length line.bytes) ∷ [])

-- the tokens of a text
unfoldable pub placed_tokens_of : List ℕ → List Token
placed_tokens_of text = tag_at file_start 0 ∷ (flat_map line_tokens_at (placed 0 (lines_of text)) ++ tag_at file_end (length text) ∷ [])
