-- What the iterators over lines and runs give.
use Rattle.std.specs.Prelude.{◌≡◌, ℕ, ◌+◌, ◌-◌, ◌≤◌, ◌==◌, List, [], ◌∷◌, ◌++◌, length, take, map, slice_index, Option, if◌then◌else◌}
use Rattle.std.specs.List.{flat_map}
use Rattle.std.specs.Iterator.{YieldsFirstBy}
use Rattle.wu_token.specs.declared.pieces.Piece.{Piece as LentPiece}
use Rattle.wu_token.specs.Words.{word_of}
use Rattle.wu_token.specs.Tokens.{file_start, file_end, line_start, line_end, lines_of, tokens_of}
use Rattle.wu_token.specs.Places.{Piece, placed, runs_at}

-- the piece, without the loan of its bytes
abbrev pub piece_of : LentPiece → Piece
piece_of piece = record { start = piece.start; bytes = piece.bytes.now }

-- the place after its last byte
abbrev pub end_of : LentPiece → ℕ
end_of piece = piece.start + length piece.bytes.now

-- the piece ends at that place or before
abbrev pub EndsBy : ℕ → Piece → Type 0
EndsBy end piece = piece.start + length piece.bytes ≤ end

-- of the pieces that were left a call gave the first
abbrev pub YieldsPiece : List Piece → Option LentPiece → List Piece → Type 0
YieldsPiece = YieldsFirstBy piece_of (λ left. left)

-- a line without the line feed at its end, if it has one
abbrev pub without_line_feed : List ℕ → List ℕ
without_line_feed line = if slice_index line (length line - 1) == 10 then take (length line - 1) line else line

-- lines that keep their line feeds, the first from that place on, as pieces without them
abbrev pub stripped : ℕ → List (List ℕ) → List Piece
stripped start [] = []
stripped start (line ∷ more) = record { start = start; bytes = without_line_feed line } ∷ stripped (start + length line) more

-- the terms of a line: `<line>`, the words of its runs, `</line>`
abbrev pub line_terms : Piece → List (List ℕ)
line_terms line = line_start ∷ (map (λ run. word_of run.bytes) (runs_at line) ++ line_end ∷ [])

-- The lines, runs and words of a text give its tokens' terms, in order.
abbrev pub GiveTheTerms : Type 0
GiveTheTerms = (text : List ℕ) → tokens_of text ≡ file_start ∷ (flat_map line_terms (placed 0 (lines_of text)) ++ file_end ∷ [])
