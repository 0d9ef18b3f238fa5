-- The terms of the tokens with their places are the tokens of the text.
use Rattle.std.proofs.Common.{◌≡◌, ℕ, ◌+◌, true, false, cond, List, [], ◌∷◌, ◌++◌, length, filter, map, refl, sym, ◌∙◌, ap, ap₂}
use Rattle.std.specs.List.{slice_split, flat_map}
use Rattle.std.proofs.lemmas.List.{map-append}
use Rattle.wu_token.specs.declared.spans.Token.{Token}
use Rattle.wu_token.specs.Words.{has_bytes, is_separator, runs_of, word_of, words_of}
use Rattle.wu_token.specs.Tokens.{file_start, file_end, line_start, line_end, lines_of, line_tokens_of, tokens_of}
use Rattle.wu_token.specs.Places.{Piece, placed, runs_at, tag_at, word_at, line_tokens_at, placed_tokens_of}
use Rattle.wu_token.specs.Pieces.{line_terms, GiveTheTerms}

abbrev bytes_of : Piece → List ℕ
bytes_of piece = piece.bytes

abbrev term_of : Token → List ℕ
term_of token = token.term

bytes-placed : (start : ℕ) (parts : List (List ℕ)) → map bytes_of (placed start parts) ≡ parts
bytes-placed start [] = refl
bytes-placed start (part ∷ more) = ap (λ rest. part ∷ rest) (bytes-placed (start + length part + 1) more)

bytes-filter : (pieces : List Piece) → map bytes_of (filter (λ p. has_bytes p.bytes) pieces) ≡ filter has_bytes (map bytes_of pieces)
bytes-filter [] = refl
bytes-filter (piece ∷ more) =
    let kept = filter (λ p. has_bytes p.bytes) more in
    let same = filter has_bytes (map bytes_of more) in
    elim (has_bytes piece.bytes) as (λ b. map bytes_of (cond b (piece ∷ kept) kept) ≡ cond b (piece.bytes ∷ same) same)
    [ true ↦ ap (λ rest. piece.bytes ∷ rest) (bytes-filter more) | false ↦ bytes-filter more ]

pub bytes-runs_at : (line : Piece) → map (λ run. run.bytes) (runs_at line) ≡ runs_of line.bytes
unfolding runs_at runs_of
bytes-runs_at line =
    bytes-filter (placed line.start (slice_split is_separator line.bytes)) ∙ ap (filter has_bytes) (bytes-placed line.start (slice_split is_separator line.bytes))

term-words : (runs : List Piece) → map term_of (map word_at runs) ≡ map word_of (map bytes_of runs)
unfolding word_at
term-words [] = refl
term-words (run ∷ more) = ap (λ rest. word_of run.bytes ∷ rest) (term-words more)

term-line_tokens_at : (line : Piece) → map term_of (line_tokens_at line) ≡ line_tokens_of line.bytes
unfolding line_tokens_at line_tokens_of tag_at words_of
term-line_tokens_at line =
    ap (λ rest. line_start ∷ rest)
    (map-append term_of (map word_at (runs_at line)) _ ∙ ap (λ words. words ++ line_end ∷ []) (term-words (runs_at line) ∙ ap (map word_of) (bytes-runs_at line)))

term-lines : (lines : List Piece) → map term_of (flat_map line_tokens_at lines) ≡ flat_map line_tokens_of (map bytes_of lines)
term-lines [] = refl
term-lines (line ∷ more) =
    map-append term_of (line_tokens_at line) (flat_map line_tokens_at more) ∙ ap₂ ◌++◌ (term-line_tokens_at line) (term-lines more)

pub term-placed_tokens_of : (text : List ℕ) → map (λ token. token.term) (placed_tokens_of text) ≡ tokens_of text
unfolding placed_tokens_of tokens_of tag_at
term-placed_tokens_of text =
    ap (λ rest. file_start ∷ rest)
    (map-append term_of (flat_map line_tokens_at (placed 0 (lines_of text))) _
    ∙ ap (λ terms. terms ++ file_end ∷ [])
    (term-lines (placed 0 (lines_of text)) ∙ ap (flat_map line_tokens_of) (bytes-placed 0 (lines_of text))))

words-placed : (runs : List Piece) → map (λ run. word_of run.bytes) runs ≡ map word_of (map bytes_of runs)
words-placed [] = refl
words-placed (run ∷ more) = ap (λ rest. word_of run.bytes ∷ rest) (words-placed more)

pub words-runs_at : (line : Piece) → map (λ run. word_of run.bytes) (runs_at line) ≡ words_of line.bytes
unfolding words_of
words-runs_at line = words-placed (runs_at line) ∙ ap (map word_of) (bytes-runs_at line)

-- ---- the terms by lines and runs
terms-line : (line : Piece) → line_terms line ≡ line_tokens_of line.bytes
unfolding line_tokens_of
terms-line line = ap (λ words. line_start ∷ (words ++ line_end ∷ [])) (words-runs_at line)

terms-lines : (lines : List Piece) → flat_map line_terms lines ≡ flat_map line_tokens_of (map bytes_of lines)
terms-lines [] = refl
terms-lines (line ∷ more) = ap₂ ◌++◌ (terms-line line) (terms-lines more)

pub tokens_of-pieces : GiveTheTerms
unfolding tokens_of
tokens_of-pieces text =
    ap (λ terms. file_start ∷ (terms ++ file_end ∷ []))
    (ap (flat_map line_tokens_of) (sym (bytes-placed 0 (lines_of text))) ∙ sym (terms-lines (placed 0 (lines_of text))))
