-- How many tokens a text has at most, and how long they are.
use Rattle.std.proofs.Common.{◌≡◌, ℕ, ◌+◌, ◌*◌, ◌<◌, ◌≤◌, Bool, true, false, cond, List, [], ◌∷◌, length, filter, map, refl, sym, ◌∙◌, ap}
use Rattle.std.proofs.Common.{subst, inl, inr, arith}
use Rattle.std.specs.List.{slice_split, onto_first, flat_map, sum_by, All}
use Rattle.std.proofs.lemmas.Bool.{cases_Bool, cond-true, cond-false}
use Rattle.std.proofs.lemmas.Bool.Decides.{nat_tests}
use Rattle.std.proofs.lemmas.List.{length-map, length-append, length-take}
use Rattle.std.proofs.lemmas.List.Elements.{All-nil, All-cons, All-append, All-filter, All-map, All-weaker}
use Rattle.wu_base.specs.declared.limits.TheConstants.{WORD_MAX}
use Rattle.wu_token.specs.declared.spans.Token.{Token}
use Rattle.wu_token.specs.Words.{has_bytes, is_separator, runs_of, folded_run, word_of, words_of, IsTerm}
use Rattle.wu_token.specs.Tokens.{is_line_feed, file_start, file_end, line_start, line_end, lines_of_pieces, lines_of, line_tokens_of}
use Rattle.wu_token.specs.Tokens.{tokens_of}
use Rattle.wu_token.specs.Places.{Piece, placed, runs_at, tag_at, word_at, line_tokens_at, placed_tokens_of}
use Rattle.wu_token.specs.Pieces.{EndsBy}
use Rattle.std.proofs.lemmas.List.Sums.{sum_by-cons}
use Rattle.wu_token.proofs.PlacesLemmas.{term-placed_tokens_of, bytes-runs_at}
use Rattle.wu_token.proofs.CutLemmas.{split-cons}
use Rattle.wu_token.proofs.OwnWords.{some_word}

-- ---- at most three tokens for each byte, and two
has_bytes-cons : (byte : ℕ) (part : List ℕ) → has_bytes (byte ∷ part) ≡ true
has_bytes-cons byte part = grind (arith, nat_tests)

full-onto_first : (byte : ℕ) (parts : List (List ℕ)) → length (filter has_bytes (onto_first byte parts)) ≤ 1 + length (filter has_bytes parts)
full-onto_first byte [] = omega arith
full-onto_first byte (part ∷ parts) =
    let rest = filter has_bytes parts in
    let kept : filter has_bytes (onto_first byte (part ∷ parts)) ≡ (byte ∷ part) ∷ rest = cond-true (has_bytes (byte ∷ part)) ((byte ∷ part) ∷ rest) rest (has_bytes-cons byte part) in
    rw kept (elim (has_bytes part) as (λ b. length ((byte ∷ part) ∷ rest) ≤ 1 + length (cond b (part ∷ rest) rest)) [ true ↦ omega arith | false ↦ omega arith ])

full-slice_split : (p : ℕ → Bool) (bytes : List ℕ) → length (filter has_bytes (slice_split p bytes)) ≤ length bytes
full-slice_split p [] = omega arith
full-slice_split p (byte ∷ bytes) =
    let more = full-slice_split p bytes in
    elim (p byte) as (λ b. length (filter has_bytes (cond b ([] ∷ slice_split p bytes) (onto_first byte (slice_split p bytes)))) ≤ length (byte ∷ bytes))
    [ true ↦ omega arith | false ↦ omega (arith, full-onto_first byte (slice_split p bytes)) ]

pub length-runs_of : (line : List ℕ) → length (runs_of line) ≤ length line
unfolding runs_of
length-runs_of line = full-slice_split is_separator line

length-line_tokens_of : (line : List ℕ) → length (line_tokens_of line) ≤ 2 + length line
unfolding line_tokens_of words_of
length-line_tokens_of line =
    omega (arith, length-append (map word_of (runs_of line)) (line_end ∷ []), length-map (runs_of line) word_of, length-runs_of line)

-- what the pieces take, with a byte after each
abbrev taken : List (List ℕ) → ℕ
taken pieces = sum_by (λ piece. length piece + 1) pieces

taken-cons : (piece : List ℕ) (pieces : List (List ℕ)) → taken (piece ∷ pieces) ≡ length piece + 1 + taken pieces
taken-cons piece pieces = sum_by-cons (λ piece. length piece + 1) piece pieces

taken-onto_first : (byte : ℕ) (parts : List (List ℕ)) (first : List ℕ) (more : List (List ℕ)) → parts ≡ first ∷ more → taken (onto_first byte parts) ≡ 1 + taken parts
taken-onto_first byte parts first more e =
    ap (λ ps. taken (onto_first byte ps)) e
    ∙ (let step : taken ((byte ∷ first) ∷ more) ≡ 1 + taken (first ∷ more) =
    omega (arith, taken-cons (byte ∷ first) more, taken-cons first more) in step)
    ∙ ap (λ ps. 1 + taken ps) (sym e)

taken-slice_split : (p : ℕ → Bool) (bytes : List ℕ) → taken (slice_split p bytes) ≡ length bytes + 1
taken-slice_split p [] = refl
taken-slice_split p (byte ∷ bytes) =
    let more = taken-slice_split p bytes in
    let parts = split-cons p bytes in
    elim (p byte) as (λ b. taken (cond b ([] ∷ slice_split p bytes) (onto_first byte (slice_split p bytes))) ≡ length (byte ∷ bytes) + 1)
    [ true ↦ omega (arith, taken-cons [] (slice_split p bytes)) | false ↦ omega (arith, taken-onto_first byte (slice_split p bytes) parts.0 parts.1 parts.2) ]

length-lines_of_pieces : (pieces : List (List ℕ)) → 0 < length pieces → length (flat_map line_tokens_of (lines_of_pieces pieces)) + 3 ≤ 3 * taken pieces
length-lines_of_pieces [] h = absurd (omega arith)
length-lines_of_pieces (last ∷ []) h =
    elim (cases_Bool (has_bytes last)) [
      | inl some ↦
          let bytes : 0 < length last = grind (arith, nat_tests) in
          let lines : lines_of_pieces (last ∷ []) ≡ last ∷ [] = cond-true (has_bytes last) (last ∷ []) [] some in
          rw lines (omega (arith, length-append (line_tokens_of last) [], length-line_tokens_of last, taken-cons last []))
      | inr none ↦
          let lines : lines_of_pieces (last ∷ []) ≡ [] = cond-false (has_bytes last) (last ∷ []) [] none in
          rw lines (omega (arith, taken-cons last []))
    ]
length-lines_of_pieces (line ∷ next ∷ more) h =
    let rest = length-lines_of_pieces (next ∷ more) (omega arith) in
    omega (arith, length-append (line_tokens_of line) (flat_map line_tokens_of (lines_of_pieces (next ∷ more))), length-line_tokens_of line, taken-cons line (next ∷ more))

pub length-tokens_of : (text : List ℕ) → length (tokens_of text) ≤ 3 * length text + 2
unfolding tokens_of lines_of
length-tokens_of text =
    let pieces = slice_split is_line_feed text in
    let parts = split-cons is_line_feed text in
    let some : 0 < length pieces = rw parts.2 (omega arith) in
    omega (arith, length-append (flat_map line_tokens_of (lines_of_pieces pieces)) (file_end ∷ []), length-lines_of_pieces pieces some, taken-slice_split is_line_feed text)

pub length-placed_tokens_of : (text : List ℕ) → length (placed_tokens_of text) ≡ length (tokens_of text)
length-placed_tokens_of text =
    sym (length-map (placed_tokens_of text) (λ token. token.term)) ∙ ap length (term-placed_tokens_of text)

-- ---- each has 1 to WORD_MAX bytes
All-filter_passes : {X : Type 0} (p : X → Bool) (xs : List X) → All (λ x. p x ≡ true) (filter p xs)
All-filter_passes p [] = All-nil (λ x. p x ≡ true)
All-filter_passes {X} p (x ∷ xs) =
    let P : X → Type 0 = λ x. p x ≡ true in
    elim (cases_Bool (p x)) [
      | inl yes' ↦ subst (All P) (sym (cond-true (p x) (x ∷ filter p xs) (filter p xs) yes')) (All-cons P x (filter p xs) yes' (All-filter_passes p xs))
      | inr no' ↦ subst (All P) (sym (cond-false (p x) (x ∷ filter p xs) (filter p xs) no')) (All-filter_passes p xs)
    ]

IsTerm-word_of : (run : List ℕ) → has_bytes run ≡ true → IsTerm (word_of run)
unfolding word_of
IsTerm-word_of run some =
    let bytes : 0 < length run = grind (arith, nat_tests) in
    let len = length-take WORD_MAX (folded_run run) in
    let least = some_word run bytes in
    (omega arith, omega arith)

pub IsTerm-words_of : (bytes : List ℕ) → All IsTerm (words_of bytes)
unfolding words_of runs_of
IsTerm-words_of bytes =
    All-map IsTerm word_of (runs_of bytes)
    (All-weaker (λ run. has_bytes run ≡ true) (λ run. IsTerm (word_of run)) IsTerm-word_of (runs_of bytes)
    (All-filter_passes has_bytes (slice_split is_separator bytes)))

abbrev HasTerm : Token → Type 0
HasTerm token = IsTerm token.term

IsTerm-tags : IsTerm file_start × IsTerm file_end × IsTerm line_start × IsTerm line_end
unfolding file_start file_end line_start line_end
IsTerm-tags = ((omega arith, omega arith), (omega arith, omega arith), (omega arith, omega arith), (omega arith, omega arith))

HasTerm-line_tokens_at : (line : Piece) → All HasTerm (line_tokens_at line)
unfolding line_tokens_at runs_at tag_at word_at
HasTerm-line_tokens_at line =
    let keeps : Piece → Bool = λ run. has_bytes run.bytes in
    let runs = All-filter_passes keeps (placed line.start (slice_split is_separator line.bytes)) in
    let words = All-map HasTerm word_at (runs_at line) (All-weaker (λ run. keeps run ≡ true) (λ run. IsTerm (word_of run.bytes)) (λ run some. IsTerm-word_of run.bytes some) (runs_at line) runs) in
    All-cons HasTerm _ _ IsTerm-tags.2 (All-append HasTerm (map word_at (runs_at line)) _ words (All-cons HasTerm _ [] IsTerm-tags.3 (All-nil HasTerm)))

HasTerm-lines : (lines : List Piece) → All HasTerm (flat_map line_tokens_at lines)
HasTerm-lines [] = All-nil HasTerm
HasTerm-lines (line ∷ more) =
    All-append HasTerm (line_tokens_at line) (flat_map line_tokens_at more) (HasTerm-line_tokens_at line) (HasTerm-lines more)

pub HasTerm-placed_tokens_of : (text : List ℕ) → All (λ token. IsTerm token.term) (placed_tokens_of text)
unfolding placed_tokens_of tag_at
HasTerm-placed_tokens_of text =
    All-cons HasTerm _ _ IsTerm-tags.0
    (All-append HasTerm (flat_map line_tokens_at (placed 0 (lines_of text))) _
    (HasTerm-lines (placed 0 (lines_of text)))
    (All-cons HasTerm _ [] IsTerm-tags.1 (All-nil HasTerm)))

pub IsTerm-tokens_of : (text : List ℕ) → All IsTerm (tokens_of text)
IsTerm-tokens_of text =
    subst (All IsTerm) (term-placed_tokens_of text) (All-map IsTerm (λ token. token.term) (placed_tokens_of text) (HasTerm-placed_tokens_of text))

pub length-runs_at : (line : Piece) → length (runs_at line) ≤ length line.bytes
length-runs_at line =
    omega (arith, length-map (runs_at line) (λ run. run.bytes), ap length (bytes-runs_at line), length-runs_of line.bytes)

pub length-line_tokens_at : (line : Piece) → length (line_tokens_at line) ≡ 2 + length (runs_at line)
unfolding line_tokens_at
length-line_tokens_at line =
    omega (arith, length-append (map word_at (runs_at line)) (tag_at line_end (line.start + length line.bytes) ∷ []), length-map (runs_at line) word_at)

length-placed : (text : List ℕ) → 2 + length (flat_map line_tokens_at (placed 0 (lines_of text))) ≡ length (placed_tokens_of text)
unfolding placed_tokens_of
length-placed text =
    omega (arith, length-append (flat_map line_tokens_at (placed 0 (lines_of text))) (tag_at file_end (length text) ∷ []))

pub length-text : (text : List ℕ) → 2 + length (flat_map line_tokens_at (placed 0 (lines_of text))) ≡ length (tokens_of text)
length-text text = length-placed text ∙ length-placed_tokens_of text

-- ---- no piece ends after what it was cut from
abbrev IsBefore : ℕ → Piece → Type 0
IsBefore end piece = piece.start + length piece.bytes + 1 ≤ end

before-placed : (start : ℕ) (pieces : List (List ℕ)) → All (IsBefore (start + taken pieces)) (placed start pieces)
before-placed start [] = All-nil (IsBefore (start + taken []))
before-placed start (piece ∷ pieces) =
    let end : start + length piece + 1 + taken pieces ≡ start + taken (piece ∷ pieces) = omega (arith, taken-cons piece pieces) in
    let later = start + length piece + 1 in
    let more = subst (λ n. All (IsBefore n) (placed later pieces)) end (before-placed later pieces) in
    All-cons (IsBefore (start + taken (piece ∷ pieces))) _ _ (omega (arith, taken-cons piece pieces)) more

before-lines : (start : ℕ) (pieces : List (List ℕ)) → All (IsBefore (start + taken pieces)) (placed start (lines_of_pieces pieces))
before-lines start [] = All-nil (IsBefore (start + taken []))
before-lines start (last ∷ []) =
    elim (has_bytes last) as (λ b. All (IsBefore (start + taken (last ∷ []))) (placed start (cond b (last ∷ []) []))) [
      | true ↦ before-placed start (last ∷ [])
      | false ↦ All-nil (IsBefore (start + taken (last ∷ [])))
    ]
before-lines start (line ∷ next ∷ more) =
    let end : start + length line + 1 + taken (next ∷ more) ≡ start + taken (line ∷ next ∷ more) =
    omega (arith, taken-cons line (next ∷ more)) in
    let others = before-lines (start + length line + 1) (next ∷ more) in
    let later = subst (λ n. All (IsBefore n) (placed (start + length line + 1) (lines_of_pieces (next ∷ more)))) end others in
    All-cons (IsBefore (start + taken (line ∷ next ∷ more))) _ _ (omega (arith, taken-cons line (next ∷ more))) later

pub within-lines : (text : List ℕ) → All (EndsBy (length text)) (placed 0 (lines_of text))
unfolding lines_of
within-lines text =
    let pieces = slice_split is_line_feed text in
    let total = taken-slice_split is_line_feed text in
    All-weaker (IsBefore (0 + taken pieces)) (EndsBy (length text)) (λ piece before. omega arith) _ (before-lines 0 pieces)

pub within-runs : (line : Piece) → All (EndsBy (line.start + length line.bytes)) (runs_at line)
unfolding runs_at
within-runs line =
    let pieces = slice_split is_separator line.bytes in
    let total = taken-slice_split is_separator line.bytes in
    All-filter (λ run. has_bytes run.bytes) (EndsBy (line.start + length line.bytes)) _
    (All-weaker (IsBefore (line.start + taken pieces)) (EndsBy (line.start + length line.bytes)) (λ piece before. omega arith) _
    (before-placed line.start pieces))
