-- Lines with their numbers and addresses, and the first of them that meets an extent.
use Rattle.std.proofs.Common.{◌≡◌, ℕ, ◌+◌, ◌^◌, ◌<◌, ◌≤◌, true, false, ◌&&◌, nat_le, List, [], ◌∷◌, Option, Some, None, length, filter, map}
use Rattle.std.proofs.Common.{refl, ap, subst, inl, inr, arith}
use Rattle.std.specs.List.{flat_map}
use Rattle.std.proofs.lemmas.Bool.{cases_Bool, cond-false}
use Rattle.std.proofs.lemmas.Bool.Decides.{nat_tests}
use Rattle.std.proofs.lemmas.List.{length-map, length-append}
use Rattle.wu_base.specs.declared.addresses.Extent.{Extent}
use Rattle.wu_base.specs.declared.limits.TheConstants.{TEXT_MAX}
use Rattle.wu_token.specs.Words.{runs_of, word_of, words_of}
use Rattle.wu_token.specs.Tokens.{line_end, lines_of, line_tokens_of, tokens_of, file_end}
use Rattle.wu_token.specs.Places.{Piece, placed, runs_at}
use Rattle.wu_token.proofs.PlacesLemmas.{bytes-runs_at}
use Rattle.wu_token.proofs.LengthLemmas.{length-tokens_of}
use Rattle.wu_snip.specs.declared.numbered.NumberedLine.{NumberedLine}
use Rattle.wu_snip.specs.Snippets.{Line, numbered, meets, first_shown}
use Rattle.wu_snip.specs.Walks.{Left, Fits, bytes_of, held, AgreeFrom, Reaches, shown}

-- the tokens of a line are its words and two tags
pub length-line_tokens_of : (line : Piece) → 2 + length (runs_at line) ≡ length (line_tokens_of line.bytes)
unfolding line_tokens_of words_of
length-line_tokens_of line =
    let words = map word_of (runs_of line.bytes) in
    let runs = length-map (runs_of line.bytes) word_of in
    let same = ap length (bytes-runs_at line) in
    omega (arith, length-append words (line_end ∷ []), runs, same, length-map (runs_at line) (λ run. run.bytes))

pub bytes-placed : (start : ℕ) (lines : List (List ℕ)) → bytes_of (placed start lines) ≡ lines
bytes-placed start [] = refl
bytes-placed start (line ∷ more) = ap (λ rest. line ∷ rest) (bytes-placed (start + length line + 1) more)

-- the addresses of a whole text
pub fits-text : (text : List ℕ) → length text ≤ TEXT_MAX → Fits 1 1 (lines_of text)
unfolding tokens_of
fits-text text le =
    let lines = flat_map line_tokens_of (lines_of text) in
    record {
      numbers = omega arith;
      addresses = omega (arith, length-tokens_of text, length-append lines (file_end ∷ []));
    }

-- the first line has an address, and those after it fit too
pub fits-next : (number first : ℕ) (lines : List Piece) (line : Piece) (more : List Piece)
    → lines ≡ line ∷ more → Fits number first (bytes_of lines)
    → Fits (number + 1) (first + length (line_tokens_of line.bytes)) (bytes_of more) × (first + length (line_tokens_of line.bytes) < 2 ^ 64)
unfolding line_tokens_of
fits-next number first lines line more steps fits =
    let whole = subst (λ ps. Fits number first (bytes_of ps)) steps fits in
    let tokens = length-append (line_tokens_of line.bytes) (flat_map line_tokens_of (bytes_of more)) in (
      record { numbers = omega (arith, whole.numbers); addresses = omega (arith, tokens, whole.addresses) },
      omega (arith, tokens, whole.addresses),
    )

-- a line that starts after the end of an extent isn't met, nor is any after it
late : (number first : ℕ) (lines : List (List ℕ)) (extent : Extent) → extent.end < first
    → filter (meets extent) (numbered number first lines) ≡ []
late number first [] extent after = refl
late number first (line ∷ more) extent after =
    let no' : nat_le first extent.end ≡ false = grind (arith, nat_tests) in
    rw no' (late (number + 1) (first + length (line_tokens_of line)) more extent (omega arith))

-- a line that ends before an address isn't met by the extents from there on
pub passed : (address : ℕ) (line : Line) (more : List Line) → line.last < address → AgreeFrom address (line ∷ more) more
passed address line more before extent from =
    let no' : nat_le extent.start line.last ≡ false = grind (arith, nat_tests) in
    let none : meets extent line ≡ false =
    elim (nat_le line.first extent.end) as (λ b. (b && nat_le extent.start line.last) ≡ false) [ true ↦ no' | false ↦ refl ] in
    cond-false (meets extent line) (line ∷ filter (meets extent) more) (filter (meets extent) more) none

-- of the lines from the first one on that ends where an extent starts or after, the first that it meets is that one or none
pub shown-held : (line : Option NumberedLine) (left : Left) (extent : Extent) → Reaches extent.start line left
    → shown line extent ≡ first_shown (filter (meets extent) (held line left))
shown-held None left extent reaches = refl
shown-held (Some line) left extent reaches =
    let reached : nat_le extent.start line.last ≡ true = grind (arith, nat_tests) in
    elim (cases_Bool (nat_le line.first extent.end)) [
      | inl yes' ↦ rw (yes', reached) refl
      | inr no' ↦
          let after : extent.end < line.first = grind (arith, nat_tests) in
          let none = late left.number left.first left.lines extent (omega arith) in
          rw (no', none) refl
    ]
