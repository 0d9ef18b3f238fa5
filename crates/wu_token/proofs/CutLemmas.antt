-- The first line of a text and the first run of a line, found by the position of the byte that ends it.
use Rattle.std.proofs.Common.{◌≡◌, ℕ, ◌+◌, ◌<◌, ◌≤◌, inl, inr, Bool, true, false, not, cond, nat_lt, List, [], ◌∷◌, length, take}
use Rattle.std.proofs.Common.{drop, filter, get_or, Some, None, unwrap_or, refl, sym, ◌∙◌, ap, add-zero, suc, arith}
use Rattle.std.specs.List.{slice_split, onto_first, position, position_or_len}
use Rattle.std.proofs.lemmas.Bool.{cases_lt, cond-true, cond-false, cases_Bool}
use Rattle.std.proofs.lemmas.Bool.Decides.{nat_tests}
use Rattle.std.proofs.lemmas.List.{drop_more, drop_all, take_all, nil_from_length, length-take-le}
use Rattle.std.proofs.lemmas.List.Splits.{slice_split-cons_yes, slice_split_none, slice_split_first}
use Rattle.std.proofs.lemmas.List.Sums.{prefix_len-le-length, fails_before_first, passes_at_first, prefix_len-drop_yes}
use Rattle.std.proofs.lemmas.List.Elements.{All-from_get_or}
use Rattle.wu_token.specs.Words.{has_bytes, is_word_byte, is_separator}
use Rattle.wu_token.specs.Tokens.{is_line_feed, lines_of_pieces, lines_of}
use Rattle.wu_token.specs.Places.{Piece, placed, runs_at}

-- ---- positions
option_at-none : (i n : ℕ) → i ≤ n → cond (nat_lt i n) (Some i) None ≡ None → i ≡ n
option_at-none i n h e = grind (arith, nat_tests)

option_at-some : (i n k : ℕ) → cond (nat_lt i n) (Some i) None ≡ Some k → (i ≡ k) × (k < n)
option_at-some i n k e = (grind (arith, nat_tests), grind (arith, nat_tests))

option_at-unwrap : (i n : ℕ) → i ≤ n → unwrap_or (cond (nat_lt i n) (Some i) None) n ≡ i
option_at-unwrap i n h = grind (arith, nat_tests)

module _ {X : Type 0} (p : X → Bool) where
  pub first-le : (xs : List X) → position_or_len p xs ≤ length xs
  first-le xs = prefix_len-le-length (λ x. not (p x)) xs

  -- the list, where none of its elements passes
  split-all : (xs : List X) → (d : X) → length xs ≤ position_or_len p xs → slice_split p xs ≡ xs ∷ []
  split-all xs d h =
      slice_split_none p xs (All-from_get_or (λ x. p x ≡ false) xs d (λ i l. fails_before_first p xs i d (omega arith)))

  pub split-cons : (xs : List X) → (first : List X) × (more : List (List X)) × (slice_split p xs ≡ first ∷ more)
  split-cons [] = ([], [], refl)
  split-cons (x ∷ xs) =
      let more = split-cons xs in
      elim (p x) as (λ b. (first : List X) × (others : List (List X)) × (cond b ([] ∷ slice_split p xs) (onto_first x (slice_split p xs)) ≡ first ∷ others))
      [ true ↦ ([], slice_split p xs, refl) | false ↦ (x ∷ more.0, more.1, ap (onto_first x) more.2) ]

-- ---- lines
lines_of_pieces-more : (line : List ℕ) (pieces : List (List ℕ)) → (first : List ℕ) → (more : List (List ℕ)) → pieces ≡ first ∷ more → lines_of_pieces (line ∷ pieces) ≡ line ∷ lines_of_pieces pieces
lines_of_pieces-more line pieces first more e = rw e

pub lines_of-none : (text : List ℕ) → length text ≡ 0 → lines_of text ≡ []
unfolding lines_of
lines_of-none text h = rw (nil_from_length text h)

pub lines_of-last : (text : List ℕ) → 0 < length text → length text ≤ position_or_len is_line_feed text → lines_of text ≡ text ∷ []
unfolding lines_of
lines_of-last text some h =
    let test : has_bytes text ≡ true = grind (arith, nat_tests) in
    ap lines_of_pieces (split-all is_line_feed text 0 h) ∙ cond-true (has_bytes text) (text ∷ []) [] test

pub lines_of-more : (text : List ℕ) → position_or_len is_line_feed text < length text
    → lines_of text ≡ take (position_or_len is_line_feed text) text ∷ lines_of (drop (position_or_len is_line_feed text + 1) text)
unfolding lines_of
lines_of-more text h =
    let n = position_or_len is_line_feed text in
    let rest = split-cons is_line_feed (drop (n + 1) text) in
    ap lines_of_pieces (slice_split_first is_line_feed text 0 h) ∙ lines_of_pieces-more (take n text) (slice_split is_line_feed (drop (n + 1) text)) rest.0 rest.1 rest.2

-- ---- runs
runs : ℕ → List ℕ → List Piece
runs start bytes = runs_at record { start = start; bytes = bytes }

runs-nil : (start : ℕ) → runs start [] ≡ []
unfolding runs runs_at
runs-nil start = refl

runs-skip : (start : ℕ) (byte : ℕ) (bytes : List ℕ) → is_separator byte ≡ true → runs start (byte ∷ bytes) ≡ runs (start + 1) bytes
unfolding runs runs_at
runs-skip start byte bytes e =
    ap (λ parts. filter (λ run. has_bytes run.bytes) (placed start parts)) (slice_split-cons_yes is_separator byte bytes e)
    ∙ ap (λ n. filter (λ run. has_bytes run.bytes) (placed (n + 1) (slice_split is_separator bytes))) (add-zero start)

runs-skip_all : (start : ℕ) (bytes : List ℕ) → runs start bytes ≡ runs (start + position_or_len is_word_byte bytes) (drop (position_or_len is_word_byte bytes) bytes)
runs-skip_all start [] = ap (λ n. runs n []) (sym (add-zero start))
runs-skip_all start (byte ∷ bytes) =
    let n = position_or_len is_word_byte bytes in
    let more = runs-skip_all (start + 1) bytes in
    elim (cases_Bool (is_separator byte)) [
      | inl yes' ↦
          let step : position_or_len is_word_byte (byte ∷ bytes) ≡ suc n = cond-true (is_separator byte) _ _ yes' ∙ omega arith in
          let place : start + suc n ≡ start + 1 + n = omega arith in
          rw (step, place) (runs-skip start byte bytes yes' ∙ more)
      | inr no' ↦
          let stop : position_or_len is_word_byte (byte ∷ bytes) ≡ 0 = cond-false (is_separator byte) _ _ no' in
          rw (stop, add-zero start)
    ]

runs-last : (start : ℕ) (bytes : List ℕ) → 0 < length bytes → length bytes ≤ position_or_len is_separator bytes → runs start bytes ≡ record { start = start; bytes = bytes } ∷ []
unfolding runs runs_at
runs-last start bytes some h =
    let test : has_bytes bytes ≡ true = grind (arith, nat_tests) in
    ap (λ parts. filter (λ run. has_bytes run.bytes) (placed start parts)) (split-all is_separator bytes 0 h) ∙ cond-true (has_bytes bytes) _ _ test

runs-more : (start : ℕ) (bytes : List ℕ) (n : ℕ) → n ≡ position_or_len is_separator bytes → 0 < n → n < length bytes
    → runs start bytes ≡ record { start = start; bytes = take n bytes } ∷ runs (start + n + 1) (drop (n + 1) bytes)
unfolding runs runs_at
runs-more start bytes n e some h =
    let taken : length (take n bytes) ≡ n = length-take-le n bytes (omega arith) in
    let test : has_bytes (take n bytes) ≡ true = grind (arith, nat_tests) in
    let cut : slice_split is_separator bytes ≡ take n bytes ∷ slice_split is_separator (drop (n + 1) bytes) = rw e (slice_split_first is_separator bytes 0 (omega arith)) in
    ap (λ parts. filter (λ run. has_bytes run.bytes) (placed start parts)) cut ∙ cond-true (has_bytes (take n bytes)) _ _ test
    ∙ ap
    (λ k.
    record { start = start; bytes = take n bytes }
    ∷ filter (λ run. has_bytes run.bytes) (placed (start + k + 1) (slice_split is_separator (drop (n + 1) bytes))))
    taken

runs-first : (start : ℕ) (bytes : List ℕ) (n : ℕ) → n ≡ position_or_len is_separator bytes → 0 < n → runs start bytes ≡ record { start = start; bytes = take n bytes } ∷ runs (start + n) (drop n bytes)
runs-first start bytes n e some =
    elim (cases_lt n (length bytes)) [
      | inl before ↦
          let stop : is_separator (get_or bytes n 0) ≡ true = rw e (passes_at_first is_separator bytes 0 (omega arith)) in
          let rest : runs (start + n) (drop n bytes) ≡ runs (start + n + 1) (drop (n + 1) bytes) =
          ap (runs (start + n)) (drop_more bytes n 0 before) ∙ runs-skip (start + n) (get_or bytes n 0) (drop (n + 1) bytes) stop in
          runs-more start bytes n e some before ∙ ap (λ more. record { start = start; bytes = take n bytes } ∷ more) (sym rest)
      | inr after ↦
          let nonempty : 0 < length bytes = omega (arith, first-le is_separator bytes) in
          rw (take_all n bytes after, drop_all n bytes after, runs-nil (start + n)) (runs-last start bytes nonempty (omega arith))
    ]

word_first : (bytes : List ℕ) (k : ℕ) → k ≡ position_or_len is_word_byte bytes → k < length bytes → 0 < position_or_len is_separator (drop k bytes)
word_first bytes k e h =
    let passes : is_word_byte (get_or bytes k 0) ≡ true = rw e (passes_at_first is_word_byte bytes 0 (omega arith)) in
    let step : position_or_len is_separator (drop k bytes) ≡ 1 + position_or_len is_separator (drop (k + 1) bytes) = prefix_len-drop_yes (λ x. not (is_separator x)) bytes k 0 h (rw passes) in
    omega arith

pub runs_at-none : (start : ℕ) (bytes : List ℕ) → position is_word_byte bytes ≡ None → runs_at record { start = start; bytes = bytes } ≡ []
unfolding runs
runs_at-none start bytes e =
    let i = position_or_len is_word_byte bytes in
    let all : i ≡ length bytes = option_at-none i (length bytes) (first-le is_word_byte bytes) e in
    runs-skip_all start bytes ∙ ap (runs (start + i)) (drop_all i bytes (omega arith)) ∙ runs-nil (start + i)

pub runs_at-first : (start : ℕ) (bytes : List ℕ) (k n : ℕ) → position is_word_byte bytes ≡ Some k → n ≡ unwrap_or (position is_separator (drop k bytes)) (length (drop k bytes))
    → runs_at record { start = start; bytes = bytes } ≡ record { start = start + k; bytes = take n (drop k bytes) } ∷ runs_at record { start = start + k + n; bytes = drop n (drop k bytes) }
unfolding runs
runs_at-first start bytes k n e f =
    let i = position_or_len is_word_byte bytes in
    let found = option_at-some i (length bytes) k e in
    let same : n ≡ position_or_len is_separator (drop k bytes) = f ∙ option_at-unwrap _ _ (first-le is_separator (drop k bytes)) in
    let skipped : runs start bytes ≡ runs (start + k) (drop k bytes) = rw (sym found.0) (runs-skip_all start bytes) in
    let some = word_first bytes k (sym found.0) found.1 in
    skipped ∙ runs-first (start + k) (drop k bytes) n same (omega arith)
