-- The lines that keep their line feeds are, without them, the lines of the text.
use Rattle.std.proofs.Common.{◌≡◌, ◌≢◌, ℕ, zero, suc, ◌+◌, ◌-◌, ◌<◌, ◌≤◌, inl, inr, List, [], ◌∷◌, length, take, drop}
use Rattle.std.proofs.Common.{refl, sym, ◌∙◌, ap, arith}
use Rattle.std.specs.Prelude.{slice_index}
use Rattle.std.specs.List.{position_or_len}
use Rattle.std.proofs.lemmas.Bool.{cases_lt, cond-true, cond-false}
use Rattle.std.proofs.lemmas.List.{take_all, length-take-le, length-drop, get_or-take, take-take}
use Rattle.std.proofs.lemmas.List.Sums.{fails_before_first, passes_at_first}
use borrow.Author.Tests.{eqb-true, eq-eqb, ne_eqb}
use Rattle.bstr.specs.Text.{line_len, lines_of as terminated}
use Rattle.bstr.proofs.lemmas.LineLemmas.{line_len-at, line_len-none, lines-step, lines-nil, lines-empty}
use Rattle.wu_token.specs.Tokens.{is_line_feed, lines_of}
use Rattle.wu_token.specs.Places.{placed}
use Rattle.wu_token.specs.Pieces.{without_line_feed, stripped}
use Rattle.wu_token.proofs.CutLemmas.{lines_of-none, lines_of-last, lines_of-more}

-- a line feed at the end goes
without-feed : (line : List ℕ) → slice_index line (length line - 1) ≡ 10 → without_line_feed line ≡ take (length line - 1) line
without-feed line is = cond-true _ _ _ (eq-eqb _ _ is)

-- another byte there stays
without-other : (line : List ℕ) → slice_index line (length line - 1) ≢ 10 → without_line_feed line ≡ line
without-other line other = cond-false _ _ _ (ne_eqb _ _ other)

before-feed : (text : List ℕ) (k : ℕ) → k < position_or_len is_line_feed text → slice_index text k ≢ 10
before-feed text k less is =
    let none = fails_before_first is_line_feed text k 0 less in
    let some = eq-eqb _ _ is in
    cc

take-take_more : (xs : List ℕ) (k : ℕ) → take k (take (k + 1) xs) ≡ take k xs
take-take_more xs k = take-take k (k + 1) xs (omega arith)

-- the first line, where a line feed ends it: n bytes come before it
first-fed : (start : ℕ) (text : List ℕ) (n : ℕ) → n ≡ position_or_len is_line_feed text → n < length text
    → stripped start (terminated text)
    ≡ record { start = start; bytes = take n text } ∷ stripped (start + n + 1) (terminated (drop (n + 1) text))
first-fed start text n at_n within =
    let feed : slice_index text n ≡ 10 = rw at_n (eqb-true _ _ (passes_at_first is_line_feed text 0 (omega arith))) in
    let long : line_len text ≡ n + 1 = line_len-at text n within feed (λ k less. before-feed text k (omega arith)) in
    let line = take (n + 1) text in
    let len : length line ≡ n + 1 = length-take-le (n + 1) text (omega arith) in
    let at_end : length line - 1 ≡ n = omega arith in
    let last : slice_index line (length line - 1) ≡ 10 = ap (slice_index line) at_end ∙ get_or-take (n + 1) text n 0 (omega arith) ∙ feed in
    let front : without_line_feed line ≡ take n text = without-feed line last ∙ ap (λ k. take k line) at_end ∙ take-take_more text n in
    let place : start + length line ≡ start + n + 1 = omega arith in
    ap (stripped start) (lines-step text (omega arith) ∙ ap (λ k. take k text ∷ terminated (drop k text)) long)
    ∙ ap (λ bytes. record { start = start; bytes = bytes } ∷ stripped (start + length line) (terminated (drop (n + 1) text))) front
    ∙ ap (λ k. record { start = start; bytes = take n text } ∷ stripped k (terminated (drop (n + 1) text))) place

-- the one line, where there is no line feed
one-line : (start : ℕ) (text : List ℕ) → 0 < length text → length text ≤ position_or_len is_line_feed text
    → stripped start (terminated text) ≡ record { start = start; bytes = text } ∷ []
one-line start text some none =
    let n = length text in
    let long : line_len text ≡ n = line_len-none text (λ k less. before-feed text k (omega arith)) in
    let whole : take n text ≡ text = take_all n text (omega arith) in
    let rest : terminated (drop n text) ≡ [] = lines-empty (drop n text) (length-drop n text ∙ omega arith) in
    let same : without_line_feed text ≡ text = without-other text (before-feed text (n - 1) (omega arith)) in
    ap (stripped start) (lines-step text some ∙ ap (λ k. take k text ∷ terminated (drop k text)) long)
    ∙ ap
    (λ line. record { start = start; bytes = without_line_feed line } ∷ stripped (start + length line) (terminated (drop n text)))
    whole
    ∙ ap (λ lines. record { start = start; bytes = without_line_feed text } ∷ stripped (start + n) lines) rest
    ∙ ap (λ bytes. record { start = start; bytes = bytes } ∷ []) same

by_fuel : (fuel start : ℕ) (text : List ℕ) → length text ≤ fuel → stripped start (terminated text) ≡ placed start (lines_of text)
by_fuel fuel start [] le = ap (stripped start) lines-nil ∙ sym (ap (placed start) (lines_of-none [] refl))
by_fuel zero start (byte ∷ bytes) le = absurd (omega arith)
by_fuel (suc fuel) start (byte ∷ bytes) le =
    let text = byte ∷ bytes in
    let n = position_or_len is_line_feed text in
    elim (cases_lt n (length text)) [
      | inl before ↦
          let left = length-drop (n + 1) text in
          let more = by_fuel fuel (start + n + 1) (drop (n + 1) text) (omega arith) in
          let taken : length (take n text) ≡ n = length-take-le n text (omega arith) in
          first-fed start text n refl before
          ∙ ap (λ lines. record { start = start; bytes = take n text } ∷ lines) more
          ∙ ap (λ k. record { start = start; bytes = take n text } ∷ placed (start + k + 1) (lines_of (drop (n + 1) text))) (sym taken)
          ∙ ap (placed start) (sym (lines_of-more text before))
      | inr after ↦ one-line start text (omega arith) after ∙ ap (placed start) (sym (lines_of-last text (omega arith) after))
    ]

pub stripped-lines : (start : ℕ) (text : List ℕ) → stripped start (terminated text) ≡ placed start (lines_of text)
stripped-lines start text = by_fuel (length text) start text (omega arith)
