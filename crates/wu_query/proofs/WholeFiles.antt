-- The extent of a whole file: from `<file>`, which is the first token of a text and stands nowhere else, to `</file>`, which is the
-- last one.
use Rattle.std.proofs.Common.{◌≡◌, ℕ, zero, suc, ◌-◌, ◌≤◌, ◌<◌, Bool, true, false, List, [], ◌∷◌, ◌++◌, length, refl, sym, ap, ap₂, ◌∙◌}
use Rattle.std.proofs.Common.{subst, inl, inr, arith, length-append, eqb, eqb-true}
use Rattle.std.specs.Prelude.{nat_eq}
use Rattle.std.specs.List.{AllByRecursion, flat_map}
use Rattle.std.specs.Cmp.Lexicographic.{pointwise, nat_list_eq_equiv}
use Rattle.std.proofs.Math.Dec.{eqb-suc-zero}
use Rattle.std.proofs.lemmas.Bool.{and_parts}
use Rattle.std.proofs.lemmas.Bool.Decides.{nat_tests}
use Rattle.wu_base.specs.declared.addresses.Extent.{Extent}
use Rattle.wu_gcl.specs.Extents.{holds, hits, is_in, is_term_at, is_token_at, token_hits}
use Rattle.wu_gcl.specs.Regions.{WholeFile}
use Rattle.wu_token.proofs.OwnWords.{IsWord, words_of_are}
use Rattle.wu_solve.specs.Listing.{Has, IsExtentIn, Lists}
use Rattle.wu_solve.specs.Merging.{AreInnermost, IsSpan, span}
use Rattle.wu_solve.proofs.Combining.{file_listed, followed_by_combined}
use Rattle.wu_solve.proofs.Order.{listed}
use Rattle.wu_token.specs.Tokens.{file_end, file_start, line_end, line_start, line_tokens_of, lines_of, tokens_of}
use Rattle.wu_token.specs.Words.{is_word_byte, words_of}
use Rattle.wu_query.proofs.UnitsOfFrames.{both_all}

-- ---- the tokens between the two tags

-- the token is neither of them
pub record IsInner (token : List ℕ) : Type 0 where
  pub no_start : pointwise nat_eq token file_start ≡ false
  pub no_end : pointwise nat_eq token file_end ≡ false

no_bracket : (byte : ℕ) → is_word_byte byte ≡ true → eqb byte 60 ≡ false
no_bracket byte is = grind (arith, nat_tests, is)

inner_word : (word : List ℕ) → IsWord word → IsInner word
unfolding file_start file_end
inner_word [] is = absurd (omega (arith, is.some))
inner_word (byte ∷ word) is =
    let other = no_bracket byte is.bytes.0 in record { no_start = rw other refl; no_end = rw other refl }

inner_words : (words : List (List ℕ)) → AllByRecursion IsWord words → AllByRecursion IsInner words
inner_words [] are = tt
inner_words (word ∷ words) are = (inner_word word are.0, inner_words words are.1)

inner_line : (line : List ℕ) → AllByRecursion IsInner (line_tokens_of line)
unfolding line_tokens_of line_start line_end file_start file_end
inner_line line = (
  record { no_start = refl; no_end = refl },
  both_all IsInner (words_of line) (line_end ∷ []) (inner_words (words_of line) (words_of_are line))
      (record { no_start = refl; no_end = refl }, tt),
)

inner_lines : (lines : List (List ℕ)) → AllByRecursion IsInner (flat_map line_tokens_of lines)
inner_lines [] = tt
inner_lines (line ∷ lines) =
    both_all IsInner (line_tokens_of line) (flat_map line_tokens_of lines) (inner_line line) (inner_lines lines)

-- ---- where the tags stand

no_start_in : (tokens : List (List ℕ)) (i : ℕ) → AllByRecursion IsInner tokens → is_token_at (tokens ++ file_end ∷ []) file_start i ≡ false
unfolding file_start file_end
no_start_in [] zero inner = refl
no_start_in [] (suc i) inner = refl
no_start_in (token ∷ tokens) zero inner = inner.0.no_start
no_start_in (token ∷ tokens) (suc i) inner = no_start_in tokens i inner.1

starts_first : (tokens : List (List ℕ)) (i : ℕ) → AllByRecursion IsInner tokens
    → is_token_at (file_start ∷ (tokens ++ file_end ∷ [])) file_start i ≡ eqb i 0
starts_first tokens zero inner = nat_list_eq_equiv.refl file_start
starts_first tokens (suc i) inner = no_start_in tokens i inner ∙ sym (eqb-suc-zero i)

ends_behind : (tokens : List (List ℕ)) (i : ℕ) → AllByRecursion IsInner tokens
    → is_token_at (tokens ++ file_end ∷ []) file_end i ≡ eqb i (length tokens)
ends_behind [] zero inner = nat_list_eq_equiv.refl file_end
ends_behind [] (suc i) inner = sym (eqb-suc-zero i)
ends_behind (token ∷ tokens) zero inner =
    let other : eqb 0 (suc (length tokens)) ≡ false = grind (arith, nat_tests) in inner.0.no_end ∙ sym other
ends_behind (token ∷ tokens) (suc i) inner =
    let same : eqb (suc i) (suc (length tokens)) ≡ eqb i (length tokens) = grind (arith, nat_tests) in
    ends_behind tokens i inner.1 ∙ sym same

ends_last : (tokens : List (List ℕ)) (i : ℕ) → AllByRecursion IsInner tokens
    → is_token_at (file_start ∷ (tokens ++ file_end ∷ [])) file_end i ≡ eqb i (suc (length tokens))
unfolding file_start file_end
ends_last tokens zero inner = let other : eqb 0 (suc (length tokens)) ≡ false = grind (arith, nat_tests) in sym other
ends_last tokens (suc i) inner =
    let same : eqb (suc i) (suc (length tokens)) ≡ eqb i (length tokens) = grind (arith, nat_tests) in
    ends_behind tokens i inner ∙ sym same

-- ---- the extent between them

abbrev from_to : ℕ → ℕ → Extent
from_to a b = record { start = a; end = b }

one_place : (n p : ℕ) (stands : List ℕ → ℕ → Bool) (term : List ℕ) → p < n → ((i : ℕ) → stands term i ≡ eqb i p)
    → Lists n (is_term_at stands term) (from_to p p ∷ [])
one_place n p stands term within told = record { ascending = (tt, tt); sound = sound; complete = complete } where
  there : is_term_at stands term (from_to p p) ≡ true
  there = let itself : eqb p p ≡ true = grind (arith, nat_tests) in
      let stands_there : stands term p ≡ true = told p ∙ itself in rw (itself, stands_there) refl

  sound : (x : Extent) → Has (from_to p p ∷ []) x → IsExtentIn n x × (is_term_at stands term x ≡ true)
  sound x (inl here) =
      subst (λ (e : Extent). IsExtentIn n e × (is_term_at stands term e ≡ true)) here
      (record { ordered = omega arith; within = omega arith }, there)
  sound x (inr more) = absurd more

  complete : (x : Extent) → IsExtentIn n x → is_term_at stands term x ≡ true → Has (from_to p p ∷ []) x
  complete x is set =
      let parts = and_parts (eqb x.start x.end) (stands term x.start) set in
      let last : x.start ≡ x.end = eqb-true x.start x.end parts.0 in
      let first : x.start ≡ p = eqb-true x.start p (sym (told x.start) ∙ parts.1) in
      inl (ap₂ from_to (sym first) (sym first ∙ last))

holds_itself : (a b : ℕ) → holds (from_to a b) (from_to a b) ≡ true
holds_itself a b = grind (arith, nat_tests)

inner_span : (last : ℕ) → 0 < last → AreInnermost (IsSpan (from_to 0 0 ∷ []) (from_to last last ∷ [])) (from_to 0 last ∷ [])
inner_span last some = record { ascending = (tt, tt); sound = sound; dense = dense } where
  sound : (x : Extent) → Has (from_to 0 last ∷ []) x → IsSpan (from_to 0 0 ∷ []) (from_to last last ∷ []) x
  sound x (inl here) = (from_to 0 0, from_to last last, inl refl, inl refl, some, here)
  sound x (inr more) = absurd more

  same : (x y z : Extent) → Has (from_to 0 0 ∷ []) y → Has (from_to last last ∷ []) z → span y z ≡ x → from_to 0 last ≡ x
  same x y z (inl first) (inl second) is = ap₂ span first second ∙ is
  same x y z (inr more) second is = absurd more
  same x y z (inl first) (inr more) is = absurd more

  dense : (x : Extent) → IsSpan (from_to 0 0 ∷ []) (from_to last last ∷ []) x
      → (y : Extent) × Has (from_to 0 last ∷ []) y × (holds x y ≡ true)
  dense x c = (
    from_to 0 last,
    inl refl,
    subst (λ (e : Extent). holds e (from_to 0 last) ≡ true) (same x c.0 c.1 c.2 c.3 c.5) (holds_itself 0 last),
  )

between : (n last : ℕ) (stands : List ℕ → ℕ → Bool) → 0 < last → last < n → ((i : ℕ) → stands file_start i ≡ eqb i 0)
    → ((i : ℕ) → stands file_end i ≡ eqb i last) → hits WholeFile stands n ≡ from_to 0 last ∷ []
unfolding hits
between n last stands some within first second =
    let left = one_place n 0 stands file_start (omega arith) first in
    let right = one_place n last stands file_end within second in
    sym (listed n (is_in WholeFile stands n) (from_to 0 last ∷ [])
    (file_listed n stands (from_to 0 last ∷ [])
    (followed_by_combined n (is_term_at stands file_start) (is_term_at stands file_end) (from_to 0 0 ∷ []) (from_to last last ∷ [])
    left right (from_to 0 last ∷ []) (inner_span last some))))

-- the tokens of a text, of which there are some, and the text has one extent of `file`, which is all of them
pub record IsWhole (tokens : List (List ℕ)) : Type 0 where
  pub long : 2 ≤ length tokens
  pub alone : token_hits WholeFile tokens ≡ from_to 0 (length tokens - 1) ∷ []

whole : (tokens : List (List ℕ)) → AllByRecursion IsInner tokens → IsWhole (file_start ∷ (tokens ++ file_end ∷ []))
whole tokens inner =
    let all = file_start ∷ (tokens ++ file_end ∷ []) in
    let size : length all ≡ suc (suc (length tokens)) = omega (arith, length-append tokens (file_end ∷ [])) in
    let less : suc (length tokens) ≡ length all - 1 = omega arith in
    record {
      long = omega arith;
      alone =
          between (length all) (suc (length tokens)) (is_token_at all) (omega arith) (omega arith)
          (λ i. starts_first tokens i inner) (λ i. ends_last tokens i inner)
          ∙ ap (λ (last : ℕ). from_to 0 last ∷ []) less;
    }

pub text_whole : (text : List ℕ) → IsWhole (tokens_of text)
unfolding tokens_of
text_whole text = whole (flat_map line_tokens_of (lines_of text)) (inner_lines (lines_of text))
