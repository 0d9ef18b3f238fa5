-- A text that is compared with the lists of a part.
use Rattle.std.proofs.Common.{◌≡◌, ℕ, ◌+◌, ◌<◌, ◌≤◌, Bool, true, false, List, drop, get_or, length, map, sym, ◌∙◌, ap, ap₂, subst, arith}
use Rattle.std.specs.Prelude.{eqb, IfSome, MatchBool, Option, Some}
use Rattle.std.specs.List.{IsDistinct}
use Rattle.std.proofs.lemmas.List.{get_or-drop}
use Rattle.wu_base.specs.Ranges.{AreApart}
use Rattle.wu_base.specs.declared.addresses.Range.{Range}
use Rattle.wu_base.specs.declared.addresses.TermList.{TermList}
use Rattle.wu_check.specs.declared.indexing.PartIndex.{PartIndex}
use Rattle.wu_check.specs.Comparing.{are_numbers_of}
use Rattle.wu_check.specs.Indexing.{AreIndexed}
use Rattle.wu_check.specs.Numbered.{addresses_in}
use Rattle.wu_check.specs.Numbering.{AreNumbers, number_of}
use Rattle.wu_check.specs.Places.{IsAtPlace, place_of, total_of}
use Rattle.wu_check.specs.Terms.{HaveTermsFrom}
use Rattle.wu_check.proofs.NumberLemmas.{AreNumbersFrom, false_true, have_terms, terms_same}
use Rattle.wu_check.proofs.Placing.{place_at, place_within}

if_there : (o : Option ℕ) (p : ℕ) (P : ℕ → Type 0) → o ≡ Some p → IfSome o P → P p
if_there o p P e h = subst (λ (v : Option ℕ). IfSome v P) e h

-- the place of an address of the range
pub place_in : (ranges : List Range) (place : ℕ) (range : Range) (i : ℕ) → AreApart ranges → IsAtPlace ranges place range → i < range.len
    → place_of ranges (range.start + i) ≡ Some (place + i)
place_in ranges place range i apart is l =
    ap (λ rs. place_of rs (range.start + i)) is.2
    ∙ place_at is.0 is.1 range i (subst AreApart is.2 apart) l
    ∙ ap (λ n. Some (n + i)) is.3

-- a text has a token at least, so its range is among the ranges with an address
pub place_is_within : (ranges : List Range) (place : ℕ) (range : Range) → AreApart ranges → IsAtPlace ranges place range
    → 0 < range.len → place < total_of ranges
place_is_within ranges place range apart is l =
    omega (arith, place_within ranges (range.start + 0) (place + 0) (place_in ranges place range 0 apart is l))

numbers_from : (ranges : List Range) (lists : List TermList) (numbers : List ℕ) (place : ℕ) (range : Range) → AreNumbers ranges lists numbers
    → AreApart ranges → IsAtPlace ranges place range → AreNumbersFrom lists range.start range.len (drop place numbers)
numbers_from ranges lists numbers place range are apart is i l =
    let address : ℕ = range.start + i in
    get_or-drop place numbers i 0
    ∙ if_there (place_of ranges address) (place + i) (λ p. get_or numbers p 0 ≡ number_of lists address)
    (place_in ranges place range i apart is l) (are address)

pub compared_exact : (ranges : List Range) (lists : List TermList) (index : PartIndex) (place : ℕ) (range : Range) (tokens : List (List ℕ))
    (same : Bool) (rest : List ℕ) → AreIndexed ranges lists index → IsDistinct eqb (addresses_in lists) → AreApart ranges
    → IsAtPlace ranges place range → length tokens ≤ range.len → rest ≡ drop place index.numbers.items
    → same ≡ are_numbers_of index.terms.items rest 0 tokens
    → MatchBool same (HaveTermsFrom lists range.start tokens) (HaveTermsFrom lists range.start tokens → ⊥)
compared_exact ranges lists index place range tokens same rest indexed distinct apart is few r e =
    let start : range.start ≡ range.start + 0 = omega arith in
    let here : List ℕ = drop place index.numbers.items in
    let are : AreNumbersFrom lists range.start range.len here =
    numbers_from ranges lists index.numbers.items place range indexed.numbers apart is in
    let all : same ≡ are_numbers_of (map (λ (list : TermList). list.term) lists) here 0 tokens =
    e ∙ ap₂ (λ (ts : List (List ℕ)) (ns : List ℕ). are_numbers_of ts ns 0 tokens) indexed.terms r in
    elim same as (λ b. b ≡ are_numbers_of (map (λ (list : TermList). list.term) lists) here 0 tokens
    → MatchBool b (HaveTermsFrom lists range.start tokens) (HaveTermsFrom lists range.start tokens → ⊥)) [
      | true ↦ λ q. have_terms lists range.start range.len here distinct are tokens 0 range.start start (omega (arith, few)) (sym q)
      | false ↦ λ q h.
          false_true (q ∙ terms_same lists range.start range.len here distinct are tokens 0 range.start start (omega (arith, few)) h)
    ] all
