-- Postings put into lists by term.
use Rattle.std.proofs.Common.{◌≡◌, ℕ, ◌+◌, ◌<◌, ◌≤◌, ◌==◌, true, false, cond, List, [], ◌∷◌, ◌++◌, length, length-append, length-take}
use Rattle.std.proofs.Common.{get_or, take, map, filter, refl, ap, sym, ◌∙◌, arith, nat_eq, unwrap_or, None, Some, append-nil, append_assoc}
use Rattle.std.proofs.Common.{⊎_elim}
use Rattle.std.specs.List.{AllByRecursion}
use Rattle.std.specs.Map.{lookup}
use Rattle.std.specs.Cmp.{IsEquivalence}
use Rattle.std.specs.Cmp.Lexicographic.{pointwise}
use Rattle.std.proofs.lemmas.Cmp.{nat_list_eq_equiv}
use Rattle.std.proofs.lemmas.Bool.{cases_Bool, ne_eqb}
use Rattle.std.proofs.lemmas.List.{length-map, map-append, take_more}
use Rattle.wu_token.specs.declared.spans.Token.{Token}
use Rattle.wu_token.specs.Words.{IsTerm}
use Rattle.wu_layout.specs.Postings.{Posting, placed_from, is_of, addresses_of}
use Rattle.wu_layout.proofs.PostingLemmas.{Ascend-append, Ascend-below}
use Rattle.wu_layout.proofs.TermLemmas.{addresses_of-append}
use Rattle.wu_parts.specs.Memory.{HasPostings, Lists, Memory, held, Gains}
use Rattle.wu_parts.specs.Lists.{with_address, with_posting, with_terms, IsList}
use Rattle.wu_lists.proofs.Ascending.{ascend-higher, ascend-push}

abbrev pub found_in : List ℕ → Lists → List ℕ
found_in term lists = unwrap_or (lookup (pointwise nat_eq term) lists) []

-- ---- what a posting changes

module _ (term other : List ℕ) (address : ℕ) where
  laws : IsEquivalence (pointwise nat_eq)
  laws = nat_list_eq_equiv

  abbrev more : List ℕ
  more = cond (pointwise nat_eq term other) (address ∷ []) []

  -- the term's list gains the address, and the other lists stay
  found-with_address : (lists : Lists) → found_in other (with_address term address lists) ≡ found_in other lists ++ more
  found-with_address [] =
      rw (nat_list_eq_equiv.symm other term)
      (elim (pointwise nat_eq term other) as
      (λ b. unwrap_or (cond b (Some (address ∷ [])) None) [] ≡ cond b (address ∷ []) []) [ true ↦ refl | false ↦ refl ])
  found-with_address (list ∷ lists) =
      ⊎_elim
      (λ (t : pointwise nat_eq term list.0 ≡ true).
      let same : pointwise nat_eq other list.0 ≡ pointwise nat_eq term other =
      nat_list_eq_equiv.symm other list.0 ∙ sym (nat_list_eq_equiv.congr term list.0 other t) in
      rw (t, same)
      (elim (pointwise nat_eq term other) as
      (λ b. unwrap_or (cond b (Some (list.1 ++ address ∷ [])) (lookup (pointwise nat_eq other) lists)) []
      ≡ unwrap_or (cond b (Some list.1) (lookup (pointwise nat_eq other) lists)) [] ++ cond b (address ∷ []) []) [
        | true ↦ refl
        | false ↦ sym (append-nil (found_in other lists))
      ]))
      (λ (f : pointwise nat_eq term list.0 ≡ false).
      rw f
      (⊎_elim
      (λ (s : pointwise nat_eq other list.0 ≡ true).
      let away : pointwise nat_eq term other ≡ false =
      nat_list_eq_equiv.symm term other ∙ nat_list_eq_equiv.congr other list.0 term s ∙ nat_list_eq_equiv.symm list.0 term ∙ f in
      rw (s, away) (sym (append-nil list.1)))
      (λ (n : pointwise nat_eq other list.0 ≡ false). rw n (found-with_address lists))
      (cases_Bool (pointwise nat_eq other list.0))))
      (cases_Bool (pointwise nat_eq term list.0))

-- the addresses of a term, where one posting comes first
first_address : (term other : List ℕ) (address : ℕ) (terms : List (List ℕ))
    → addresses_of other (placed_from address (term ∷ terms))
    ≡ cond (pointwise nat_eq term other) (address ∷ []) [] ++ addresses_of other (placed_from (address + 1) terms)
first_address term other address terms =
    elim (pointwise nat_eq term other) as
    (λ b. map (λ (p : Posting). p.address)
    (cond b (record { address = address; term = term } ∷ filter (is_of other) (placed_from (address + 1) terms))
    (filter (is_of other) (placed_from (address + 1) terms)))
    ≡ cond b (address ∷ []) [] ++ addresses_of other (placed_from (address + 1) terms)) [ true ↦ refl | false ↦ refl ]

held-with_terms : (terms : List (List ℕ)) (memory : Memory) (start : ℕ) (term : List ℕ)
    → held (with_terms memory start terms) term ≡ held memory term ++ addresses_of term (placed_from start terms)
held-with_terms [] memory start term = sym (append-nil (held memory term))
held-with_terms (first ∷ terms) memory start term =
    held-with_terms terms (with_posting memory start first) (start + 1) term
    ∙ ap (λ (l : List ℕ). l ++ addresses_of term (placed_from (start + 1) terms)) (found-with_address first term start memory.lists)
    ∙ append_assoc (held memory term) (cond (pointwise nat_eq first term) (start ∷ []) [])
    (addresses_of term (placed_from (start + 1) terms))
    ∙ ap (λ (l : List ℕ). held memory term ++ l) (sym (first_address first term start terms))

pub stored-with_terms : (terms : List (List ℕ)) (memory : Memory) (start : ℕ)
    → (with_terms memory start terms).stored ≡ memory.stored + length terms
stored-with_terms [] memory start = omega arith
stored-with_terms (first ∷ terms) memory start = stored-with_terms terms (with_posting memory start first) (start + 1) ∙ omega arith

pub end_of_some : (terms : List (List ℕ)) (memory : Memory) (start : ℕ) → memory.end ≡ start
    → (with_terms memory start terms).end ≡ start + length terms
end_of_some [] memory start e = omega arith
end_of_some (first ∷ terms) memory start e = end_of_some terms (with_posting memory start first) (start + 1) refl ∙ omega arith

pub end-with_terms : (terms : List (List ℕ)) (memory : Memory) (start : ℕ)
    → (with_terms memory start terms).end ≡ cond (length terms == 0) memory.end (start + length terms)
end-with_terms [] memory start = refl
end-with_terms (first ∷ terms) memory start =
    let some : (length (first ∷ terms) == 0) ≡ false = ne_eqb (length (first ∷ terms)) 0 (λ e. omega arith) in
    let end : (with_terms memory start (first ∷ terms)).end ≡ start + length (first ∷ terms) =
    end_of_some terms (with_posting memory start first) (start + 1) refl ∙ omega arith in
    rw some end

pub gains-with_terms : (terms : List (List ℕ)) (memory : Memory) (start : ℕ) → Gains start terms memory (with_terms memory start terms)
gains-with_terms terms memory start = record {
  addresses = λ term. held-with_terms terms memory start term;
  stored = stored-with_terms terms memory start;
  end = end-with_terms terms memory start;
}

-- the end is not above the next address
pub end_by : (terms : List (List ℕ)) (memory : Memory) (start : ℕ) → memory.end ≤ start
    → (with_terms memory start terms).end ≤ start + length terms
end_by [] memory start l = omega arith
end_by (first ∷ terms) memory start l =
    let e : (with_terms (with_posting memory start first) (start + 1) terms).end ≡ start + 1 + length terms =
    end_of_some terms (with_posting memory start first) (start + 1) refl in
    omega arith

pub with_terms-append : (terms more : List (List ℕ)) (memory : Memory) (start : ℕ)
    → with_terms memory start (terms ++ more) ≡ with_terms (with_terms memory start terms) (start + length terms) more
with_terms-append [] more memory start = ap (λ (n : ℕ). with_terms memory n more) (omega arith)
with_terms-append (first ∷ terms) more memory start =
    with_terms-append terms more (with_posting memory start first) (start + 1)
    ∙ ap (λ (n : ℕ). with_terms (with_terms memory start (first ∷ terms)) n more) (omega arith)

pub with_terms-push : (terms : List (List ℕ)) (term : List ℕ) (memory : Memory) (start : ℕ)
    → with_terms memory start (terms ++ term ∷ []) ≡ with_posting (with_terms memory start terms) (start + length terms) term
with_terms-push terms term memory start = with_terms-append terms (term ∷ []) memory start

-- ---- what memory keeps

length_push : (x : ℕ) (xs : List ℕ) → 0 < length (xs ++ x ∷ [])
length_push x [] = omega arith
length_push x (y ∷ xs) = omega arith

pub raised : (end most : ℕ) → end ≤ most → (lists : Lists) → AllByRecursion (IsList end) lists → AllByRecursion (IsList most) lists
raised end most l [] a = tt
raised end most l (list ∷ lists) a =
    (record { term = a.0.term; filled = a.0.filled; ascend = ascend-higher 0 end most list.1 l a.0.ascend }, raised end most l lists a.1)

pub lists-with_address : (term : List ℕ) (address end : ℕ) (lists : Lists) → IsTerm term → end ≤ address → AllByRecursion (IsList end) lists
    → AllByRecursion (IsList (address + 1)) (with_address term address lists)
lists-with_address term address end [] t l a =
    (record { term = t; filled = omega arith; ascend = (omega arith, omega arith) }, tt)
lists-with_address term address end (list ∷ lists) t l a =
    let higher : (xs : Lists) → AllByRecursion (IsList end) xs → AllByRecursion (IsList (address + 1)) xs =
    raised end (address + 1) (omega arith) in
    elim (pointwise nat_eq term list.0) as
    (λ b. AllByRecursion (IsList (address + 1)) (cond b ((list.0, list.1 ++ address ∷ []) ∷ lists)
    (list ∷ with_address term address lists))) [
      | true ↦ (
        record { term = a.0.term; filled = length_push address list.1; ascend = ascend-push 0 end address list.1 l a.0.ascend },
        higher lists a.1,
      )
      | false ↦ (
        record { term = a.0.term; filled = a.0.filled; ascend = ascend-higher 0 end (address + 1) list.1 (omega arith) a.0.ascend },
        lists-with_address term address end lists t l a.1,
      )
    ]

-- the low address stays
pub low-with_terms : (terms : List (List ℕ)) (memory : Memory) (start : ℕ) → (with_terms memory start terms).low ≡ memory.low
low-with_terms [] memory start = refl
low-with_terms (first ∷ terms) memory start = low-with_terms terms (with_posting memory start first) (start + 1)

-- no postings
pub has-none : (low high : ℕ) (memory : Memory) → memory.lists ≡ [] → memory.stored ≡ 0 → low ≤ high → HasPostings low high memory []
has-none low high memory l s b = record {
  addresses = λ term. ap (found_in term) l;
  stored = s;
  ascend = b;
}

-- the same postings, below a higher address
pub has-raised : (low high most end : ℕ) (memory higher : Memory) (postings : List Posting) → higher ≡ record memory { end = end }
    → high ≤ most → HasPostings low high memory postings → HasPostings low most higher postings
has-raised low high most end memory higher postings e l h = record {
  addresses = λ term. ap (λ (m : Memory). held m term) e ∙ h.addresses term;
  stored = ap (λ (m : Memory). m.stored) e ∙ h.stored;
  ascend = Ascend-below low high most postings l h.ascend;
}

-- one more posting, at the end
pub has-with_posting : (low high : ℕ) (memory : Memory) (term : List ℕ) (postings : List Posting) → memory.end ≡ high
    → HasPostings low high memory postings
    → HasPostings low (high + 1) (with_posting memory high term) (postings ++ record { address = high; term = term } ∷ [])
has-with_posting low high memory term postings e h =
    let more : List Posting = record { address = high; term = term } ∷ [] in
    record {
      addresses = λ other.
          held-with_terms (term ∷ []) memory high other
          ∙ ap (λ (l : List ℕ). l ++ addresses_of other more) (h.addresses other)
          ∙ sym (addresses_of-append other postings more);
      stored = omega (arith, h.stored, length-append postings more);
      ascend = Ascend-append low high (high + 1) postings more h.ascend (omega arith, omega arith);
    }

-- one more token of several
pub add_more : (tokens : List Token) (place : ℕ) (token : Token) (memory before : Memory) (start : ℕ) (term : List ℕ)
    → place < length tokens → token ≡ get_or tokens place token → term ≡ token.term
    → before ≡ with_terms memory start (map (λ (t : Token). t.term) (take place tokens))
    → with_posting before (start + place) term ≡ with_terms memory start (map (λ (t : Token). t.term) (take (place + 1) tokens))
add_more tokens place token memory before start term h is t b =
    let front : List (List ℕ) = map (λ (x : Token). x.term) (take place tokens) in
    let more : take (place + 1) tokens ≡ take place tokens ++ token ∷ [] =
    take_more tokens place token h ∙ ap (λ (x : Token). take place tokens ++ x ∷ []) (sym is) in
    let whole : map (λ (x : Token). x.term) (take (place + 1) tokens) ≡ front ++ token.term ∷ [] =
    ap (map (λ (x : Token). x.term)) more ∙ map-append (λ (x : Token). x.term) (take place tokens) (token ∷ []) in
    let count : length front ≡ place = length-map (take place tokens) (λ (x : Token). x.term) ∙ length-take place tokens ∙ omega arith in
    ap (λ (m : Memory). with_posting m (start + place) term) b
    ∙ ap (λ (l : List ℕ). with_posting (with_terms memory start front) (start + place) l) t
    ∙ ap (λ (n : ℕ). with_posting (with_terms memory start front) (start + n) token.term) (sym count)
    ∙ sym (with_terms-push front token.term memory start)
    ∙ ap (with_terms memory start) (sym whole)

-- the end after some tokens
pub end_of_front : (tokens : List Token) (place : ℕ) (memory before : Memory) (start : ℕ) → place ≤ length tokens → memory.end ≡ start
    → before ≡ with_terms memory start (map (λ (t : Token). t.term) (take place tokens)) → before.end ≡ start + place
end_of_front tokens place memory before start l e b =
    omega (
      arith,
      ap (λ (m : Memory). m.end) b,
      end_of_some (map (λ (t : Token). t.term) (take place tokens)) memory start e,
      length-map (take place tokens) (λ (t : Token). t.term),
      length-take place tokens,
    )

pub low_of_front : (tokens : List Token) (place : ℕ) (memory before : Memory) (start : ℕ)
    → before ≡ with_terms memory start (map (λ (t : Token). t.term) (take place tokens)) → before.low ≡ memory.low
low_of_front tokens place memory before start b =
    ap (λ (m : Memory). m.low) b ∙ low-with_terms (map (λ (t : Token). t.term) (take place tokens)) memory start

-- where a posting follows, it decides the end
pub with_terms-passed : (terms : List (List ℕ)) (memory : Memory) (start : ℕ) → 0 < length terms
    → with_terms (record memory { end = start }) start terms ≡ with_terms memory start terms
with_terms-passed [] memory start l = absurd (omega arith)
with_terms-passed (first ∷ terms) memory start l = refl
