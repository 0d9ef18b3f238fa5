-- The numbers of lists at addresses: as a list is added, and what the terms of these numbers are.
use Rattle.std.proofs.Common.{◌≡◌, ◌⊎◌, inl, inr, ℕ, zero, suc, ◌+◌, ◌-◌, ◌<◌, ◌≤◌, ◌==◌, Bool, true, false, ◌&&◌, ◌||◌, List, [], ◌∷◌, ◌++◌, length, refl, ap}
use Rattle.std.proofs.Common.{sym, ◌∙◌, subst, map, get_or, arith, append_assoc}
use Rattle.std.specs.Prelude.{if◌then◌else◌, nat_eq, nat_lt, eqb, Contains}
use Rattle.std.specs.Cmp.Lexicographic.{pointwise, same_text}
use Rattle.std.proofs.lemmas.Cmp.{nat_list_eq_equiv}
use Rattle.std.proofs.lemmas.Bool.Decides.{nat_tests}
use Rattle.std.specs.List.{IsDistinct}
use Rattle.std.proofs.Common.{⊎_elim}
use Rattle.std.proofs.lemmas.Bool.{eq-eqb, eqb-true, or_cases}
use Rattle.wu_base.specs.declared.addresses.TermList.{TermList}
use Rattle.wu_base.proofs.Members.{Has, Has-append_left, Has-append_right, Has-from_Contains, Contains-from_Has, all_from_has, all_has}
use Rattle.wu_check.specs.Terms.{HaveTermAt, HaveTermsFrom}
use Rattle.wu_check.specs.Comparing.{are_numbers_of, is_number_of}
use Rattle.wu_check.specs.Numbering.{has, number_of, one_more}
use Rattle.wu_check.specs.Numbered.{addresses_in}

-- ---- one list more

-- the number where one more list has the address or not, which has the number n if no list before has it
abbrev pub or_number : ℕ → Bool → ℕ → ℕ
or_number zero here n = if here then n else 0
or_number (suc m) here n = suc m

or_one_more : (m : ℕ) (here : Bool) (n : ℕ) → one_more (or_number m here (suc n)) ≡ or_number (one_more m) here (suc (suc n))
or_one_more zero true n = refl
or_one_more zero false n = refl
or_one_more (suc m) here n = refl

if_same : (b : Bool) (m n k : ℕ) → m ≡ n → (if b then k else m) ≡ (if b then k else n)
if_same b m n k e = ap (λ x. if b then k else x) e

or_if : (b : Bool) (m : ℕ) (here : Bool) (n : ℕ) → (if b then 1 else or_number m here n) ≡ or_number (if b then 1 else m) here n
or_if true m here n = refl
or_if false m here n = refl

pub number_of-more : (lists : List TermList) (list : TermList) (address : ℕ)
    → number_of (lists ++ list ∷ []) address ≡ or_number (number_of lists address) (has list.at address) (suc (length lists))
number_of-more [] list address = refl
number_of-more (first ∷ lists) list address =
    let b = has first.at address in
    let here = has list.at address in
    ap (λ x. if b then 1 else x) (ap one_more (number_of-more lists list address) ∙ or_one_more (number_of lists address) here (length lists))
    ∙ or_if b (one_more (number_of lists address)) here (suc (suc (length lists)))

-- ---- addresses in lists

or_false : (b : Bool) → (b || false) ≡ b
or_false true = refl
or_false false = refl

or_assoc : (a b c : Bool) → ((a || b) || c) ≡ (a || (b || c))
or_assoc true b c = refl
or_assoc false b c = refl

or_true : (b : Bool) → (b || true) ≡ true
or_true true = refl
or_true false = refl

pub has-append : (xs ys : List ℕ) (address : ℕ) → has (xs ++ ys) address ≡ (has xs address || has ys address)
has-append [] ys address = refl
has-append (x ∷ xs) ys address =
    ap (λ b. (x == address) || b) (has-append xs ys address) ∙ sym (or_assoc (x == address) (has xs address) (has ys address))

no_number_more : (m : ℕ) → one_more m ≡ 0 → m ≡ 0
no_number_more zero e = refl
no_number_more (suc m) e = absurd (omega (arith, e))

none_if : (b : Bool) (m : ℕ) → (if b then 1 else one_more m) ≡ 0 → (b ≡ false) × (m ≡ 0)
none_if true m e = absurd (omega (arith, e))
none_if false m e = (refl, no_number_more m e)

-- an address without a number is in no list
pub none_has : (lists : List TermList) (address : ℕ) → number_of lists address ≡ 0 → has (addresses_in lists) address ≡ false
none_has [] address e = refl
none_has (list ∷ lists) address e =
    let both = none_if (has list.at address) (number_of lists address) e in
    has-append list.at (addresses_in lists) address ∙ ap (λ b. b || has (addresses_in lists) address) both.0
    ∙ none_has lists address both.1

some_if : (b : Bool) (m : ℕ) → 0 < (if b then 1 else one_more m) → (b ≡ true) ⊎ (0 < m)
some_if true m l = inl refl
some_if false zero l = absurd (omega (arith, l))
some_if false (suc m) l = inr (omega arith)

-- one with a number is in one
pub some_has : (lists : List TermList) (address : ℕ) → 0 < number_of lists address → has (addresses_in lists) address ≡ true
some_has [] address l = absurd (omega (arith, l))
some_has (list ∷ lists) address l =
    has-append list.at (addresses_in lists) address
    ∙ (elim (some_if (has list.at address) (number_of lists address) l) [
      | inl e ↦ ap (λ b. b || has (addresses_in lists) address) e
      | inr m ↦ ap (λ b. has list.at address || b) (some_has lists address m) ∙ or_true (has list.at address)
    ])

-- ---- distinct addresses

pub false_true : false ≡ true → ⊥
false_true e = absurd cc

and_first : (a b : Bool) → (a && b) ≡ true → a ≡ true
and_first true b h = refl
and_first false b h = absurd (false_true h)

and_second : (a b : Bool) → (a && b) ≡ true → b ≡ true
and_second true b h = h
and_second false b h = absurd (false_true h)

pub has_in : (address : ℕ) (xs : List ℕ) → has xs address ≡ true → Has address xs
has_in address [] h = absurd (false_true h)
has_in address (x ∷ xs) h =
    ⊎_elim (λ e. inl (eqb-true x address e)) (λ i. inr (has_in address xs i)) (or_cases (x == address) (has xs address) h)

pub in_has : (address : ℕ) (xs : List ℕ) → Has address xs → has xs address ≡ true
in_has address [] h = absurd h
in_has address (x ∷ xs) h =
    ⊎_elim (λ (e : x ≡ address). ap (λ b. b || has xs address) (eq-eqb x address e))
    (λ i. ap (λ b. (x == address) || b) (in_has address xs i) ∙ or_true (x == address)) h

pub contains_has : (address : ℕ) (xs : List ℕ) → Contains xs address → has xs address ≡ true
contains_has address xs h = in_has address xs (Has-from_Contains address xs h)

pub distinct_right : (xs ys : List ℕ) → IsDistinct eqb (xs ++ ys) → IsDistinct eqb ys
unfolding IsDistinct
distinct_right [] ys d = d
distinct_right (x ∷ xs) ys d = distinct_right xs ys d.1

addresses-append : (lists others : List TermList) → addresses_in (lists ++ others) ≡ addresses_in lists ++ addresses_in others
addresses-append [] others = refl
addresses-append (list ∷ lists) others =
    ap (λ xs. list.at ++ xs) (addresses-append lists others) ∙ sym (append_assoc list.at (addresses_in lists) (addresses_in others))

front_distinct : (xs ys : List ℕ) → IsDistinct eqb (xs ++ ys) → IsDistinct eqb xs
unfolding IsDistinct
front_distinct [] ys d = tt
front_distinct (x ∷ xs) ys d = (
  all_from_has (λ y. eqb x y ≡ false) xs (λ y h. all_has (λ v. eqb x v ≡ false) y (xs ++ ys) d.0 (Has-append_left y xs ys h)),
  front_distinct xs ys d.1,
)

-- no address stands in two of the first lists, if none does in two of all
pub distinct_left : (lists others : List TermList) → IsDistinct eqb (addresses_in (lists ++ others)) → IsDistinct eqb (addresses_in lists)
distinct_left lists others d =
    front_distinct (addresses_in lists) (addresses_in others) (subst (IsDistinct eqb) (addresses-append lists others) d)

pub apart : (address : ℕ) (xs ys : List ℕ) → IsDistinct eqb (xs ++ ys) → Has address xs → Has address ys → ⊥
unfolding IsDistinct
apart address [] ys d h g = h
apart address (x ∷ xs) ys d h g =
    ⊎_elim
    (λ (e : x ≡ address).
    let other : eqb x address ≡ false = all_has (λ y. eqb x y ≡ false) address (xs ++ ys) d.0 (Has-append_right address xs ys g) in
    false_true (sym other ∙ eq-eqb x address e))
    (λ i. apart address xs ys d.1 i g) h

pub not_here : (address : ℕ) (xs ys : List ℕ) → IsDistinct eqb (xs ++ ys) → has ys address ≡ true → has xs address ≡ false
not_here address xs ys d h =
    elim (has xs address) as (λ b. has xs address ≡ b → b ≡ false) [
      | true ↦ λ e. absurd (apart address xs ys d (has_in address xs e) (has_in address ys h))
      | false ↦ λ e. refl
    ] refl

-- ---- the term that has the number

same_bytes : (xs ys : List ℕ) → pointwise nat_eq xs ys ≡ true → xs ≡ ys
same_bytes xs ys e = same_text xs ys (sym e)

bytes_same : (xs ys : List ℕ) → xs ≡ ys → pointwise nat_eq xs ys ≡ true
bytes_same xs ys e = subst (λ (l : List ℕ). pointwise nat_eq xs l ≡ true) e (nat_list_eq_equiv.refl xs)

is_number-first : (term : List ℕ) (terms : List (List ℕ)) (token : List ℕ) → is_number_of (term ∷ terms) 1 token ≡ pointwise nat_eq term token
is_number-first term terms token = refl

positive : (n : ℕ) → nat_lt 0 (suc n) ≡ true
positive n = grind (arith, nat_tests)

number_is : (terms : List (List ℕ)) (number : ℕ) (token : List ℕ)
    → is_number_of terms (suc number) token ≡ pointwise nat_eq (get_or terms number []) token
number_is terms number token =
    let first : suc number - 1 ≡ number = omega arith in
    ap (λ b. b && pointwise nat_eq (get_or terms (suc number - 1) []) token) (positive number)
    ∙ ap (λ n. pointwise nat_eq (get_or terms n []) token) first

is_number-later : (term : List ℕ) (terms : List (List ℕ)) (number : ℕ) (token : List ℕ)
    → is_number_of (term ∷ terms) (one_more number) token ≡ is_number_of terms number token
is_number-later term terms zero token = refl
is_number-later term terms (suc number) token = number_is (term ∷ terms) (suc number) token ∙ sym (number_is terms number token)

-- the term with the number of the address is the token
abbrev pub is_token : List TermList → ℕ → List ℕ → Bool
is_token lists address token = is_number_of (map (λ list. list.term) lists) (number_of lists address) token

token_if : (term : List ℕ) (terms : List (List ℕ)) (token : List ℕ) (here : Bool) (number : ℕ)
    → is_number_of (term ∷ terms) (if here then 1 else one_more number) token
    ≡ (if here then pointwise nat_eq term token else is_number_of terms number token)
token_if term terms token true number = is_number-first term terms token
token_if term terms token false number = is_number-later term terms number token

is_token-cons : (list : TermList) (lists : List TermList) (address : ℕ) (token : List ℕ) → is_token (list ∷ lists) address token
    ≡ (if has list.at address then pointwise nat_eq list.term token else is_token lists address token)
is_token-cons list lists address token =
    token_if list.term (map (λ l. l.term) lists) token (has list.at address) (number_of lists address)

pub has_contains : (address : ℕ) (xs : List ℕ) → has xs address ≡ true → Contains xs address
has_contains address xs h = Contains-from_Has address xs (has_in address xs h)

pub has_term : (lists : List TermList) (address : ℕ) (token : List ℕ) → is_token lists address token ≡ true
    → HaveTermAt lists address token
has_term [] address token e = absurd (false_true e)
has_term (list ∷ lists) address token e =
    let cons : (if has list.at address then pointwise nat_eq list.term token else is_token lists address token) ≡ true =
    sym (is_token-cons list lists address token) ∙ e in
    elim (has list.at address) as (λ b. has list.at address ≡ b
    → (if b then pointwise nat_eq list.term token else is_token lists address token) ≡ true → HaveTermAt (list ∷ lists) address token) [
      | true ↦ λ h t. inl (same_bytes list.term token t, has_contains address list.at h)
      | false ↦ λ h t. inr (has_term lists address token t)
    ] refl cons

pub some_address : (lists : List TermList) (address : ℕ) (token : List ℕ) → HaveTermAt lists address token
    → has (addresses_in lists) address ≡ true
some_address [] address token h = absurd h
some_address (list ∷ lists) address token h =
    has-append list.at (addresses_in lists) address
    ∙ (elim h [
      | inl e ↦ ap (λ b. b || has (addresses_in lists) address) (contains_has address list.at e.1)
      | inr i ↦ ap (λ b. has list.at address || b) (some_address lists address token i) ∙ or_true (has list.at address)
    ])

pub lacks_term : (lists : List TermList) (address : ℕ) (token : List ℕ) → IsDistinct eqb (addresses_in lists)
    → HaveTermAt lists address token → is_token lists address token ≡ true
lacks_term [] address token d h = absurd h
lacks_term (list ∷ lists) address token d h =
    is_token-cons list lists address token
    ∙ (elim h [
      | inl e ↦
          ap (λ b. if b then pointwise nat_eq list.term token else is_token lists address token) (contains_has address list.at e.1)
          ∙ bytes_same list.term token e.0
      | inr i ↦
          let later = lacks_term lists address token (distinct_right list.at (addresses_in lists) d) i in
          ap (λ b. if b then pointwise nat_eq list.term token else is_token lists address token)
          (not_here address list.at (addresses_in lists) d (some_address lists address token i)) ∙ later
    ])

-- ---- the tokens of a text

-- the numbers are those of the lists that have so many addresses from start on
abbrev pub AreNumbersFrom : List TermList → ℕ → ℕ → List ℕ → Type 0
AreNumbersFrom lists start count numbers = (i : ℕ) → i < count → get_or numbers i 0 ≡ number_of lists (start + i)

module _ (lists : List TermList) (start count : ℕ) (numbers : List ℕ) (distinct : IsDistinct eqb (addresses_in lists))
    (are : AreNumbersFrom lists start count numbers) where
  abbrev terms : List (List ℕ)
  terms = map (λ list. list.term) lists

  token_at : (place address : ℕ) (token : List ℕ) → address ≡ start + place → place < count
      → is_number_of terms (get_or numbers place 0) token ≡ is_token lists address token
  token_at place address token e l = ap (λ n. is_number_of terms n token) (are place l ∙ ap (number_of lists) (sym e))

  pub have_terms : (tokens : List (List ℕ)) (place address : ℕ) → address ≡ start + place → place + length tokens ≤ count
      → are_numbers_of terms numbers place tokens ≡ true → HaveTermsFrom lists address tokens
  have_terms [] place address e l h = tt
  have_terms (token ∷ tokens) place address e l h =
      let here = is_number_of terms (get_or numbers place 0) token in
      let later = are_numbers_of terms numbers (place + 1) tokens in
      let next : address + 1 ≡ start + (place + 1) = omega (arith, e) in (
        has_term lists address token (sym (token_at place address token e (omega (arith, l))) ∙ and_first here later h),
        have_terms tokens (place + 1) (address + 1) next (omega (arith, l)) (and_second here later h),
      )

  pub terms_same : (tokens : List (List ℕ)) (place address : ℕ) → address ≡ start + place → place + length tokens ≤ count
      → HaveTermsFrom lists address tokens → are_numbers_of terms numbers place tokens ≡ true
  terms_same [] place address e l h = refl
  terms_same (token ∷ tokens) place address e l h =
      let next : address + 1 ≡ start + (place + 1) = omega (arith, e) in
      ap (λ b. b && are_numbers_of terms numbers (place + 1) tokens)
      (token_at place address token e (omega (arith, l)) ∙ lacks_term lists address token distinct h.0)
      ∙ terms_same tokens (place + 1) (address + 1) next (omega (arith, l)) h.1
