-- Lists that are numbered one after another, an address at a time.
use Rattle.std.proofs.Common.{◌≡◌, ◌≢◌, inl, ℕ, zero, suc, ◌+◌, ◌<◌, ◌==◌, Bool, true, false, ◌||◌, not, List, [], ◌∷◌, ◌++◌}
use Rattle.std.proofs.Common.{length, map, take, drop, get_or, filter, refl, ap, sym, ◌∙◌, subst, arith, append_assoc, append-nil, replicate, set}
use Rattle.std.specs.Prelude.{Option, None, Some, IfSome, eqb, is_some}
use Rattle.std.specs.List.{IsDistinct}
use Rattle.std.proofs.lemmas.Bool.{eq-eqb, eqb-true}
use Rattle.std.proofs.lemmas.List.{take-append-drop, get_or-replicate, get_or-set_same, get_or-set_other}
use Rattle.std.proofs.lemmas.Option.{same_Some}
use Rattle.wu_base.specs.declared.addresses.Range.{Range}
use Rattle.wu_base.specs.declared.addresses.TermList.{TermList}
use Rattle.wu_check.specs.Numbering.{AreNumbers, has, number_of}
use Rattle.wu_check.specs.Numbered.{addresses_in, has_place, with_list}
use Rattle.wu_check.specs.Places.{place_of, total_of}
use Rattle.wu_check.proofs.NumberLemmas.{or_number, number_of-more, has-append, has_in, some_has, none_has, apart, false_true}
use Rattle.wu_check.proofs.DistinctNumbers.{distinct-kept, filter-kept, filter-left}
use Rattle.wu_check.proofs.Placing.{drop_next, place_once, place_within}

-- ---- one list more, as far as its addresses were numbered

pub addresses-list : (lists : List TermList) (term addresses : List ℕ)
    → addresses_in (with_list lists term addresses) ≡ addresses_in lists ++ addresses
addresses-list [] term addresses = append-nil addresses
addresses-list (list ∷ lists) term addresses =
    ap (λ xs. list.at ++ xs) (addresses-list lists term addresses) ∙ sym (append_assoc list.at (addresses_in lists) addresses)

pub addresses-none : (lists : List TermList) (term : List ℕ) → addresses_in (with_list lists term []) ≡ addresses_in lists
addresses-none lists term = addresses-list lists term [] ∙ append-nil (addresses_in lists)

pub addresses-more : (lists : List TermList) (term addresses more : List ℕ)
    → addresses_in (with_list lists term (addresses ++ more)) ≡ addresses_in (with_list lists term addresses) ++ more
addresses-more lists term addresses more =
    addresses-list lists term (addresses ++ more)
    ∙ sym (append_assoc (addresses_in lists) addresses more)
    ∙ ap (λ xs. xs ++ more) (sym (addresses-list lists term addresses))

or_not : (m n : ℕ) → or_number m false n ≡ m
or_not zero n = refl
or_not (suc m) n = refl

or_none : (m : ℕ) (here : Bool) (n : ℕ) → or_number m here (suc n) ≡ 0 → (m ≡ 0) × (here ≡ false)
or_none zero true n e = absurd (omega (arith, e))
or_none zero false n e = (refl, refl)
or_none (suc m) here n e = absurd (omega (arith, e))

or_here : (m : ℕ) (before here : Bool) (n : ℕ) → m ≡ 0 → here ≡ true → or_number m (before || here) n ≡ n
or_here zero true true n e h = refl
or_here zero false true n e h = refl
or_here zero before false n e h = absurd (false_true h)
or_here (suc m) before here n e h = absurd (omega (arith, e))

or_away : (m : ℕ) (before here : Bool) (n : ℕ) → here ≡ false → or_number m (before || here) n ≡ or_number m before n
or_away zero true false n h = refl
or_away zero false false n h = refl
or_away zero before true n h = absurd (false_true (sym h))
or_away (suc m) before here n h = refl

-- a list without addresses changes no number
pub numbers-list : (ranges : List Range) (lists : List TermList) (term numbers : List ℕ) → AreNumbers ranges lists numbers
    → AreNumbers ranges (with_list lists term []) numbers
numbers-list ranges lists term numbers are address =
    elim (place_of ranges address) as (λ o. IfSome o (λ place. get_or numbers place 0 ≡ number_of lists address)
    → IfSome o (λ place. get_or numbers place 0 ≡ number_of (with_list lists term []) address)) [
      | None ↦ λ h. tt
      | Some place ↦ λ h. h ∙ sym (number_of-more lists (record { term = term; at = [] }) address ∙ or_not (number_of lists address) (suc (length lists)))
    ] (are address)

module _ (ranges : List Range) (lists : List TermList) (term addresses numbers : List ℕ) (x : ℕ)
    (are : AreNumbers ranges (with_list lists term addresses) numbers) where
  abbrev more : List ℕ
  more = addresses ++ x ∷ []

  abbrev own : ℕ
  own = suc (length lists)

  number_before : (a : ℕ) → number_of (with_list lists term addresses) a ≡ or_number (number_of lists a) (has addresses a) own
  number_before a = number_of-more lists (record { term = term; at = addresses }) a

  number_after : (a : ℕ) → number_of (with_list lists term more) a ≡ or_number (number_of lists a) (has addresses a || has (x ∷ []) a) own
  number_after a =
      number_of-more lists (record { term = term; at = more }) a
      ∙ ap (λ b. or_number (number_of lists a) b own) (has-append addresses (x ∷ []) a)

  away : (a : ℕ) → (x == a) ≡ false → number_of (with_list lists term more) a ≡ number_of (with_list lists term addresses) a
  away a e =
      let here : has (x ∷ []) a ≡ false = rw e refl in
      number_after a ∙ or_away (number_of lists a) (has addresses a) (has (x ∷ []) a) own here ∙ sym (number_before a)

  -- an address without a place
  pub numbers_outside : place_of ranges x ≡ None → AreNumbers ranges (with_list lists term more) numbers
  numbers_outside none a =
      elim (place_of ranges a) as (λ o. place_of ranges a ≡ o
      → IfSome o (λ place. get_or numbers place 0 ≡ number_of (with_list lists term addresses) a)
      → IfSome o (λ place. get_or numbers place 0 ≡ number_of (with_list lists term more) a)) [
        | None ↦ λ e h. tt
        | Some place ↦ λ e h.
            h ∙ sym
            (away a (elim (x == a) as (λ b. (x == a) ≡ b → b ≡ false) [
              | true ↦ λ s.
                  let same : place_of ranges x ≡ place_of ranges a = ap (place_of ranges) (eqb-true x a s) in
                  let two : None ≡ Some place = sym none ∙ (same ∙ e) in absurd cc
              | false ↦ λ s. refl
            ] refl))
      ] refl (are a)

  module _ (place : ℕ) (there : place_of ranges x ≡ Some place) where
    if_there : (o : Option ℕ) (P : ℕ → Type 0) → o ≡ Some place → IfSome o P → P place
    if_there o P e h = subst (λ (v : Option ℕ). IfSome v P) e h

    pub number_there : get_or numbers place 0 ≡ number_of (with_list lists term addresses) x
    number_there = if_there (place_of ranges x) (λ p. get_or numbers p 0 ≡ number_of (with_list lists term addresses) x) there (are x)

    -- an address with a place where no number stands
    pub numbers_inside : get_or numbers place 0 ≡ 0 → place < length numbers
        → AreNumbers ranges (with_list lists term more) (set numbers place own)
    numbers_inside free within a =
        let old : or_number (number_of lists x) (has addresses x) own ≡ 0 = sym (number_before x) ∙ (sym number_there ∙ free) in
        let none = or_none (number_of lists x) (has addresses x) (length lists) old in
        elim (place_of ranges a) as (λ o. place_of ranges a ≡ o
        → IfSome o (λ p. get_or numbers p 0 ≡ number_of (with_list lists term addresses) a)
        → IfSome o (λ p. get_or (set numbers place own) p 0 ≡ number_of (with_list lists term more) a)) [
          | None ↦ λ e h. tt
          | Some p ↦ λ e h.
              elim (x == a) as (λ b. (x == a) ≡ b → get_or (set numbers place own) p 0 ≡ number_of (with_list lists term more) a) [
                | true ↦ λ s.
                    let is : x ≡ a = eqb-true x a s in
                    let same : p ≡ place = same_Some p place (sym e ∙ (ap (place_of ranges) (sym is) ∙ there)) in
                    let here : has (x ∷ []) a ≡ true = rw s refl in
                    let zero_there : number_of lists a ≡ 0 = subst (λ (v : ℕ). number_of lists v ≡ 0) is none.0 in
                    subst (λ (q : ℕ). get_or (set numbers place own) q 0 ≡ own) (sym same) (get_or-set_same numbers place own 0 within)
                    ∙ sym (number_after a ∙ or_here (number_of lists a) (has addresses a) (has (x ∷ []) a) own zero_there here)
                | false ↦ λ s.
                    let other : p ≢ place = λ q.
                    let is : x ≡ a = place_once ranges x a place there (e ∙ ap Some q) in
                    false_true (sym s ∙ eq-eqb x a is) in
                    get_or-set_other numbers place p own 0 other ∙ h ∙ sym (away a s)
              ] refl
        ] refl (are a)

    -- no list has that address
    pub new_there : get_or numbers place 0 ≡ 0 → has (addresses_in (with_list lists term addresses)) x ≡ false
    new_there free = none_has (with_list lists term addresses) x (sym number_there ∙ free)

    -- where a number stands one has it
    pub old_there : 0 < get_or numbers place 0 → has (addresses_in (with_list lists term addresses)) x ≡ true
    old_there some = some_has (with_list lists term addresses) x (omega (arith, some, number_there))

-- an address that stands in one of the lists and comes again
pub shared : (lists : List TermList) (term addresses rest : List ℕ) (x : ℕ)
    → has (addresses_in (with_list lists term addresses)) x ≡ true
    → IsDistinct eqb (addresses_in (with_list lists term (addresses ++ x ∷ rest))) → ⊥
shared lists term addresses rest x here distinct =
    let all = addresses_in (with_list lists term addresses) in
    apart x all (x ∷ rest) (subst (IsDistinct eqb) (addresses-more lists term addresses (x ∷ rest)) distinct) (has_in x all here) (inl refl)

-- no list has a number
pub none_numbered : (ranges : List Range) (n : ℕ) (numbers : List ℕ) → numbers ≡ replicate n 0 → n ≡ total_of ranges
    → AreNumbers ranges [] numbers
none_numbered ranges n numbers e total address =
    elim (place_of ranges address) as (λ o. place_of ranges address ≡ o → IfSome o (λ place. get_or numbers place 0 ≡ 0)) [
      | None ↦ λ is. tt
      | Some place ↦ λ is.
          let within : place < n = omega (arith, place_within ranges address place is, total) in
          ap (λ ns. get_or ns place 0) e ∙ get_or-replicate n place 0 0 within
    ] refl

-- ---- what else is told of the lists with one address more

pub terms-list : (lists : List TermList) (term addresses : List ℕ)
    → map (λ list. list.term) (with_list lists term addresses) ≡ map (λ list. list.term) lists ++ term ∷ []
terms-list [] term addresses = refl
terms-list (list ∷ lists) term addresses = ap (λ ts. list.term ∷ ts) (terms-list lists term addresses)

pub terms-more : (lists : List TermList) (term addresses more : List ℕ)
    → map (λ list. list.term) (with_list lists term addresses) ≡ map (λ list. list.term) (with_list lists term more)
terms-more lists term addresses more = terms-list lists term addresses ∙ sym (terms-list lists term more)

module _ (ranges : List Range) (lists : List TermList) (term addresses : List ℕ) (x : ℕ) where
  abbrev outside : ℕ → Bool
  outside address = not (has_place ranges address)

  abbrev so_far : List ℕ
  so_far = addresses_in (with_list lists term addresses)

  abbrev with_one : List ℕ
  with_one = addresses_in (with_list lists term (addresses ++ x ∷ []))

  one_more_address : with_one ≡ so_far ++ x ∷ []
  one_more_address = addresses-more lists term addresses (x ∷ [])

  module _ (none : place_of ranges x ≡ None) where
    placeless : has_place ranges x ≡ false
    placeless = ap is_some none

    pub others_outside : filter outside with_one ≡ filter outside so_far ++ x ∷ []
    others_outside = ap (filter outside) one_more_address ∙ filter-kept outside so_far x (ap not placeless)

    pub distinct_outside : IsDistinct eqb (filter (has_place ranges) so_far) → IsDistinct eqb (filter (has_place ranges) with_one)
    distinct_outside d =
        subst (IsDistinct eqb) (sym (ap (filter (has_place ranges)) one_more_address ∙ filter-left (has_place ranges) so_far x placeless)) d

  module _ (place : ℕ) (there : place_of ranges x ≡ Some place) where
    placed : has_place ranges x ≡ true
    placed = ap is_some there

    pub others_inside : filter outside with_one ≡ filter outside so_far
    others_inside = ap (filter outside) one_more_address ∙ filter-left outside so_far x (ap not placed)

    pub distinct_inside : has so_far x ≡ false → IsDistinct eqb (filter (has_place ranges) so_far)
        → IsDistinct eqb (filter (has_place ranges) with_one)
    distinct_inside new d =
        subst (IsDistinct eqb) (sym (ap (filter (has_place ranges)) one_more_address))
        (distinct-kept (has_place ranges) so_far x placed new d)

-- what stands at a place doesn't depend on what would stand there otherwise
pub get_or_any : (xs : List ℕ) (i d e : ℕ) → i < length xs → get_or xs i d ≡ get_or xs i e
get_or_any [] i d e l = absurd (omega arith)
get_or_any (x ∷ xs) zero d e l = refl
get_or_any (x ∷ xs) (suc i) d e l = get_or_any xs i d e (omega arith)

pub cut_at_place : (xs : List ℕ) (i : ℕ) → i < length xs → xs ≡ take i xs ++ get_or xs i 0 ∷ drop (i + 1) xs
cut_at_place xs i l = sym (take-append-drop i xs) ∙ ap (λ ys. take i xs ++ ys) (drop_next xs i 0 l)
