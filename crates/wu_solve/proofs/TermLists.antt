-- Looking for a term in lists that ascend by their terms.
use Rattle.std.proofs.Common.{◌≡◌, ℕ, zero, suc, ◌<◌, ◌≤◌, Bool, true, false, ◌⊎◌, List, [], ◌∷◌, length, take, drop, get_or, map, refl}
use Rattle.std.proofs.Common.{sym, ap, ◌∙◌, subst, inl, inr, arith, Ordering, Less, Equal, Greater, is_eq}
use Rattle.std.proofs.lemmas.Bool.{false≢true}
use Rattle.std.proofs.Math.Bool.{or-false}
use Rattle.std.proofs.lemmas.List.{get_or_default}
use Rattle.std.specs.Prelude.{nat_eq, Ok, Err, ◌&&◌, ◌||◌}
use Rattle.std.specs.List.{AllByRecursion}
use Rattle.std.specs.List.Sorted.{IsStrictlySortedBy, IsBinarySearchResult}
use Rattle.std.specs.Cmp.Lexicographic.{pointwise, slice_cmp, nat_list_cmp_total, nat_list_eq_equiv, texts_ties}
use Rattle.std.specs.Ordering.{nat_cmp, ordering_reverse, ordering_index}
use Rattle.wu_base.specs.declared.addresses.TermList.{TermList}
use Rattle.wu_solve.specs.Addresses.{is_among, has_address, IsOther, IsListOf}

abbrev text_cmp : List ℕ → List ℕ → Ordering
text_cmp a b = slice_cmp nat_cmp a b

abbrev terms : List TermList → List (List ℕ)
terms lists = map (λ (list : TermList). list.term) lists

abbrev IsSortedByTerm : List TermList → Type 0
IsSortedByTerm lists = IsStrictlySortedBy (slice_cmp nat_cmp) (terms lists)

reversed : (a b : List ℕ) (o : Ordering) → text_cmp a b ≡ o → text_cmp b a ≡ ordering_reverse o
reversed a b o is = nat_list_cmp_total.antisymm b a ∙ ap ordering_reverse is

-- terms that differ by their bytes
differs : (term : List ℕ) (list : TermList) (o : Ordering) → text_cmp list.term term ≡ o → is_eq (ordering_reverse o) ≡ false
    → IsOther term list
differs term list o is other = texts_ties term list.term ∙ ap is_eq (reversed list.term term o is) ∙ other

-- facts of each place, as facts of the list

all_taken : (P : TermList → Type 0) (n : ℕ) (lists : List TermList)
    → ((k : ℕ) (d : TermList) → k < n → k < length lists → P (get_or lists k d)) → AllByRecursion P (take n lists)
all_taken P zero lists each = tt
all_taken P (suc n) [] each = tt
all_taken P (suc n) (list ∷ lists) each =
    (each 0 list (omega arith) (omega arith), all_taken P n lists (λ k d low within. each (suc k) d (omega arith) (omega arith)))

all_dropped : (P : TermList → Type 0) (n : ℕ) (lists : List TermList)
    → ((k : ℕ) (d : TermList) → n ≤ k → k < length lists → P (get_or lists k d)) → AllByRecursion P (drop n lists)
all_dropped P zero [] each = tt
all_dropped P zero (list ∷ lists) each =
    (each 0 list (omega arith) (omega arith), all_dropped P zero lists (λ k d low within. each (suc k) d (omega arith) (omega arith)))
all_dropped P (suc n) [] each = tt
all_dropped P (suc n) (list ∷ lists) each = all_dropped P n lists (λ k d high within. each (suc k) d (omega arith) (omega arith))

-- the lists ascend

term_at : (P : List ℕ → Type 0) (lists : List TermList) (i : ℕ) (d : TermList) → i < length lists → AllByRecursion P (terms lists)
    → P (get_or lists i d).term
term_at P [] i d within all = absurd (omega arith)
term_at P (list ∷ lists) zero d within all = all.0
term_at P (list ∷ lists) (suc i) d within all = term_at P lists i d (omega arith) all.1

ascends : (lists : List TermList) (i j : ℕ) (d : TermList) → IsSortedByTerm lists → i < j → j < length lists
    → text_cmp (get_or lists i d).term (get_or lists j d).term ≡ Less
unfolding IsStrictlySortedBy
ascends [] i j d up less within = absurd (omega arith)
ascends (list ∷ lists) i zero d up less within = absurd (omega arith)
ascends (list ∷ lists) zero (suc j) d up less within = term_at (λ other. text_cmp list.term other ≡ Less) lists j d (omega arith) up.0
ascends (list ∷ lists) (suc i) (suc j) d up less within = ascends lists i j d up.1 (omega arith) (omega arith)

-- of ascending terms, the answers of a comparison rise
answers_rise : (a b term : List ℕ) (o : Ordering) → text_cmp a b ≡ Less → text_cmp b term ≡ o
    → ordering_index (text_cmp a term) ≤ ordering_index o
answers_rise a b term Less up is = rw (nat_list_cmp_total.trans a b term up is) (omega arith)
answers_rise a b term Equal up is =
    let less : text_cmp a term ≡ Less = reversed term a Greater (sym (nat_list_cmp_total.congr b term a is) ∙ reversed a b Less up) in
    rw less (omega arith)
answers_rise a b term Greater up is = at_most (text_cmp a term)
  where
    at_most : (o : Ordering) → ordering_index o ≤ 2
    at_most Less = omega arith
    at_most Equal = omega arith
    at_most Greater = omega arith

never_falls : (lists : List TermList) (term : List ℕ) → IsSortedByTerm lists → (i j : ℕ) (d : TermList) → i ≤ j → j < length lists →
    ordering_index (text_cmp (get_or lists i d).term term) ≤ ordering_index (text_cmp (get_or lists j d).term term)
never_falls lists term up i j d low within =
    let cases : (i ≡ j) ⊎ (i < j) = grind arith in
    elim cases [
      | inl same ↦ rw same (omega arith)
      | inr less ↦ answers_rise (get_or lists i d).term (get_or lists j d).term term _ (ascends lists i j d up less within) refl
    ]

-- what a binary search for the term says

pub not_found : (lists : List TermList) (term : List ℕ) (place : ℕ) → IsSortedByTerm lists
    → IsBinarySearchResult (λ (list : TermList). text_cmp list.term term) lists (Err place) → AllByRecursion (IsOther term) lists
not_found lists term place up is =
    let split = is (never_falls lists term up) in
    all_dropped (IsOther term) zero lists (λ k d low within.
    let cases : (k < place) ⊎ (place ≤ k) = grind arith in
    elim cases [
      | inl front ↦ differs term (get_or lists k d) Less (split.0 k d (omega arith) front) refl
      | inr back ↦ differs term (get_or lists k d) Greater (split.1 k d back within) refl
    ])

pub found : (lists : List TermList) (term : List ℕ) (place : ℕ) → IsSortedByTerm lists → place < length lists
    → IsBinarySearchResult (λ (list : TermList). text_cmp list.term term) lists (Ok place) → IsListOf term lists place
found lists term place up within is = record {
  within = within;
  same = λ d. texts_ties term (get_or lists place d).term ∙ ap is_eq (reversed (get_or lists place d).term term Equal (is d));
  before = all_taken (IsOther term) place lists (λ k d less inside.
      let here = get_or lists place d in
      let greater : text_cmp term (get_or lists k d).term
      ≡ Greater = sym (nat_list_cmp_total.congr here.term term (get_or lists k d).term (is d))
      ∙ reversed (get_or lists k d).term here.term Less (ascends lists k place d up less within) in
      differs term (get_or lists k d) Less (reversed term (get_or lists k d).term Greater greater) refl);
  after = all_dropped (IsOther term) (suc place) lists (λ k d more inside.
      let here = get_or lists place d in
      let less : text_cmp term (get_or lists k d).term ≡ Less = sym (nat_list_cmp_total.congr here.term term (get_or lists k d).term (is d))
      ∙ ascends lists place k d up (omega arith) inside in
      differs term (get_or lists k d) Greater (reversed term (get_or lists k d).term Less less) refl);
}

-- the same where the list's term is the one sought
pub found_again : (lists : List TermList) (term : List ℕ) (place : ℕ) (e : TermList) → IsSortedByTerm lists → place < length lists
    → pointwise nat_eq (get_or lists place e).term term ≡ true → IsListOf term lists place
found_again lists term place e up within same =
    found lists term place up within (λ d.
    let there : get_or lists place e ≡ get_or lists place d = get_or_default lists place e d within in
    subst (λ (list : TermList). text_cmp list.term term ≡ Equal) there
    (equal_is (text_cmp (get_or lists place e).term term) (sym (texts_ties (get_or lists place e).term term) ∙ same)))
  where
    equal_is : (o : Ordering) → is_eq o ≡ true → o ≡ Equal
    equal_is Less is = absurd (false≢true is)
    equal_is Equal is = refl
    equal_is Greater is = absurd (false≢true is)

-- the addresses of the term

passed_over : (list : TermList) (term : List ℕ) (a : ℕ) (rest : Bool) → IsOther term list
    → (pointwise nat_eq list.term term && is_among list.at a || rest) ≡ rest
passed_over list term a rest other = rw (nat_list_eq_equiv.symm list.term term ∙ other) refl

pub no_addresses : (lists : List TermList) (term : List ℕ) (a : ℕ) → AllByRecursion (IsOther term) lists → has_address lists term a ≡ false
no_addresses [] term a others = refl
no_addresses (list ∷ lists) term a others = passed_over list term a (has_address lists term a) others.0 ∙ no_addresses lists term a others.1

pub addresses_at : (lists : List TermList) (term : List ℕ) (place : ℕ) (d : TermList) → IsListOf term lists place → (a : ℕ)
    → is_among (get_or lists place d).at a ≡ has_address lists term a
addresses_at lists term place d is a = go lists place is.within (is.same d) is.before is.after
  where
    go : (ls : List TermList) (k : ℕ) → k < length ls → pointwise nat_eq term (get_or ls k d).term ≡ true
        → AllByRecursion (IsOther term) (take k ls) → AllByRecursion (IsOther term) (drop (suc k) ls)
        → is_among (get_or ls k d).at a ≡ has_address ls term a
    go [] k within same before after = absurd (omega arith)
    go (list ∷ ls) zero within same before after = sym
        (rw (nat_list_eq_equiv.symm list.term term ∙ same, no_addresses ls term a after) (or-false (is_among list.at a)))
    go (list ∷ ls) (suc k) within same before after = go ls k (omega arith) same before.1 after
        ∙ sym (passed_over list term a (has_address ls term a) before.0)
