-- One list more keeps what can be written as a part.
use Rattle.std.proofs.Common.{◌≡◌, ℕ, ◌<◌, ◌≤◌, eqb, true, false, List, [], ◌∷◌, ◌++◌, length, map, ap, sym, ◌∙◌, subst, arith}
use Rattle.std.proofs.Common.{append_assoc, append-nil, Less}
use Rattle.std.specs.Ordering.{nat_cmp}
use Rattle.std.specs.Cmp.Lexicographic.{slice_cmp}
use Rattle.std.specs.List.{AllByRecursion, IsDistinct}
use Rattle.std.specs.List.Sorted.{IsStrictlySortedBy}
use Rattle.std.proofs.lemmas.List.{map-append}
use Rattle.wu_base.specs.declared.addresses.Range.{Range}
use Rattle.wu_base.specs.declared.addresses.TermList.{TermList}
use Rattle.wu_base.specs.declared.limits.TheConstants.{ADDRESSES_MAX, WORD_MAX}
use Rattle.wu_base.proofs.EachLemmas.{each-append}
use Rattle.wu_layout.specs.Ascending.{AscendBetween}
use Rattle.wu_layout.proofs.Ascending.{addresses_increase, ascend-below}
use Rattle.wu_layout.specs.Postings.{is_live}
use Rattle.wu_part.specs.Parts.{IsList}
use Rattle.wu_part.specs.Writing.{first_of}
use Rattle.wu_job.specs.Jobs.{JobPart, StandWithin, list_for}
use Rattle.wu_job.specs.Keeping.{AreWritable, IsFrom, addresses_in, has}
use Rattle.wu_job.proofs.Marking.{addresses_more, ascending_distinct, distinct_join}

-- ---- a list

pub lists_for : (term kept : List ℕ) → 0 < length term → length term ≤ WORD_MAX → AscendBetween 0 ADDRESSES_MAX kept
    → AllByRecursion IsList (list_for term kept)
lists_for term [] l m a = tt
lists_for term (x ∷ kept) l m a = (
  record {
    some = l;
    short = m;
    count = omega arith;
    ascending = addresses_increase 0 ADDRESSES_MAX (x ∷ kept) a;
    below = ascend-below 0 ADDRESSES_MAX (x ∷ kept) a;
  },
  tt,
)

-- ---- terms in order

abbrev IsUp : List (List ℕ) → Type 0
IsUp terms = IsStrictlySortedBy (slice_cmp nat_cmp) terms

all_without : (P : List ℕ → Type 0) (xs : List (List ℕ)) (t : List ℕ) (ys : List (List ℕ)) → AllByRecursion P (xs ++ (t ∷ ys))
    → AllByRecursion P (xs ++ ys)
all_without P [] t ys a = a.1
all_without P (x ∷ xs) t ys a = (a.0, all_without P xs t ys a.1)

up_without : (xs : List (List ℕ)) (t : List ℕ) (ys : List (List ℕ)) → IsUp (xs ++ (t ∷ ys)) → IsUp (xs ++ ys)
unfolding IsStrictlySortedBy
up_without [] t ys s = s.1
up_without (x ∷ xs) t ys s = (all_without (λ z. slice_cmp nat_cmp x z ≡ Less) xs t ys s.0, up_without xs t ys s.1)

abbrev names : List TermList → List (List ℕ)
names lists = map (λ list. list.term) lists

up_more : (lists : List TermList) (term kept : List ℕ) (later : List (List ℕ)) → IsUp (names lists ++ (term ∷ later))
    → IsUp (names (lists ++ list_for term kept) ++ later)
up_more lists term [] later s =
    subst (λ ls. IsUp (names ls ++ later)) (sym (append-nil lists)) (up_without (names lists) term later s)
up_more lists term (x ∷ kept) later s =
    let same : names (lists ++ list_for term (x ∷ kept)) ++ later ≡ names lists ++ (term ∷ later) =
    ap (λ (ts : List (List ℕ)). ts ++ later) (map-append (λ (list : TermList). list.term) lists (list_for term (x ∷ kept)))
    ∙ append_assoc (names lists) (term ∷ []) later in
    subst IsUp (sym same) s

-- ---- all of it

pub writable_more : (live : List Range) (lists : List TermList) (term kept : List ℕ) (left later : List (List ℕ))
    → AreWritable live lists left → left ≡ term ∷ later → 0 < length term → length term ≤ WORD_MAX → AscendBetween 0 ADDRESSES_MAX kept
    → AllByRecursion (λ address. is_live live address ≡ true) kept
    → AllByRecursion (λ address. has (addresses_in lists) address ≡ false) kept
    → AreWritable live (lists ++ list_for term kept) later
writable_more live lists term kept left later w is some short a alive new =
    let more = addresses_more lists term kept in
    record {
      each = each-append IsList lists (list_for term kept) w.each (lists_for term kept some short a);
      ascending = up_more lists term kept later (subst (λ ts. IsUp (names lists ++ ts)) is w.ascending);
      distinct =
          subst (IsDistinct eqb) (sym more)
          (distinct_join (addresses_in lists) kept w.distinct (ascending_distinct 0 ADDRESSES_MAX kept a) new);
      alive =
          subst (AllByRecursion (λ address. is_live live address ≡ true)) (sym more)
          (each-append (λ address. is_live live address ≡ true) (addresses_in lists) kept w.alive alive);
    }

pub writable_none : (live : List Range) (left : List (List ℕ)) → IsUp left → AreWritable live [] left
unfolding IsDistinct
writable_none live left s = record { each = tt; ascending = s; distinct = tt; alive = tt }

-- the list has no address below low, where its addresses are live ones of the parts
pub list_from : (low : ℕ) (live : List Range) (parts : List JobPart) (term kept : List ℕ) → IsFrom live parts low
    → AllByRecursion (λ address. is_live live address ≡ true) kept → StandWithin parts kept
    → AllByRecursion (λ list. low ≤ first_of list.at) (list_for term kept)
list_from low live parts term [] f a w = tt
list_from low live parts term (x ∷ kept) f a w = (f x a.0 w.0.0, tt)
