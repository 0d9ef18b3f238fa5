-- Lemmas on a search for the entries from a term on.
use Rattle.std.proofs.Common.{◌≡◌, ℕ, zero, suc, ◌<◌, true, false, List, [], ◌∷◌, ◌++◌, length, drop, filter}
use Rattle.std.proofs.Common.{refl, ap, sym, subst, ◌∙◌, ◌⊎◌, inl, inr, Contains, arith}
use Rattle.std.specs.declared.cmp.Ordering.{Ordering}
use Rattle.std.specs.declared.cmp.Ordering.TheVariants.{Less, Equal, Greater}
use Rattle.std.specs.Ordering.{is_lt, nat_cmp}
use Rattle.std.specs.Cmp.Lexicographic.{slice_cmp, nat_list_cmp_total}
use Rattle.std.specs.List.{AllByRecursion}
use Rattle.std.specs.List.Sorted.{IsStrictlySortedBy}
use Rattle.wu_vbyte.specs.Numbers.{StartsWithNumber}
use Rattle.wu_vbyte.proofs.NumberLemmas.{one_number, starts_not_empty}
use Rattle.wu_part.specs.declared.entries.TermEntry.{TermEntry}
use Rattle.wu_part.specs.declared.marks.Mark.{Mark}
use Rattle.wu_part.specs.declared.reading.Head.{Head}
use Rattle.wu_part.specs.Entries.{AreEntries}
use Rattle.wu_part.specs.Marks.{IsAtMost, IsMark, mark_of}
use Rattle.wu_part.specs.Searches.{begins_before, is_from}
use Rattle.wu_part.proofs.ReadingLemmas.{same_front}
use Rattle.wu_part.proofs.TermLemmas.{same_term, terms}

-- ---- the order

-- what stands before a term that isn't after another one stands before that one
before_too : (a b term : List ℕ) (order : Ordering) → slice_cmp nat_cmp b term ≡ order → slice_cmp nat_cmp a b ≡ Less
    → (order ≡ Greater → ⊥) → slice_cmp nat_cmp a term ≡ Less
before_too a b term Less is less most = nat_list_cmp_total.trans a b term less is
before_too a b term Equal is less most = subst (λ x. slice_cmp nat_cmp a x ≡ Less) (same_term b term is) less
before_too a b term Greater is less most = absurd (most refl)

-- what stands after a term that isn't before another one isn't before that one either
not_before_too : (a b term : List ℕ) (order : Ordering) → slice_cmp nat_cmp b term ≡ order → slice_cmp nat_cmp a b ≡ Less
    → is_lt (slice_cmp nat_cmp a term) ≡ false → is_lt order ≡ false
not_before_too a b term Less is less not_less =
    let wrong : is_lt (slice_cmp nat_cmp a term) ≡ true = ap is_lt (nat_list_cmp_total.trans a b term less is) in absurd cc
not_before_too a b term Equal is less not_less = refl
not_before_too a b term Greater is less not_less = refl

-- ---- what a filter leaves

abbrev since : List ℕ → List TermEntry → List TermEntry
since term entries = filter (is_from term) entries

left_out : (term : List ℕ) (entry : TermEntry) (later : List TermEntry) → is_lt (slice_cmp nat_cmp entry.term term) ≡ true
    → since term (entry ∷ later) ≡ since term later
left_out term entry later before = rw before refl

kept : (term : List ℕ) (entry : TermEntry) (later : List TermEntry) → is_lt (slice_cmp nat_cmp entry.term term) ≡ false
    → since term (entry ∷ later) ≡ entry ∷ since term later
kept term entry later after = rw after refl

-- where the first isn't before the term, none is
all_kept : (term : List ℕ) (entry : TermEntry) (later : List TermEntry) → IsStrictlySortedBy (slice_cmp nat_cmp) (terms (entry ∷ later))
    → is_lt (slice_cmp nat_cmp entry.term term) ≡ false → since term (entry ∷ later) ≡ entry ∷ later
unfolding IsStrictlySortedBy
all_kept term entry [] s after = kept term entry [] after
all_kept term entry (second ∷ later) s after =
    kept term entry (second ∷ later) after
    ∙ ap (λ (x : List TermEntry). entry ∷ x)
    (all_kept term second later s.1 (not_before_too entry.term second.term term (slice_cmp nat_cmp second.term term) refl s.0.0 after))

pub nothing_before : (term : List ℕ) (left : List TermEntry) → IsStrictlySortedBy (slice_cmp nat_cmp) (terms left)
    → begins_before term left ≡ false → left ≡ since term left
nothing_before term [] s none = refl
nothing_before term (entry ∷ later) s none = sym (all_kept term entry later s none)

-- one entry before the term is passed
pub passed : (term : List ℕ) (left : List TermEntry) (entry : TermEntry) (later : List TermEntry) → left ≡ entry ∷ later
    → begins_before term left ≡ true → since term left ≡ since term later
passed term left entry later is before = rw is (left_out term entry later (rw is at before))

pub later_sorted : (left : List TermEntry) (entry : TermEntry) (later : List TermEntry) → left ≡ entry ∷ later
    → IsStrictlySortedBy (slice_cmp nat_cmp) (terms left) → IsStrictlySortedBy (slice_cmp nat_cmp) (terms later)
unfolding IsStrictlySortedBy
later_sorted left entry later is s =
    let both : IsStrictlySortedBy (slice_cmp nat_cmp) (terms (entry ∷ later)) = rw is at s in both.1

pub none_begins : (term : List ℕ) (left : List TermEntry) → left ≡ [] → begins_before term left ≡ true → ⊥
none_begins term left none before = let wrong : false ≡ true = rw none at before in absurd cc

-- ---- from a mark on

holds_of : (Q : List ℕ → Type 0) (all : List TermEntry) (n : ℕ) (first : TermEntry) (later : List TermEntry) → AllByRecursion Q (terms all)
    → drop n all ≡ first ∷ later → Q first.term
holds_of Q [] zero first later each is = absurd cc
holds_of Q [] (suc n) first later each is = absurd cc
holds_of Q (entry ∷ rest) zero first later each is =
    let same : entry ≡ first = cc in subst (λ (x : TermEntry). Q x.term) same each.0
holds_of Q (entry ∷ rest) (suc n) first later each is = holds_of Q rest n first later each.1 is

-- all entries before one that isn't after the term stand before it
skipped : (term : List ℕ) (all : List TermEntry) (n : ℕ) (first : TermEntry) (later : List TermEntry)
    → IsStrictlySortedBy (slice_cmp nat_cmp) (terms all) → drop n all ≡ first ∷ later → (slice_cmp nat_cmp first.term term ≡ Greater → ⊥)
    → since term all ≡ since term (drop n all)
unfolding IsStrictlySortedBy
skipped term all zero first later s is most = refl
skipped term [] (suc n) first later s is most = refl
skipped term (entry ∷ rest) (suc n) first later s is most =
    let less = holds_of (λ x. slice_cmp nat_cmp entry.term x ≡ Less) rest n first later s.0 is in
    let before = before_too entry.term first.term term (slice_cmp nat_cmp first.term term) refl less most in
    left_out term entry rest (ap is_lt before) ∙ skipped term rest n first later s.1 is most

since_mark : (term : List ℕ) (head : Head) (size : ℕ) (bytes : List ℕ) (all : List TermEntry) (mark : Mark)
    → IsStrictlySortedBy (slice_cmp nat_cmp) (terms all) → IsMark head size bytes mark (drop mark.number all)
    → IsAtMost (drop mark.offset bytes) term → since term all ≡ since term (drop mark.number all)
since_mark term head size bytes all mark s m most = by_first (drop mark.number all) refl
  where
    by_first : (from : List TermEntry) → drop mark.number all ≡ from → since term all ≡ since term (drop mark.number all)
    by_first [] e =
        let spelled = (rw e at m.entries).spelled in absurd (starts_not_empty (length most.first) (most.first ++ most.left)
        (rw spelled at most.starts))
    by_first (first ∷ later) e =
        let spelled = (rw e at m.entries).spelled in
        let one = one_number (drop mark.offset bytes) (length most.first) (length first.term) (most.first ++ most.left)
        (first.term ++ spelled.1.0) most.starts spelled.1.1 in
        let front = same_front most.first first.term most.left spelled.1.0 one.0 one.1 in
        skipped term all mark.number first later s e (rw front.0 at most.most)

pub since_start : (term : List ℕ) (head : Head) (size : ℕ) (bytes : List ℕ) (place : ℕ) (marks : List Mark) (all : List TermEntry)
    (start mark : Mark) → IsStrictlySortedBy (slice_cmp nat_cmp) (terms all)
    → ((other : Mark) → Contains marks other → IsMark head size bytes other (drop other.number all)) → start ≡ mark_of 0 0 place
    → (mark ≡ start) ⊎ (Contains marks mark × IsAtMost (drop mark.offset bytes) term)
    → since term (drop mark.number all) ≡ since term all
since_start term head size bytes place marks all start mark s m e (inl first) = rw (first ∙ e) refl
since_start term head size bytes place marks all start mark s m e (inr at_mark) =
    sym (since_mark term head size bytes all mark s (m mark at_mark.0) at_mark.1)

-- ---- the first term of the bytes

-- whether the bytes start with a term before this one tells the entries that they spell
pub first_is : (term : List ℕ) (head : Head) (size count : ℕ) (bytes : List ℕ) (place : ℕ) (all : List TermEntry)
    (first left : List ℕ) → AreEntries head size count bytes place all → 0 < count
    → StartsWithNumber bytes (length first) (first ++ left) → begins_before term all ≡ is_lt (slice_cmp nat_cmp first term)
first_is term head size count bytes place [] first left a some s = absurd (let number = a.number in omega arith)
first_is term head size count bytes place (entry ∷ later) first left a some s =
    let one = one_number bytes (length first) (length entry.term) (first ++ left) (entry.term ++ a.spelled.1.0) s a.spelled.1.1 in
    let front = same_front first entry.term left a.spelled.1.0 one.0 one.1 in
    ap (λ x. is_lt (slice_cmp nat_cmp x term)) (sym front.0)

pub nothing_left : (term : List ℕ) (head : Head) (size count : ℕ) (bytes : List ℕ) (place : ℕ) (all : List TermEntry)
    → AreEntries head size count bytes place all → count ≡ 0 → begins_before term all ≡ false
nothing_left term head size count bytes place [] a none = refl
nothing_left term head size count bytes place (entry ∷ later) a none = absurd (let number = a.number in omega arith)
