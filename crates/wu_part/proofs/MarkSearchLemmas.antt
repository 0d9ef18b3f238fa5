-- Lemmas on searches among the marks in a directory's bytes.
use Rattle.std.proofs.Common.{◌≡◌, ℕ, Bool, MatchBool, zero, suc, ◌+◌, ◌-◌, ◌<◌, ◌≤◌, ◌⊎◌, inl, inr, ⊎_elim, List, [], ◌∷◌, ◌++◌, length}
use Rattle.std.proofs.Common.{take, drop, get_or, refl, ap, sym, subst, ◌∙◌, Contains, MatchOption, Option, None, Some, true, false, arith}
use Rattle.std.proofs.lemmas.Bool.{cases_lt}
use Rattle.std.proofs.lemmas.List.{drop-drop, drop_all, get_or-drop, get_or_default, length-drop, take_all}
use Rattle.std.proofs.lemmas.List.Elements.{All-drop, All-from_recursion, recursion_from_All}
use Rattle.std.specs.List.{AllByRecursion}
use Rattle.std.specs.declared.cmp.Ordering.{Ordering}
use Rattle.std.specs.declared.cmp.Ordering.TheVariants.{Less, Equal, Greater}
use Rattle.std.specs.Ordering.{is_le, nat_cmp, ordering_reverse}
use Rattle.std.specs.Cmp.Lexicographic.{slice_cmp, nat_list_cmp_total}
use Rattle.std.specs.List.Sorted.{IsStrictlySortedBy}
use Rattle.wu_base.specs.declared.limits.TheConstants.{WORD_MAX}
use Rattle.wu_vbyte.specs.Numbers.{StartsWithNumber}
use Rattle.wu_vbyte.proofs.NumberLemmas.{one_number, starts_not_empty}
use Rattle.wu_part.specs.declared.entries.TermEntry.{TermEntry}
use Rattle.wu_part.specs.declared.marks.Mark.{Mark}
use Rattle.wu_part.specs.declared.reading.Head.{Head}
use Rattle.wu_part.specs.Entries.{AreEntries}
use Rattle.wu_part.specs.Marks.{mark_of, AreNear, IsAfter, IsLast, IsMark, IsAtMost, NoneAt, StandsBefore, entries_from}
use Rattle.wu_part.proofs.DecodingLemmas.{entries_are}
use Rattle.wu_part.proofs.ReadingLemmas.{same_front}
use Rattle.wu_part.proofs.TermLemmas.{ascends, terms}
use Rattle.wu_part.proofs.MarkLemmas.{near_next, near_end}

pub first_is_mark : (head : Head) (size : ℕ) (bytes : List ℕ) (place : ℕ) (all : List TermEntry)
    → AreEntries head size head.terms bytes place all → IsMark head size bytes (mark_of 0 0 place) all
first_is_mark head size bytes place all a =
    let whole : head.terms - 0 ≡ head.terms = omega arith in
    record { inside = omega arith; number = omega arith; entries = rw whole a }

pub sorted_drop : (all : List TermEntry) (n : ℕ) → IsStrictlySortedBy (slice_cmp nat_cmp) (terms all)
    → IsStrictlySortedBy (slice_cmp nat_cmp) (terms (drop n all))
unfolding IsStrictlySortedBy
sorted_drop all zero s = s
sorted_drop [] (suc n) s = tt
sorted_drop (entry ∷ later) (suc n) s = sorted_drop later n s.1

pub has_from_drop : (all : List TermEntry) (n : ℕ) (entry : TermEntry) → Contains (drop n all) entry → Contains all entry
has_from_drop all n entry has =
    let long = length-drop n all in
    (n + has.0, omega (arith, has.1), sym (get_or-drop n all has.0 entry) ∙ has.2)

pub rest_taken : (bytes : List ℕ) (offset : ℕ) → take (length bytes - offset) (drop offset bytes) ≡ drop offset bytes
rest_taken bytes offset = take_all (length bytes - offset) (drop offset bytes) (omega (arith, length-drop offset bytes))

greater_from : (order : Ordering) → false ≡ is_le order → order ≡ Greater
greater_from Less e = absurd cc
greater_from Equal e = absurd cc
greater_from Greater e = refl

-- the bytes start with one term alone
pub at_most_is : (bytes first left term : List ℕ) (order : Ordering) (most : Bool) → StartsWithNumber bytes (length first) (first ++ left)
    → 0 < length first → length first ≤ WORD_MAX → order ≡ slice_cmp nat_cmp first term → most ≡ is_le order
    → MatchBool most (IsAtMost bytes term) (IsAtMost bytes term → ⊥)
at_most_is bytes first left term order true s some few e is = record {
  first = first;
  left = left;
  some = some;
  few = few;
  starts = s;
  most = λ greater. let wrong : true ≡ false = is ∙ ap is_le (e ∙ greater) in absurd cc;
}
at_most_is bytes first left term order false s some few e is = λ m.
    let one = one_number bytes (length m.first) (length first) (m.first ++ m.left) (first ++ left) m.starts s in
    let front = same_front m.first first m.left left one.0 one.1 in
    let fails = rw front.0 at m.most in
    fails (sym e ∙ greater_from order is)

-- the entry of the term stands at the mark or after it, where the term at the mark isn't after it
at_or_after : (all : List TermEntry) (n : ℕ) (first : TermEntry) (later : List TermEntry) (term : List ℕ)
    → IsStrictlySortedBy (slice_cmp nat_cmp) (terms all) → drop n all ≡ first ∷ later
    → (slice_cmp nat_cmp first.term term ≡ Greater → ⊥)
    → (entry : TermEntry) → Contains all entry → entry.term ≡ term → Contains (drop n all) entry
at_or_after all n first later term s at_mark most entry has same =
    let long = length-drop n all in
    let some : length (drop n all) ≡ suc (length later) = ap length at_mark in
    ⊎_elim
    (λ (before : has.0 < n).
    let here : n + 0 ≡ n = omega arith in
    let own : get_or all n entry ≡ first =
    ap (λ k. get_or all k entry) (sym here) ∙ (sym (get_or-drop n all 0 entry) ∙ ap (λ x. get_or x 0 entry) at_mark) in
    let up = ascends all has.0 n entry s before (omega arith) in
    let less : slice_cmp nat_cmp term first.term ≡ Less = rw (has.2, own, same) at up in
    absurd (most (nat_list_cmp_total.antisymm first.term term ∙ ap ordering_reverse less)))
    (λ (from : n ≤ has.0).
    let place : n + (has.0 - n) ≡ has.0 = omega arith in
    (has.0 - n, omega (arith, has.1), get_or-drop n all (has.0 - n) entry ∙ (ap (λ k. get_or all k entry) place ∙ has.2)))
    (cases_lt has.0 n)

-- a search from the mark on finds what a search from the beginning finds
pub found_from_mark : (head : Head) (size : ℕ) (bytes : List ℕ) (all : List TermEntry) (mark : Mark) (term : List ℕ)
    → IsStrictlySortedBy (slice_cmp nat_cmp) (terms all) → IsMark head size bytes mark (drop mark.number all)
    → IsAtMost (drop mark.offset bytes) term
    → (entry : TermEntry) → Contains all entry → entry.term ≡ term → Contains (drop mark.number all) entry
found_from_mark head size bytes all mark term s m most entry has same = by_first (drop mark.number all) refl
  where
    by_first : (from : List TermEntry) → drop mark.number all ≡ from → Contains (drop mark.number all) entry
    by_first [] e =
        let spelled = (rw e at m.entries).spelled in absurd (starts_not_empty (length most.first) (most.first ++ most.left)
        (rw spelled at most.starts))
    by_first (first ∷ later) e =
        let spelled = (rw e at m.entries).spelled in
        let one = one_number (drop mark.offset bytes) (length most.first) (length first.term) (most.first ++ most.left)
        (first.term ++ spelled.1.0) most.starts spelled.1.1 in
        let front = same_front most.first first.term most.left spelled.1.0 one.0 one.1 in
        at_or_after all mark.number first later term s e (rw front.0 at most.most) entry has same

pub has_mark : (marks : List Mark) (place : ℕ) (mark : Mark) → mark ≡ get_or marks place mark → place < length marks → Contains marks mark
has_mark marks place mark is inside = (place, inside, sym is)

pub last_found : (Passes : Mark → Type 0) (marks : List Mark) (start mark : Mark) → IsLast Passes marks start mark
    → (mark ≡ start) ⊎ (Contains marks mark × Passes mark)
last_found Passes marks start mark l =
    ⊎_elim
    (λ (first, is). inl is)
    (λ (some, within, is, passes). inr (has_mark marks (l.place - 1) mark is (omega arith), passes))
    l.before

before_is : (Passes : Mark → Type 0) (marks : List Mark) (start mark : Mark) (place : ℕ) → StandsBefore Passes marks start mark place
    → get_or (start ∷ marks) place mark ≡ mark
before_is Passes marks start mark place (inl (first, is)) = ap (λ k. get_or (start ∷ marks) k mark) first ∙ sym is
before_is Passes marks start mark place (inr (some, within, is, passes)) =
    let next : place ≡ suc (place - 1) = omega arith in
    ap (λ k. get_or (start ∷ marks) k mark) next ∙ sym is

before_within : (Passes : Mark → Type 0) (marks : List Mark) (start mark : Mark) (place : ℕ) → StandsBefore Passes marks start mark place
    → place ≤ length marks
before_within Passes marks start mark place (inl (first, is)) = omega arith
before_within Passes marks start mark place (inr (some, within, is, passes)) = within

-- from the last mark up to a number it is less than TERMS_BETWEEN entries, or it is no more to the end
pub walk_short : (marks : List Mark) (start mark : Mark) (terms number : ℕ) → start.number ≡ 0 → AreNear 0 marks terms
    → IsLast (λ mark. mark.number ≤ number) marks start mark → (number - mark.number < 8) ⊎ (terms - mark.number ≤ 8)
walk_short marks start mark terms number zero_is near l =
    let near : AreNear start.number marks terms = rw zero_is near in
    let own = before_is (λ (m : Mark). m.number ≤ number) marks start mark l.place l.before in
    let within = before_within (λ (m : Mark). m.number ≤ number) marks start mark l.place l.before in
    let at_end : l.place ≡ length marks → (number - mark.number < 8) ⊎ (terms - mark.number ≤ 8) = λ end.
    let most = near_end start marks terms mark near in
    let last : (get_or (start ∷ marks) (length marks) mark).number ≡ mark.number =
    ap (λ (m : Mark). m.number) (ap (λ k. get_or (start ∷ marks) k mark) (sym end) ∙ own) in
    inr (omega arith) in
    ⊎_elim at_end
    (λ (after, is, fails).
    ⊎_elim
    (λ (inside : l.place < length marks).
    let most = near_next start marks terms l.place mark near inside in
    let same = ap (λ (m : Mark). m.number) (is ∙ get_or_default marks l.place after mark inside) in
    let before = ap (λ (m : Mark). m.number) own in
    ⊎_elim (λ (low : number < after.number). inl (omega arith)) (λ (high : after.number ≤ number). absurd (fails high))
    (cases_lt number after.number))
    (λ (outside : length marks ≤ l.place). at_end (omega arith))
    (cases_lt l.place (length marks)))
    l.after

-- a binary search among the marks: the mark before `from` passes, and that at `to` doesn't
pub record Narrowed (Passes : Mark → Type 0) (marks : List Mark) (start mark : Mark) (from to : ℕ) : Type 0 where
  pub order : from ≤ to
  pub within : to ≤ length marks
  pub before : StandsBefore Passes marks start mark from
  pub after : NoneAt Passes marks to

pub narrowed_low : (Passes : Mark → Type 0) (marks : List Mark) (start mark new : Mark) (from to middle : ℕ)
    → Narrowed Passes marks start mark from to → middle < to → new ≡ get_or marks middle new → Passes new
    → Narrowed Passes marks start new (middle + 1) to
narrowed_low Passes marks start mark new from to middle n below is passes =
    let place : middle + 1 - 1 ≡ middle = omega arith in
    record {
      order = omega arith;
      within = n.within;
      before = inr (omega arith, omega (arith, n.within), rw place is, passes);
      after = n.after;
    }

pub narrowed_high : (Passes : Mark → Type 0) (marks : List Mark) (start mark other : Mark) (from to middle : ℕ)
    → Narrowed Passes marks start mark from to → from ≤ middle → middle < to → other ≡ get_or marks middle other → (Passes other → ⊥)
    → Narrowed Passes marks start mark from middle
narrowed_high Passes marks start mark other from to middle n above below is fails = record {
  order = above;
  within = omega (arith, n.within);
  before = n.before;
  after = inr (other, is, fails);
}

pub narrowed_all : (Passes : Mark → Type 0) (marks : List Mark) (start mark : Mark) (from to : ℕ) → Narrowed Passes marks start mark from to
    → to ≤ from → IsLast Passes marks start mark
narrowed_all Passes marks start mark from to n over =
    let same : to ≡ from = omega (arith, n.order) in
    record { place = from; before = n.before; after = rw same at n.after }

-- the first entry's mark, or one of the others
pub mark_found : (head : Head) (size : ℕ) (bytes : List ℕ) (place : ℕ) (marks : List Mark) (all : List TermEntry) (start mark : Mark)
    (more : Type 0) → AreEntries head size head.terms bytes place all
    → ((other : Mark) → Contains marks other → IsMark head size bytes other (drop other.number all)) → start ≡ mark_of 0 0 place
    → (mark ≡ start) ⊎ (Contains marks mark × more) → IsMark head size bytes mark (drop mark.number all)
mark_found head size bytes place marks all start mark more a m e (inl first) = rw (first ∙ e) (first_is_mark head size bytes place all a)
mark_found head size bytes place marks all start mark more a m e (inr has) = m mark has.0

pub number_within : (place number : ℕ) (marks : List Mark) (start mark : Mark) → start ≡ mark_of 0 0 place
    → (mark ≡ start) ⊎ (Contains marks mark × (mark.number ≤ number)) → mark.number ≤ number
number_within place number marks start mark e (inl first) = rw (first ∙ e) (omega arith)
number_within place number marks start mark e (inr has) = has.1

pub found_after : (head : Head) (size : ℕ) (bytes : List ℕ) (place : ℕ) (marks : List Mark) (all : List TermEntry) (start mark : Mark)
    (term : List ℕ) → IsStrictlySortedBy (slice_cmp nat_cmp) (terms all)
    → ((other : Mark) → Contains marks other → IsMark head size bytes other (drop other.number all)) → start ≡ mark_of 0 0 place
    → (mark ≡ start) ⊎ (Contains marks mark × IsAtMost (drop mark.offset bytes) term)
    → (entry : TermEntry) → Contains all entry → entry.term ≡ term → Contains (drop mark.number all) entry
found_after head size bytes place marks all start mark term s m e (inl first) entry has same = rw (first ∙ e) has
found_after head size bytes place marks all start mark term s m e (inr at_mark) entry has same =
    found_from_mark head size bytes all mark term s (m mark at_mark.0) at_mark.1 entry has same

-- the entries from the mark on are those that its bytes are read as
pub from_mark : (head : Head) (size : ℕ) (bytes : List ℕ) (mark : Mark) (later : List TermEntry) → IsMark head size bytes mark later
    → (entries_from head bytes mark ≡ later) × IsMark head size bytes mark (entries_from head bytes mark)
from_mark head size bytes mark later m =
    let read = entries_are head size (head.terms - mark.number) (drop mark.offset bytes) mark.place later m.entries in (read, rw read m)

pub entry_at : (r : Option TermEntry) (all from : List TermEntry) (number place : ℕ) → from ≡ drop number all → number ≤ place
    → MatchOption r (length from ≤ place - number) (λ entry. (place - number < length from)
    × (entry ≡ get_or from (place - number) entry))
    → MatchOption r (length all ≤ place) (λ entry. (place < length all) × (entry ≡ get_or all place entry))
entry_at None all from number place e low m = let long = ap length e ∙ length-drop number all in omega (arith, m)
entry_at (Some entry) all from number place e low m =
    let long = ap length e ∙ length-drop number all in
    let at_place : number + (place - number) ≡ place = omega arith in (
      omega (arith, m.0),
      m.1 ∙ (ap (λ (x : List TermEntry). get_or x (place - number) entry) e ∙ (get_or-drop number all (place - number) entry
          ∙ ap (λ k. get_or all k entry) at_place)),
    )

pub entry_found : (r : Option TermEntry) (all from : List TermEntry) (number : ℕ) (term : List ℕ) → from ≡ drop number all
    → ((entry : TermEntry) → Contains all entry → entry.term ≡ term → Contains (drop number all) entry)
    → MatchOption r ((entry : TermEntry) → Contains from entry → entry.term ≡ term → ⊥) (λ entry. Contains from entry × (entry.term ≡ term))
    → MatchOption r ((entry : TermEntry) → Contains all entry → entry.term ≡ term → ⊥) (λ entry. Contains all entry × (entry.term ≡ term))
entry_found None all from number term e whole m = λ entry has same. m entry (rw e (whole entry has same)) same
entry_found (Some entry) all from number term e whole m = (has_from_drop all number entry (rw e at m.0), m.1)

-- ---- the entries that stand after a term

-- a term that isn't at most another one stands after it
after_unless : (first term : List ℕ) → ((slice_cmp nat_cmp first term ≡ Greater → ⊥) → ⊥) → slice_cmp nat_cmp term first ≡ Less
after_unless first term fails =
    nat_list_cmp_total.antisymm term first ∙ ap ordering_reverse (is_greater (slice_cmp nat_cmp first term) fails)
  where
    is_greater : (order : Ordering) → ((order ≡ Greater → ⊥) → ⊥) → order ≡ Greater
    is_greater Less wrong = absurd (wrong (λ e. cc))
    is_greater Equal wrong = absurd (wrong (λ e. cc))
    is_greater Greater wrong = refl

all_after : (term : List ℕ) (first : TermEntry) (later : List TermEntry) → IsStrictlySortedBy (slice_cmp nat_cmp) (terms (first ∷ later))
    → IsAfter term first → AllByRecursion (IsAfter term) (first ∷ later)
unfolding IsStrictlySortedBy
all_after term first [] s less = (less, tt)
all_after term first (second ∷ later) s less =
    (less, all_after term second later s.1 (nat_list_cmp_total.trans term first.term second.term less s.0.0))

-- from a mark on that isn't at most the term
after_mark : (head : Head) (size : ℕ) (bytes : List ℕ) (all : List TermEntry) (mark : Mark) (term : List ℕ)
    → IsStrictlySortedBy (slice_cmp nat_cmp) (terms all) → IsMark head size bytes mark (drop mark.number all)
    → (IsAtMost (drop mark.offset bytes) term → ⊥) → AllByRecursion (IsAfter term) (drop mark.number all)
after_mark head size bytes all mark term s m fails = by_first (drop mark.number all) m.entries (sorted_drop all mark.number s)
  where
    by_first : (from : List TermEntry) → AreEntries head size (head.terms - mark.number) (drop mark.offset bytes) mark.place from
        → IsStrictlySortedBy (slice_cmp nat_cmp) (terms from) → AllByRecursion (IsAfter term) from
    by_first [] a sorted = tt
    by_first (first ∷ later) a sorted =
        all_after term first later sorted (after_unless first.term term (λ most. fails (record {
          first = first.term;
          left = a.spelled.1.0;
          some = a.hold.0.some;
          few = a.hold.0.short;
          starts = a.spelled.1.1;
          most = most;
        })))

after_more : (term : List ℕ) (all : List TermEntry) (n k : ℕ) → n ≤ k + 8 → AllByRecursion (IsAfter term) (drop n all)
    → AllByRecursion (IsAfter term) (drop 8 (drop k all))
after_more term all n k few far =
    let place : n + (k + 8 - n) ≡ k + 8 = omega arith in
    let same : drop (k + 8 - n) (drop n all) ≡ drop 8 (drop k all) =
    drop-drop (k + 8 - n) n all ∙ (ap (λ i. drop i all) place ∙ sym (drop-drop 8 k all)) in
    let each = All-drop (IsAfter term) (k + 8 - n) (drop n all) (All-from_recursion (IsAfter term) (drop n all) far) in
    subst (λ (x : List TermEntry). AllByRecursion (IsAfter term) x) same
    (recursion_from_All (IsAfter term) (drop (k + 8 - n) (drop n all)) each)

-- all but the first TERMS_BETWEEN entries from the last mark on that is at most the term
pub after_near : (head : Head) (size : ℕ) (bytes : List ℕ) (place : ℕ) (marks : List Mark) (all : List TermEntry) (start mark : Mark)
    (term : List ℕ) → IsStrictlySortedBy (slice_cmp nat_cmp) (terms all) → AreEntries head size head.terms bytes place all
    → ((other : Mark) → Contains marks other → IsMark head size bytes other (drop other.number all)) → start ≡ mark_of 0 0 place
    → AreNear 0 marks head.terms → IsLast (λ mark. IsAtMost (drop mark.offset bytes) term) marks start mark
    → AllByRecursion (IsAfter term) (drop 8 (drop mark.number all))
after_near head size bytes place marks all start mark term s a m e near l =
    let first : start.number ≡ 0 = ap (λ (k : Mark). k.number) e in
    let near : AreNear start.number marks head.terms = rw first near in
    let own = before_is (λ (k : Mark). IsAtMost (drop k.offset bytes) term) marks start mark l.place l.before in
    let number = a.number in
    let at_end : l.place ≡ length marks → AllByRecursion (IsAfter term) (drop 8 (drop mark.number all)) = λ end.
    let most = near_end start marks head.terms mark near in
    let last : (get_or (start ∷ marks) (length marks) mark).number ≡ mark.number =
    ap (λ (k : Mark). k.number) (ap (λ i. get_or (start ∷ marks) i mark) (sym end) ∙ own) in
    let left = length-drop mark.number all in
    rw (drop_all 8 (drop mark.number all) (omega arith)) tt in
    ⊎_elim at_end
    (λ (after, is, fails).
    ⊎_elim
    (λ (inside : l.place < length marks).
    let most = near_next start marks head.terms l.place mark near inside in
    let same = ap (λ (k : Mark). k.number) (is ∙ get_or_default marks l.place after mark inside) in
    let before = ap (λ (k : Mark). k.number) own in
    after_more term all after.number mark.number (omega arith)
    (after_mark head size bytes all after term s (m after (has_mark marks l.place after is inside)) fails))
    (λ (outside : length marks ≤ l.place).
    let within = before_within (λ (k : Mark). IsAtMost (drop k.offset bytes) term) marks start mark l.place l.before in
    at_end (omega arith))
    (cases_lt l.place (length marks)))
    l.after
