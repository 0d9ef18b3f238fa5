-- Frames that have one of the addresses.
use Rattle.std.proofs.Common.{◌≡◌, ℕ, zero, suc, ◌+◌, ◌-◌, ◌<◌, ◌≤◌, Bool, true, false, ◌||◌, cond, nat_lt, List, [], ◌∷◌, ◌++◌, length}
use Rattle.std.proofs.Common.{drop, get_or}
use Rattle.std.proofs.Common.{refl, ap, ap₂, sym, subst, ◌∙◌, arith, ltb, take}
use Rattle.std.specs.List.{AllByRecursion, list_any}
use Rattle.std.specs.List.Sorted.{IsNonDecreasingBy, IsPartitionPoint, IsStrictlySortedBy}
use Rattle.std.specs.declared.cmp.Ordering.TheVariants.{Less}
use Rattle.std.specs.Ordering.{nat_cmp}
use Rattle.std.proofs.lemmas.Bool.Decides.{nat_tests}
use Rattle.std.proofs.lemmas.Bool.{ltb-true, ltb-false}
use Rattle.std.proofs.lemmas.Cmp.{nat_cmp_total, ranked}
use Rattle.std.proofs.lemmas.List.{drop_more}
use Rattle.std.proofs.lemmas.List.Sorted.{IsNonDecreasingBy-drop, IsNonDecreasingBy-from_sort}
use Rattle.std.proofs.lemmas.List.Sums.{sum_by-cons}
use Rattle.wu_base.specs.declared.addresses.Range.{Range}
use Rattle.wu_base.proofs.SortedLists.{IsSorted-from_strict}
use Rattle.wu_base.specs.Ranges.{frames_with, is_in}
use Rattle.wu_terms.specs.Listings.{StartInOrder}

below_out : (frame : Range) (address : ℕ) → address < frame.start → is_in frame address ≡ false
below_out frame address below = grind (arith, nat_tests)

above_out : (frame : Range) (address : ℕ) → frame.start + frame.len ≤ address → is_in frame address ≡ false
above_out frame address above = grind (arith, nat_tests)

none_below : (frame : Range) (front rest : List ℕ) → AllByRecursion (λ address. address < frame.start) front
    → list_any (is_in frame) (front ++ rest) ≡ list_any (is_in frame) rest
none_below frame [] rest a = refl
none_below frame (address ∷ front) rest a =
    ap (λ b. b || list_any (is_in frame) (front ++ rest)) (below_out frame address a.0) ∙ none_below frame front rest a.1

none_above : (frame : Range) (addresses : List ℕ) (low : ℕ) → frame.start + frame.len ≤ low
    → AllByRecursion (λ address. nat_cmp low address ≡ Less) addresses → list_any (is_in frame) addresses ≡ false
none_above frame [] low above a = refl
none_above frame (address ∷ addresses) low above a =
    let higher : low < address = ranked low address Less (sym a.0) in
    ap (λ b. b || list_any (is_in frame) addresses) (above_out frame address (omega arith)) ∙ none_above frame addresses low above a.1

-- the first address tells, where none is below the frame's start
pub first_tells : (frame : Range) (address : ℕ) (addresses : List ℕ) → IsStrictlySortedBy nat_cmp (address ∷ addresses)
    → frame.start ≤ address → nat_lt (address - frame.start) frame.len ≡ list_any (is_in frame) (address ∷ addresses)
unfolding IsStrictlySortedBy
first_tells frame address addresses s from =
    by_test (nat_lt address (frame.start + frame.len)) refl
  where
    by_test : (b : Bool) → b ≡ nat_lt address (frame.start + frame.len)
        → nat_lt (address - frame.start) frame.len ≡ list_any (is_in frame) (address ∷ addresses)
    by_test true e =
        let inside : is_in frame address ≡ true = grind (arith, nat_tests) in
        let first : nat_lt (address - frame.start) frame.len ≡ true = grind (arith, nat_tests) in
        first ∙ sym (ap (λ b. b || list_any (is_in frame) addresses) inside)
    by_test false e =
        let above : frame.start + frame.len ≤ address = grind (arith, nat_tests) in
        let first : nat_lt (address - frame.start) frame.len ≡ false = grind (arith, nat_tests) in
        first
        ∙ sym (ap (λ b. b || list_any (is_in frame) addresses) (above_out frame address above)
        ∙ none_above frame addresses address above s.0)

-- the same of addresses of which there is one at least
pub some_tell : (frame : Range) (addresses : List ℕ) → 0 < length addresses → IsStrictlySortedBy nat_cmp addresses
    → AllByRecursion (λ address. frame.start ≤ address) addresses
    → nat_lt (get_or addresses 0 0 - frame.start) frame.len ≡ list_any (is_in frame) addresses
some_tell frame [] some s from = absurd (omega arith)
some_tell frame (address ∷ addresses) some s from = first_tells frame address addresses s from.0

-- ---- where a binary search parts the addresses

pub rises : (addresses : List ℕ) → IsStrictlySortedBy nat_cmp addresses → IsNonDecreasingBy (λ (x : ℕ). x) addresses
rises addresses s = IsNonDecreasingBy-from_sort (λ (x : ℕ). x) addresses (IsSorted-from_strict nat_cmp_total addresses s)

pub parted : (limit : ℕ) (addresses : List ℕ) (place : ℕ) → place ≤ length addresses
    → IsPartitionPoint (λ x. ltb x limit ≡ true) (λ x. ltb x limit ≡ false) addresses place
    → AllByRecursion (λ address. address < limit) (take place addresses) × AllByRecursion (λ address. limit ≤ address) (drop place addresses)
parted limit [] zero within p = (tt, tt)
parted limit [] (suc place) within p = absurd (omega arith)
parted limit (x ∷ xs) zero within p =
    let more = parted limit xs zero (omega arith)
    ((λ k d a b. absurd (omega arith)), (λ k d a b. p.1 (suc k) d (omega arith) (omega arith))) in
    (tt, (ltb-false x limit (p.1 zero x (omega arith) (omega arith)), more.1))
parted limit (x ∷ xs) (suc place) within p =
    let more = parted limit xs place (omega arith)
    ((λ k d a b. p.0 (suc k) d (omega arith) (omega arith)), (λ k d a b. p.1 (suc k) d (omega arith) (omega arith))) in
    ((ltb-true x limit (p.0 zero x (omega arith) (omega arith)), more.0), more.1)

pub sorted_drop : (place : ℕ) (addresses : List ℕ) → IsStrictlySortedBy nat_cmp addresses → IsStrictlySortedBy nat_cmp (drop place addresses)
unfolding IsStrictlySortedBy
sorted_drop zero addresses s = s
sorted_drop (suc place) [] s = tt
sorted_drop (suc place) (x ∷ xs) s = sorted_drop place xs s.1

-- ---- how many frames

one_more : (frame : Range) (frames : List Range) (addresses : List ℕ)
    → frames_with (frame ∷ frames) addresses ≡ cond (list_any (is_in frame) addresses) 1 0 + frames_with frames addresses
one_more frame frames addresses = sum_by-cons (λ (f : Range). cond (list_any (is_in f) addresses) 1 0) frame frames

still_below : (limit start : ℕ) (front : List ℕ) → limit ≤ start → AllByRecursion (λ address. address < limit) front
    → AllByRecursion (λ address. address < start) front
still_below limit start [] up a = tt
still_below limit start (address ∷ front) up a = (let low = a.0 in omega arith, still_below limit start front up a.1)

frames_below : (limit : ℕ) (frames : List Range) (front rest : List ℕ) → AllByRecursion (λ frame. limit ≤ frame.start) frames
    → AllByRecursion (λ address. address < limit) front → frames_with frames (front ++ rest) ≡ frames_with frames rest
frames_below limit [] front rest s a = refl
frames_below limit (frame ∷ frames) front rest s a =
    one_more frame frames (front ++ rest)
    ∙ (ap₂ (λ (m n : ℕ). m + n) (ap (λ b. cond b 1 0) (none_below frame front rest (still_below limit frame.start front s.0 a)))
    (frames_below limit frames front rest s.1 a) ∙ sym (one_more frame frames rest))

each_from : (low : ℕ) (frames : List Range) → ((i : ℕ) (d : Range) → i < length frames → low ≤ (get_or frames i d).start)
    → AllByRecursion (λ frame. low ≤ frame.start) frames
each_from low [] from = tt
each_from low (frame ∷ frames) from =
    (from 0 frame (omega arith), each_from low frames (λ i d within. from (suc i) d (omega arith)))

-- none of those that are left starts before the next one
later_starts : (frame : Range) (left : List Range) → StartInOrder (frame ∷ left) → AllByRecursion (λ later. frame.start ≤ later.start) left
later_starts frame left o = each_from frame.start left (λ i d within. o 0 (suc i) d (omega arith) (omega arith))

-- what is left is counted with the next frame, and the addresses below its start are left out
pub next_frame : (frames : List Range) (i : ℕ) (d : Range) (rest front later : List ℕ) → i < length frames → StartInOrder frames
    → rest ≡ front ++ later → AllByRecursion (λ address. address < (get_or frames i d).start) front
    → frames_with (drop i frames) rest
    ≡ cond (list_any (is_in (get_or frames i d)) later) 1 0 + frames_with (drop (i + 1) frames) later
next_frame frames i d rest front later within o is below =
    let frame = get_or frames i d in
    let left = drop (i + 1) frames in
    let cut : drop i frames ≡ frame ∷ left = drop_more frames i d within in
    let order : StartInOrder (frame ∷ left) = subst StartInOrder cut (IsNonDecreasingBy-drop (λ (f : Range). f.start) i frames o) in
    ap₂ frames_with cut is
    ∙ (one_more frame left (front ++ later)
    ∙ ap₂ (λ (m n : ℕ). m + n) (ap (λ b. cond b 1 0) (none_below frame front later below))
    (frames_below frame.start left front later (later_starts frame left order) below))

pub counted_next : (b : Bool) (count new before after total : ℕ) → count + before ≡ total → before ≡ cond b 1 0 + after
    → new ≡ cond b (count + 1) count → new + after ≡ total
counted_next true count new before after total all step is = omega arith
counted_next false count new before after total all step is = omega arith
