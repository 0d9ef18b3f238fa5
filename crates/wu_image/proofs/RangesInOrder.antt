-- Ranges of files lie apart just where each of them, once sorted, starts where the last one ended or later.
use Rattle.std.proofs.Common.{◌≡◌, ℕ, suc, ◌+◌, ◌^◌, ◌<◌, ◌≤◌, Bool, true, false, cond, List, [], ◌∷◌, refl, sym, subst, ◌∙◌, ⊎_elim, arith}
use Rattle.std.specs.Prelude.{IsPermutation, MatchBool, count_by, map, sum_by}
use Rattle.std.specs.List.{AllByRecursion}
use Rattle.std.specs.List.Sorted.{IsNonDecreasingBy}
use Rattle.std.proofs.lemmas.Bool.{and_parts, leb-true, ltb-true, le-leb, lt-ltb, cases_lt}
use Rattle.std.proofs.lemmas.List.Sums.{sum_by-cons}
use Rattle.std.proofs.lemmas.List.Sorted.{sum_by-IsPermutation, IsNonDecreasingBy-drop, IsPermutation-map}
use Rattle.wu_base.specs.declared.addresses.Range.{Range}
use Rattle.wu_base.proofs.Members.{Has, all_from_has, all_has as all_of}
use Rattle.wu_base.proofs.EachLemmas.{each-permuted}
use Rattle.wu_base.specs.Ranges.{is_in}
use Rattle.wu_image.specs.declared.records.FileRec.{FileRec}
use Rattle.wu_image.specs.Checks.{AreApart, AreInOrder}
use Rattle.wu_image.proofs.RuleLemmas.{all_at, sum_of_map, sum_has}

-- how often the address is in a range
abbrev holds : ℕ → Range → ℕ
holds address range = cond (is_in range address) 1 0

held_in : (address : ℕ) (range : Range) → 0 < holds address range → (range.start ≤ address) × (address < range.start + range.len)
held_in address range h =
    elim (is_in range address) as
    (λ b. is_in range address ≡ b → 0 < cond {A = ℕ} b 1 0 → (range.start ≤ address) × (address < range.start + range.len)) [
      | true ↦ λ e l. let p = and_parts _ _ e in (leb-true _ _ p.0, ltb-true _ _ p.1)
      | false ↦ λ e l. absurd (omega arith)
    ] refl h

in_held : (address : ℕ) (range : Range) → range.start ≤ address → address < range.start + range.len → holds address range ≡ 1
in_held address range a b = rw (le-leb range.start address a, lt-ltb address (range.start + range.len) b) refl

held_once : (address : ℕ) (range : Range) → holds address range ≤ 1
held_once address range = elim (is_in range address) as (λ b. cond {A = ℕ} b 1 0 ≤ 1) [ true ↦ omega arith | false ↦ omega arith ]

none_before : (from : ℕ) (ranges : List Range) (address : ℕ) → AreInOrder from ranges → address < from → sum_by (holds address) ranges ≡ 0
none_before from [] address o l = refl
none_before from (range ∷ ranges) address o l =
    let begin = o.0 in
    let later = none_before (range.start + range.len) ranges address o.1 (omega arith) in
    ⊎_elim
    (λ (h : 0 < holds address range). let i = held_in address range h in absurd (omega (arith, i.0)))
    (λ (h : holds address range ≤ 0). omega (arith, sum_by-cons (holds address) range ranges))
    (cases_lt 0 (holds address range))

pub once_in_order : (from : ℕ) (ranges : List Range) (address : ℕ) → AreInOrder from ranges → sum_by (holds address) ranges ≤ 1
once_in_order from [] address o = omega arith
once_in_order from (range ∷ ranges) address o =
    ⊎_elim
    (λ (h : 0 < holds address range).
    let i = held_in address range h in
    let later = none_before (range.start + range.len) ranges address o.1 i.1 in
    omega (arith, sum_by-cons (holds address) range ranges, held_once address range))
    (λ (h : holds address range ≤ 0).
    omega (arith, sum_by-cons (holds address) range ranges, once_in_order (range.start + range.len) ranges address o.1))
    (cases_lt 0 (holds address range))

-- each starts no earlier than those before
abbrev StartsRise : List Range → Type 0
StartsRise [] = Unit {0}
StartsRise (range ∷ ranges) = AllByRecursion (λ later. range.start ≤ later.start) ranges × StartsRise ranges

starts_rise : (ranges : List Range) → IsNonDecreasingBy (λ range. range.start) ranges → StartsRise ranges
starts_rise [] s = tt
starts_rise (range ∷ ranges) s = (
  all_at (λ (later : Range). range.start ≤ later.start) ranges range (λ k l. s 0 (suc k) range (omega arith) (omega arith)),
  starts_rise ranges (IsNonDecreasingBy-drop (λ (r : Range). r.start) 1 (range ∷ ranges) s),
)

pub in_order : (from : ℕ) (ranges : List Range) → StartsRise ranges → AllByRecursion (λ range. 0 < range.len) ranges
    → AllByRecursion (λ range. from ≤ range.start) ranges → ((address : ℕ) → sum_by (holds address) ranges ≤ 1) → AreInOrder from ranges
in_order from [] s filled a once = tt
in_order from (range ∷ ranges) s filled a once = (
  a.0,
  in_order (range.start + range.len) ranges s.1 filled.1
      (all_from_has (λ (r : Range). range.start + range.len ≤ r.start) ranges (λ r h. starts_after r h))
      (λ address. let all = once address in omega (arith, sum_by-cons (holds address) range ranges)),
)
  where
    starts_after : (r : Range) → Has r ranges → range.start + range.len ≤ r.start
    starts_after r h =
        let later : range.start ≤ r.start = all_of (λ (x : Range). range.start ≤ x.start) r ranges s.0 h in
        let long : 0 < r.len = all_of (λ (x : Range). 0 < x.len) r ranges filled.1 h in
        ⊎_elim
        (λ (l : r.start < range.start + range.len).
        let mine = in_held r.start range later l in
        let its = in_held r.start r (omega arith) (omega arith) in
        let all = once r.start in
        absurd (omega (arith, sum_by-cons (holds r.start) range ranges, sum_has (holds r.start) r ranges h)))
        (λ (l : range.start + range.len ≤ r.start). l)
        (cases_lt r.start (range.start + range.len))

-- the ranges that are left to be asked
pub record OrderLeft (ranges rest : List Range) (from : ℕ) : Type 0 where
  pub on : AreInOrder from rest → AreInOrder 0 ranges
  pub back : AreInOrder 0 ranges → AreInOrder from rest

pub all_order_left : (ranges : List Range) → OrderLeft ranges ranges 0
all_order_left ranges = record { on = λ a. a; back = λ a. a }

pub one_range_less : (ranges rest later : List Range) (range : Range) (from new_from : ℕ) → OrderLeft ranges rest from
    → rest ≡ range ∷ later → from ≤ range.start → new_from ≡ range.start + range.len → OrderLeft ranges later new_from
one_range_less ranges rest later range from new_from l e p f =
    rw f (record {
      on = λ a. l.on (rw e (p, a));
      back = λ a. let b : AreInOrder from (range ∷ later) = subst (λ r. AreInOrder from r) e (l.back a) in b.1;
    })

pub starts_early : (ranges rest later : List Range) (range : Range) (from : ℕ) → OrderLeft ranges rest from → rest ≡ range ∷ later
    → range.start < from → AreInOrder 0 ranges → ⊥
starts_early ranges rest later range from l e p a =
    let b : AreInOrder from (range ∷ later) = subst (λ r. AreInOrder from r) e (l.back a) in
    let begin = b.0 in
    omega arith

pub no_range_left : (ranges rest : List Range) (from : ℕ) → OrderLeft ranges rest from → rest ≡ [] → AreInOrder 0 ranges
no_range_left ranges rest from l e = l.on (subst (λ r. AreInOrder from r) (sym e) tt)

-- ---- ranges of files

files_counted : (files : List FileRec) (ranges : List Range) (address : ℕ) → IsPermutation (map (λ file. file.range) files) ranges
    → count_by (λ file. is_in file.range address) files ≡ sum_by (holds address) ranges
files_counted files ranges address p =
    sym (sum_of_map (holds address) (λ (file : FileRec). file.range) files)
    ∙ sym (sum_by-IsPermutation (holds address) (map (λ (file : FileRec). file.range) files) ranges p)

pub apart_in_order : (files : List FileRec) (ranges : List Range) → IsPermutation (map (λ file. file.range) files) ranges
    → AreInOrder 0 ranges → AreApart files
apart_in_order files ranges p o address = rw (files_counted files ranges address p) (once_in_order 0 ranges address o)

pub order_of_apart : (files : List FileRec) (ranges : List Range) → IsPermutation (map (λ file. file.range) files) ranges
    → IsNonDecreasingBy (λ range. range.start) ranges → AllByRecursion (λ range. 0 < range.len) ranges → AreApart files
    → AreInOrder 0 ranges
order_of_apart files ranges p s filled apart =
    in_order 0 ranges (starts_rise ranges s) filled (all_low ranges)
    (λ address. rw (sym (files_counted files ranges address p)) (apart address))
  where
    all_low : (xs : List Range) → AllByRecursion (λ range. 0 ≤ range.start) xs
    all_low [] = tt
    all_low (x ∷ xs) = (omega arith, all_low xs)

-- ---- sorted ranges

all_mapped : {X Y : Type 0} (P : Y → Type 0) (f : X → Y) (xs : List X) → AllByRecursion (λ x. P (f x)) xs → AllByRecursion P (map f xs)
all_mapped P f [] a = tt
all_mapped P f (x ∷ xs) a = (a.0, all_mapped P f xs a.1)

pub ranges_fit : (files : List FileRec) (ranges : List Range) → IsPermutation (map (λ file. file.range) files) ranges
    → AllByRecursion (λ file. (0 < file.range.len) × (file.range.start + file.range.len < 2 ^ 64)) files
    → AllByRecursion (λ range. (0 < range.len) × (range.start + range.len < 2 ^ 64)) ranges
ranges_fit files ranges p a =
    each-permuted (λ (r : Range). (0 < r.len) × (r.start + r.len < 2 ^ 64)) _ ranges p
    (all_mapped (λ (r : Range). (0 < r.len) × (r.start + r.len < 2 ^ 64)) (λ (file : FileRec). file.range) files a)

first_of_both : {X : Type 0} (P Q : X → Type 0) (xs : List X) → AllByRecursion (λ x. P x × Q x) xs → AllByRecursion P xs
first_of_both P Q [] a = tt
first_of_both P Q (x ∷ xs) a = (a.0.0, first_of_both P Q xs a.1)

second_of_both : {X : Type 0} (P Q : X → Type 0) (xs : List X) → AllByRecursion (λ x. P x × Q x) xs → AllByRecursion Q xs
second_of_both P Q [] a = tt
second_of_both P Q (x ∷ xs) a = (a.0.1, second_of_both P Q xs a.1)

pub ranges_end : (files : List FileRec) (ranges : List Range) → IsPermutation (map (λ file. file.range) files) ranges
    → AllByRecursion (λ file. (0 < file.range.len) × (file.range.start + file.range.len < 2 ^ 64)) files
    → AllByRecursion (λ range. range.start + range.len < 2 ^ 64) ranges
ranges_end files ranges p a =
    second_of_both (λ (r : Range). 0 < r.len) (λ (r : Range). r.start + r.len < 2 ^ 64) ranges (ranges_fit files ranges p a)

pub apart_decided : (files : List FileRec) (ranges : List Range) (b : Bool) → IsPermutation (map (λ file. file.range) files) ranges
    → IsNonDecreasingBy (λ range. range.start) ranges
    → AllByRecursion (λ file. (0 < file.range.len) × (file.range.start + file.range.len < 2 ^ 64)) files
    → MatchBool b (AreInOrder 0 ranges) (AreInOrder 0 ranges → ⊥) → MatchBool b (AreApart files) (AreApart files → ⊥)
apart_decided files ranges true p s a m = apart_in_order files ranges p m
apart_decided files ranges false p s a m = λ apart.
    m (order_of_apart files ranges p s
    (first_of_both (λ (r : Range). 0 < r.len) (λ (r : Range). r.start + r.len < 2 ^ 64) ranges (ranges_fit files ranges p a)) apart)

-- ---- files by address

files_rise : (files : List FileRec) → IsNonDecreasingBy (λ file. file.range.start) files → StartsRise (map (λ file. file.range) files)
files_rise [] s = tt
files_rise (file ∷ files) s = (
  all_mapped (λ (later : Range). file.range.start ≤ later.start) (λ (f : FileRec). f.range) files
      (all_at (λ (later : FileRec). file.range.start ≤ later.range.start) files file (λ k l. s 0 (suc k) file (omega arith) (omega arith))),
  files_rise files (IsNonDecreasingBy-drop (λ (f : FileRec). f.range.start) 1 (file ∷ files) s),
)

from_zero : (ranges : List Range) → AllByRecursion (λ range. 0 ≤ range.start) ranges
from_zero [] = tt
from_zero (range ∷ ranges) = (omega arith, from_zero ranges)

pub files_in_order : (files order : List FileRec) → IsPermutation files order → IsNonDecreasingBy (λ file. file.range.start) order
    → AllByRecursion (λ file. 0 < file.range.len) files → AreApart files → AreInOrder 0 (map (λ file. file.range) order)
files_in_order files order p s filled apart =
    let ranges : List Range = map (λ (file : FileRec). file.range) order in
    let moved : IsPermutation (map (λ (file : FileRec). file.range) files) ranges =
    IsPermutation-map (λ (file : FileRec). file.range) files order p in
    in_order 0 ranges (files_rise order s)
    (each-permuted (λ (r : Range). 0 < r.len) (map (λ (file : FileRec). file.range) files) ranges moved
    (all_mapped (λ (r : Range). 0 < r.len) (λ (file : FileRec). file.range) files filled))
    (from_zero ranges)
    (λ address. rw (sym (files_counted files ranges address moved)) (apart address))
