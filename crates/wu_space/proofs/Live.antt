-- What the slots tell of the live ranges.
use Rattle.std.proofs.Common.{◌≡◌, ℕ, zero, suc, ◌+◌, ◌-◌, ◌^◌, ◌<◌, ◌≤◌, Bool, true, false, cond, eqb, nat_lt, min, List, [], ◌∷◌, ◌++◌}
use Rattle.std.proofs.Common.{length, get_or, take, refl, ap, sym, ◌∙◌, subst, ⊎_elim, arith}
use Rattle.std.specs.Prelude.{◌==◌, None, Some, sum_by, count_by, map, filter, find, IsPermutation}
use Rattle.std.specs.declared.cmp.Ordering.TheVariants.{Less}
use Rattle.std.specs.Ordering.{nat_cmp, MatchOrdering}
use Rattle.std.proofs.lemmas.Cmp.{ranked}
use Rattle.std.specs.List.{AllByRecursion}
use Rattle.std.specs.List.Sorted.{IsStrictlySortedBy}
use Rattle.std.specs.Map.{keys_of, lookup, remove_entry}
use Rattle.std.specs.BTreeMap.{is_at, insert_entry}
use Rattle.std.specs.Cmp.{nat_cmp_total}
use Rattle.std.proofs.lemmas.Bool.{cases_lt, lt-ltb, ltb-true, ltb-false, leb-true, and_parts, false_from_ne_true, eqb-true, ne_eqb, le-leb}
use Rattle.std.proofs.lemmas.Bool.{le-ltb, cond-false}
use Rattle.std.proofs.lemmas.List.{length_push}
use Rattle.std.proofs.lemmas.List.Elements.{Contains-get_or}
use Rattle.std.proofs.lemmas.List.Sums.{sum_by-cons, sum_by_push, sum_by_more, sum_by-take-le}
use Rattle.wu_base.specs.declared.addresses.Range.{Range}
use Rattle.wu_base.proofs.MapEntries.{ascend-insert_entry, ascend-remove_entry}
use Rattle.wu_base.proofs.Members.{Has, Has-from_Contains, all_from_has}
use Rattle.wu_space.specs.declared.slots.Slot.{Slot}
use Rattle.wu_space.specs.Addresses.{Ranges, AreLive, IsSpace, owner_at, live_in, live_ranges, shared}
use Rattle.wu_base.specs.Ranges.{is_in}
use Rattle.wu_space.specs.Slots.{AreInOrder, Parts, SameFiles, IsSound, Releases, below, count_below, file_of, is_live, length_of, meets}
use Rattle.wu_space.specs.Slots.{range_of_slot, tidied, weight}
use Rattle.wu_space.proofs.Files.{mark, mark-itself, marked_file, sum_by-same, sum_by-one, sum_by-map, sum_by-filter, sum-insert_entry}
use Rattle.wu_space.proofs.Files.{sum-remove_entry, sum-positive, positive-has, find-none, find-is, IsPermutation-from_sums, same_range}
use Rattle.wu_space.proofs.Files.{alike_range, exact_range}
use Rattle.wu_space.proofs.Order.{below-none, below-sum, holder-is, holder-none, order-push, slot-ends}
use Rattle.wu_space.proofs.Kept.{KeepsLive-tidied, length-if_live, tidied-few}

pub parts-start : (address : ℕ) (slots : List Slot) (place : ℕ) (d : Slot) → Parts address slots (suc place) → (get_or slots place d).start ≤ address
parts-start address [] place d p = absurd p
parts-start address (s ∷ slots) zero d p = p.0
parts-start address (s ∷ slots) (suc place) d p = parts-start address slots place d p.1

-- a slot of some weight
weight-positive : (f : ℕ × Range → ℕ) (slot : Slot) → 0 < weight f slot → (is_live slot ≡ true) × (0 < f (file_of slot))
weight-positive f slot h =
    elim (is_live slot) as (λ b. 0 < cond {A = ℕ} b (f (file_of slot)) 0 → (b ≡ true) × (0 < f (file_of slot))) [
      | true ↦ λ l. (refl, l)
      | false ↦ λ l. absurd (omega arith)
    ] h

module _ (slots : List Slot) (files : Ranges) (same : SameFiles slots files) where
  pub slot-of_file : (file : ℕ × Range) → Has file files → (slot : Slot) × (Has slot slots × ((is_live slot ≡ true) × (file_of slot ≡ file)))
  slot-of_file file h =
      let a : 0 < sum_by (mark file) files = sum-positive (mark file) file files h (omega (arith, mark-itself file)) in
      let r = positive-has (weight (mark file)) slots (omega (arith, same (mark file))) in
      let w = weight-positive (mark file) r.0 r.1.1 in
      (r.0, (r.1.0, (w.0, sym (marked_file file (file_of r.0) w.1))))

  pub file-of_slot : (slot : Slot) → Has slot slots → is_live slot ≡ true → Has (file_of slot) files
  file-of_slot slot h l =
      let f = mark (file_of slot) in
      let one : weight f slot ≡ 1 = rw l (mark-itself (file_of slot)) in
      let a : 0 < sum_by (weight f) slots = sum-positive (weight f) slot slots h (omega (arith, one)) in
      let r = positive-has f files (omega (arith, same f)) in
      subst (λ (e : ℕ × Range). Has e files) (sym (marked_file (file_of slot) r.0 r.1.1)) r.1.0

  module _ (next : ℕ) (order : AreInOrder 0 slots next) where
    -- a file that has the address, and the last slot that starts up to it
    pub holder-of_file : (address place : ℕ) (d : Slot) (file : ℕ × Range) → Parts address slots (suc place) → Has file files
        → file.1.start ≤ address → address < file.1.start + file.1.len → file_of (get_or slots place d) ≡ file
    holder-of_file address place d file p h a b =
        let r = slot-of_file file h in
        let e : file_of r.0 ≡ file = r.1.1.1 in
        let s : get_or slots place d ≡ r.0 =
        holder-is 0 slots next address place r.0 d order p r.1.0 (omega (arith, ap (λ (x : ℕ × Range). x.1.start) e))
        (omega (arith, ap (λ (x : ℕ × Range). x.1.start + x.1.len) e)) in
        ap file_of s ∙ e

    in_range : (range : Range) (address : ℕ) → is_in range address ≡ true → (range.start ≤ address) × (address < range.start + range.len)
    in_range range address h = let p = and_parts _ _ h in (leb-true _ _ p.0, ltb-true _ _ p.1)

    pub owner-none : (address : ℕ) → Parts address slots zero → owner_at files address ≡ None
    owner-none address p =
        let none : find (λ (file : ℕ × Range). is_in file.1 address) files ≡ None =
        find-none (λ (file : ℕ × Range). is_in file.1 address) files
        (λ file h. false_from_ne_true (is_in file.1 address)
        (λ t.
        let r = slot-of_file file h in
        let i = in_range file.1 address t in
        holder-none address slots r.0 p r.1.0 (omega (arith, i.0, ap (λ (x : ℕ × Range). x.1.start) r.1.1.1)))) in
        rw none refl

    pub owner-some : (address place : ℕ) (d : Slot) → Parts address slots (suc place) → place < length slots
        → cond (nat_lt (address - (get_or slots place d).start) (get_or slots place d).len)
        (Some ((get_or slots place d).ino, address - (get_or slots place d).start)) None
        ≡ owner_at files address
    owner-some address place d p l =
        let s : Slot = get_or slots place d in
        let begins : s.start ≤ address = parts-start address slots place d p in
        let unique : (y : ℕ × Range) → Has y files → is_in y.1 address ≡ true → file_of s ≡ y = λ y h t.
        let i = in_range y.1 address t in holder-of_file address place d y p h i.0 i.1 in
        elim (nat_lt (address - s.start) s.len) as
        (λ b. nat_lt (address - s.start) s.len ≡ b → cond b (Some (s.ino, address - s.start)) None ≡ owner_at files address) [
          | true ↦ λ q.
              let within : address - s.start < s.len = ltb-true _ _ q in
              let live : is_live s ≡ true = lt-ltb 0 s.len (omega arith) in
              let there : Has (file_of s) files = file-of_slot s (Has-from_Contains s slots (Contains-get_or slots place d l)) live in
              let inside : is_in (range_of_slot s) address ≡ true = rw (le-leb s.start address begins, lt-ltb address (s.start + s.len) (omega arith)) refl in
              let found : find (λ (file : ℕ × Range). is_in file.1 address) files ≡ Some (file_of s) =
              find-is (λ (file : ℕ × Range). is_in file.1 address) (file_of s) files there inside (λ y h t. sym (unique y h t)) in
              rw found refl
          | false ↦ λ q.
              let past : s.len ≤ address - s.start = ltb-false _ _ q in
              let none : find (λ (file : ℕ × Range). is_in file.1 address) files ≡ None =
              find-none (λ (file : ℕ × Range). is_in file.1 address) files
              (λ file h. false_from_ne_true (is_in file.1 address)
              (λ t.
              let i = in_range file.1 address t in
              let e : file_of s ≡ file = unique file h t in
              omega (arith, i.0, i.1, ap (λ (x : ℕ × Range). x.1.start + x.1.len) e))) in
              rw none refl
        ] refl

  -- ---- counts

  below-if_live : (address : ℕ) (slot : Slot) → cond {A = ℕ} (is_live slot) (below address slot) 0 ≡ below address slot
  below-if_live address slot =
      elim (is_live slot) as (λ b. is_live slot ≡ b → cond {A = ℕ} b (below address slot) 0 ≡ below address slot) [
        | true ↦ λ p. refl
        | false ↦ λ p. omega (arith, ltb-false 0 slot.len p)
      ] refl

  pub count_below-slots : (address : ℕ) → sum_by (below address) slots ≡ count_below address files
  count_below-slots address =
      let f : ℕ × Range → ℕ = λ file. min file.1.len (address - file.1.start) in
      sym (sum_by-same (weight f) (below address) (below-if_live address) slots) ∙ same f

  -- ---- the ranges of an interval

  meets-live : (low high : ℕ) (slot : Slot) (n : ℕ)
      → cond {A = ℕ} (is_live slot) (cond (meets low high slot) n 0) 0 ≡ cond (meets low high slot) n 0
  meets-live low high slot n =
      elim (is_live slot) as (λ b. is_live slot ≡ b → cond {A = ℕ} b (cond (meets low high slot) n 0) 0 ≡ cond (meets low high slot) n 0) [
        | true ↦ λ p. refl
        | false ↦ λ p.
            let empty : slot.len ≤ 0 = ltb-false 0 slot.len p in
            let misses : meets low high slot ≡ false = le-ltb 0 (shared low high (range_of_slot slot)) (omega arith) in
            rw misses refl
      ] refl

  pub ranges-same : (low high : ℕ) → IsPermutation (live_ranges files low high) (map range_of_slot (filter (meets low high) slots))
  ranges-same low high =
      IsPermutation-from_sums same_range alike_range exact_range (live_ranges files low high) (map range_of_slot (filter (meets low high) slots))
      (λ f.
      let p : Range → Bool = λ range. nat_lt 0 (shared low high range) in
      let g : ℕ × Range → ℕ = λ file. cond (p file.1) (f file.1) 0 in
      let h : Slot → ℕ = λ slot. cond (meets low high slot) (f (range_of_slot slot)) 0 in
      let a : sum_by f (filter p (map (λ (file : ℕ × Range). file.1) files)) ≡ sum_by (λ (r : Range). cond (p r) (f r) 0) (map (λ (file : ℕ × Range). file.1) files) =
      sum_by-filter f p (map (λ (file : ℕ × Range). file.1) files) in
      let b : sum_by (λ (r : Range). cond (p r) (f r) 0) (map (λ (file : ℕ × Range). file.1) files) ≡ sum_by g files =
      sum_by-map (λ (r : Range). cond (p r) (f r) 0) (λ (file : ℕ × Range). file.1) files in
      let k : sum_by (weight g) slots ≡ sum_by h slots =
      sum_by-same (weight g) h (λ slot. meets-live low high slot (f (range_of_slot slot))) slots in
      let m : sum_by f (map range_of_slot (filter (meets low high) slots)) ≡ sum_by (λ (s : Slot). f (range_of_slot s)) (filter (meets low high) slots) =
      sum_by-map f range_of_slot (filter (meets low high) slots) in
      let n : sum_by (λ (s : Slot). f (range_of_slot s)) (filter (meets low high) slots) ≡ sum_by h slots =
      sum_by-filter (λ (s : Slot). f (range_of_slot s)) (meets low high) slots in
      a ∙ b ∙ sym (same g) ∙ k ∙ sym n ∙ sym m)

-- ---- small facts

cond-le : (b : Bool) → cond {A = ℕ} b 1 0 ≤ 1
cond-le true = omega arith
cond-le false = omega arith

cond-positive : (b : Bool) → 0 < cond {A = ℕ} b 1 0 → b ≡ true
cond-positive true h = refl
cond-positive false h = absurd (omega arith)

count-other : {X : Type 0} (p : X → Bool) (x : X) (xs : List X) → p x ≡ false → count_by p xs ≡ 0 → count_by p (x ∷ xs) ≡ 0
count-other {X = X} p x xs e h = omega (arith, sum_by-cons (λ (y : X). cond {A = ℕ} (p y) 1 0) x xs, cond-false {A = ℕ} (p x) 1 0 e)

le_from_not_lt : {n : ℕ} → (0 < n → ⊥) → n ≤ 0
le_from_not_lt {n} h = ⊎_elim (λ (l : 0 < n). absurd (h l)) (λ (l : n ≤ 0). l) (cases_lt 0 n)

less_from_cmp : (x y : ℕ) → nat_cmp x y ≡ Less → x < y
less_from_cmp x y h = let r : MatchOrdering Less (x < y) (x ≡ y) (y < x) = ranked x y Less (sym h) in r

-- ---- the rules

above-number : (ino : ℕ) (number : ℕ) (files : Ranges) → number ≡ ino → AllByRecursion (λ y. nat_cmp number y ≡ Less) (keys_of files)
    → count_by (λ file. file.0 == ino) files ≡ 0
above-number ino number [] e a = refl
above-number ino number (file ∷ files) e a =
    let less : number < file.0 = less_from_cmp number file.0 a.0 in
    let other : eqb file.0 ino ≡ false = ne_eqb file.0 ino (λ f. omega arith) in
    count-other (λ (f : ℕ × Range). f.0 == ino) file files other (above-number ino number files e a.1)

pub once-from_sorted : (files : Ranges) → IsStrictlySortedBy nat_cmp (keys_of files) → (ino : ℕ)
    → count_by (λ file. file.0 == ino) files ≤ 1
unfolding IsStrictlySortedBy
once-from_sorted [] s ino = omega arith
once-from_sorted (file ∷ files) s ino =
    elim (eqb file.0 ino) as (λ b. eqb file.0 ino ≡ b → count_by (λ (f : ℕ × Range). f.0 == ino) (file ∷ files) ≤ 1) [
      | true ↦ λ p.
          let none = above-number ino file.0 files (eqb-true file.0 ino p) s.0 in
          omega (arith, sum_by-cons (λ (f : ℕ × Range). cond {A = ℕ} (f.0 == ino) 1 0) file files, cond-le (eqb file.0 ino), none)
      | false ↦ λ p.
          let rest = once-from_sorted files s.1 ino in
          omega (
            arith,
            sum_by-cons (λ (f : ℕ × Range). cond {A = ℕ} (f.0 == ino) 1 0) file files,
            cond-false {A = ℕ} (eqb file.0 ino) 1 0 p,
          )
    ] refl

-- how often an address is in live slots
abbrev holds : ℕ → Slot → ℕ
holds address slot = weight (λ file. cond (is_in file.1 address) 1 0) slot

holds-one : (address : ℕ) (slot : Slot) → holds address slot ≤ 1
holds-one address slot =
    elim (is_live slot) as (λ b. cond {A = ℕ} b (cond (is_in (range_of_slot slot) address) 1 0) 0 ≤ 1) [
      | true ↦ cond-le (is_in (range_of_slot slot) address)
      | false ↦ omega arith
    ]

holds-in : (address : ℕ) (slot : Slot) → 0 < holds address slot → (slot.start ≤ address) × (address < slot.start + slot.len)
holds-in address slot h =
    let w = weight-positive (λ (file : ℕ × Range). cond {A = ℕ} (is_in file.1 address) 1 0) slot h in
    let t : is_in (range_of_slot slot) address ≡ true = cond-positive (is_in (range_of_slot slot) address) w.1 in
    let p = and_parts _ _ t in
    (leb-true _ _ p.0, ltb-true _ _ p.1)

none-holds : (low : ℕ) (slots : List Slot) (high address : ℕ) → AreInOrder low slots high → address < low → sum_by (holds address) slots ≡ 0
none-holds low [] high address o l = refl
none-holds low (slot ∷ slots) high address o l =
    let out : holds address slot ≤ 0 = le_from_not_lt (λ (h : 0 < holds address slot). let i = holds-in address slot h in omega (arith, i.0, o.0)) in
    omega (arith, sum_by-cons (holds address) slot slots, none-holds (slot.start + slot.len) slots high address o.1 (omega (arith, o.0)))

pub one-holds : (low : ℕ) (slots : List Slot) (high address : ℕ) → AreInOrder low slots high → sum_by (holds address) slots ≤ 1
one-holds low [] high address o = omega arith
one-holds low (slot ∷ slots) high address o =
    ⊎_elim
    (λ (h : 0 < holds address slot).
    let i = holds-in address slot h in
    omega (
      arith,
      sum_by-cons (holds address) slot slots,
      holds-one address slot,
      none-holds (slot.start + slot.len) slots high address o.1 i.1,
    ))
    (λ (h : holds address slot ≤ 0).
    omega (arith, sum_by-cons (holds address) slot slots, one-holds (slot.start + slot.len) slots high address o.1))
    (cases_lt 0 (holds address slot))

pub live-from_sound : (slots : List Slot) (files : Ranges) (next total : ℕ) → IsSound slots files next total → AreLive next files
live-from_sound slots files next total s = record {
  once = once-from_sorted files s.by_number;
  disjoint = λ address.
      omega (arith, s.same (λ file. cond (is_in file.1 address) 1 0), one-holds 0 slots next address s.by_address);
  filled = all_from_has (λ (file : ℕ × Range). 0 < file.1.len) files
      (λ file h.
      let r = slot-of_file slots files s.same file h in
      omega (arith, ltb-true 0 r.0.len r.1.1.0, ap (λ (x : ℕ × Range). x.1.len) r.1.1.1));
  given = all_from_has (λ (file : ℕ × Range). file.1.start + file.1.len ≤ next) files
      (λ file h.
      let r = slot-of_file slots files s.same file h in
      omega (arith, slot-ends 0 slots next r.0 s.by_address r.1.0, ap (λ (x : ℕ × Range). x.1.start + x.1.len) r.1.1.1));
}

pub space-from_sound : (slots : List Slot) (files : Ranges) (next total : ℕ) → IsSound slots files next total → next < 2 ^ 64
    → IsSpace (record { next = next; ranges = files })
space-from_sound slots files next total s h = record {
  small = h;
  by_number = s.by_number;
  live = live-from_sound slots files next total s;
}

-- ---- how many addresses of an interval are live

module _ (next low high end : ℕ) (is : end ≡ min next (high + 1)) where
  shares-within : (files : Ranges) → low ≤ end → AllByRecursion (λ file. file.1.start + file.1.len ≤ next) files
      → live_in files low high + count_below low files ≡ count_below end files
  shares-within [] l a = refl
  shares-within (file ∷ files) l a =
      omega (
        arith,
        a.0,
        sum_by-cons (λ (f : ℕ × Range). shared low high f.1) file files,
        sum_by-cons (λ (f : ℕ × Range). min f.1.len (low - f.1.start)) file files,
        sum_by-cons (λ (f : ℕ × Range). min f.1.len (end - f.1.start)) file files,
        shares-within files l a.1,
      )

  shares-none : (files : Ranges) → end < low → AllByRecursion (λ file. file.1.start + file.1.len ≤ next) files
      → (live_in files low high ≡ 0) × (count_below end files ≤ count_below low files)
  shares-none [] l a = (refl, omega arith)
  shares-none (file ∷ files) l a =
      let r = shares-none files l a.1 in
      let f = sum_by-cons (λ (f : ℕ × Range). shared low high f.1) file files in
      let g = sum_by-cons (λ (f : ℕ × Range). min f.1.len (low - f.1.start)) file files in
      let h = sum_by-cons (λ (f : ℕ × Range). min f.1.len (end - f.1.start)) file files in
      (omega (arith, a.0, f, r.0), omega (arith, g, h, r.1))

  pub live_in-is : (files : Ranges) → AllByRecursion (λ file. file.1.start + file.1.len ≤ next) files
      → count_below end files - count_below low files ≡ live_in files low high
  live_in-is files a =
      ⊎_elim
      (λ (l : end < low). let r = shares-none files l a in omega (arith, r.0, r.1))
      (λ (l : low ≤ end). omega (arith, shares-within files l a))
      (cases_lt end low)

pub has_from_lookup : (ino : ℕ) (files : Ranges) (range : Range) → lookup (is_at (nat_cmp ino)) files ≡ Some range → Has (ino, range) files
has_from_lookup ino files range h =
    ⊎_elim
    (λ (l : 0 < sum_by (mark (ino, range)) files).
    let r = positive-has (mark (ino, range)) files l in
    subst (λ (e : ℕ × Range). Has e files) (sym (marked_file (ino, range) r.0 r.1.1)) r.1.0)
    (λ (l : sum_by (mark (ino, range)) files ≤ 0).
    absurd (omega (arith, sum-remove_entry (mark (ino, range)) ino files range h, mark-itself (ino, range))))
    (cases_lt 0 (sum_by (mark (ino, range)) files))

count_below-zero : (files : Ranges) → count_below 0 files ≡ 0
count_below-zero [] = refl
count_below-zero (file ∷ files) =
    omega (arith, sum_by-cons (λ (f : ℕ × Range). min f.1.len (0 - f.1.start)) file files, count_below-zero files)

pub below-fits : (slots : List Slot) (address place : ℕ) (d : Slot) → place < length slots
    → length_of (take place slots) + below address (get_or slots place d) ≤ length_of slots
below-fits slots address place d h =
    omega (arith, sum_by_more (λ (x : Slot). x.len) slots place d h, sum_by-take-le (λ (x : Slot). x.len) slots (place + 1))

module _ (slots : List Slot) (files : Ranges) (next total : ℕ) (s : IsSound slots files next total) where
  pub count_below-start : (address : ℕ) → address ≡ 0 → 0 ≡ count_below address files
  count_below-start address e = rw e (sym (count_below-zero files))

  pub count_below-none : (address before : ℕ) → address ≡ before + 1 → Parts before slots zero → 0 ≡ count_below address files
  count_below-none address before e p = sym (below-none address before slots e p) ∙ count_below-slots slots files s.same address

  pub count_below-some : (address before place : ℕ) (d : Slot) → address ≡ before + 1 → Parts before slots (suc place)
      → length_of (take place slots) + below address (get_or slots place d) ≡ count_below address files
  count_below-some address before place d e p =
      sym (below-sum 0 slots next address before place d s.by_address e p) ∙ count_below-slots slots files s.same address

  -- ---- changes

  pub sound-placed : (ino len : ℕ) → lookup (is_at (nat_cmp ino)) files ≡ None → 0 < len
      → IsSound (slots ++ record { start = next; len = len; ino = ino } ∷ [])
      (insert_entry nat_cmp files ino (record { start = next; len = len })) (next + len) (total + len)
  sound-placed ino len free some =
      let slot : Slot = record { start = next; len = len; ino = ino } in
      let range : Range = record { start = next; len = len } in
      record {
        by_number = ascend-insert_entry nat_cmp_total files ino range s.by_number;
        by_address = order-push 0 slots next slot s.by_address (omega arith);
        same = λ f.
            let one : weight f slot ≡ f (ino, range) = rw (lt-ltb 0 len some) refl in
            omega (arith, sum_by_push (weight f) slots slot, one, s.same f, sum-insert_entry f ino files range free);
        sum = omega (arith, s.sum, sum_by_push (λ (x : Slot). x.len) slots slot);
        few = omega (
          arith,
          s.few,
          length_push slots slot,
          sum-insert_entry (λ file. 1) ino files range free,
          sum_by-one files,
          sum_by-one (insert_entry nat_cmp files ino range),
        );
      }

  pub length-of_file : (ino : ℕ) (range : Range) → lookup (is_at (nat_cmp ino)) files ≡ Some range → range.len ≤ total
  length-of_file ino range h =
      let f : ℕ × Range → ℕ = λ file. file.1.len in
      let a : sum_by (weight f) slots ≡ length_of slots = sum_by-same (weight f) (λ (x : Slot). x.len) length-if_live slots in
      omega (arith, sum-remove_entry f ino files range h, s.same f, s.sum, a)

  pub sound-released : (ino : ℕ) (range : Range) (fewer : List Slot) (live left : ℕ) → lookup (is_at (nat_cmp ino)) files ≡ Some range
      → Releases range.start slots fewer → live ≡ length (remove_entry (is_at (nat_cmp ino)) files) → left ≡ total - range.len
      → IsSound (tidied live fewer) (remove_entry (is_at (nat_cmp ino)) files) next left
  sound-released ino range fewer live left h r n e =
      let k = KeepsLive-tidied live fewer in
      let file = has_from_lookup ino files range h in
      let slot = slot-of_file slots files s.same (ino, range) file in
      let is : file_of slot.0 ≡ (ino, range) = slot.1.1.1 in
      let begin : slot.0.start ≡ range.start = ap (λ (x : ℕ × Range). x.1.start) is in
      let len : slot.0.len ≡ range.len = ap (λ (x : ℕ × Range). x.1.len) is in
      let filled : 0 < slot.0.len = ltb-true 0 slot.0.len slot.1.1.0 in
      let same : SameFiles (tidied live fewer) (remove_entry (is_at (nat_cmp ino)) files) = λ f.
      let fewer_files = r.same slot.0 slot.1.0 begin filled 0 next s.by_address f in
      omega (arith, k.same f, fewer_files, ap f is, s.same f, sum-remove_entry f ino files range h) in
      record {
        by_number = ascend-remove_entry nat_cmp (is_at (nat_cmp ino)) files s.by_number;
        by_address = k.order 0 next (r.order slot.0 slot.1.0 begin filled 0 next s.by_address);
        same = same;
        few = omega (
          arith,
          n,
          tidied-few live fewer (same (λ file. 1) ∙ sum_by-one (remove_entry (is_at (nat_cmp ino)) files) ∙ sym n),
        );
        sum = omega (arith, k.sum, r.sum slot.0 slot.1.0 begin filled 0 next s.by_address, s.sum);
      }
