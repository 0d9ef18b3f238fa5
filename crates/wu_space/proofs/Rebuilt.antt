-- Ranges that were written down: which keep the rules, and the slots and entries made of them.
use Rattle.std.proofs.Common.{◌≡◌, ℕ, suc, ◌+◌, ◌<◌, ◌≤◌, cond, List, [], ◌∷◌, length, get_or, drop, refl, ap, sym, ◌∙◌, subst, ⊎_elim}
use Rattle.std.proofs.Common.{Bool, true, false, arith}
use Rattle.std.specs.Prelude.{◌==◌, Option, Some, None, sum_by, count_by, map, IsPermutation}
use Rattle.std.specs.Ordering.{eq_by_cmp, is_eq, nat_cmp}
use Rattle.std.specs.Cmp.{nat_cmp_total, eq_by_cmp_equiv}
use Rattle.std.specs.List.{AllByRecursion, IsDistinct}
use Rattle.std.specs.List.Sorted.{IsNonDecreasingBy, IsStrictlySortedBy}
use Rattle.std.specs.Map.{keys_of, lookup, remove_entry}
use Rattle.std.specs.BTreeMap.{BTreeMap, IsFromIterResult, btree_map_len, is_at}
use Rattle.std.proofs.lemmas.Bool.{cases_lt, lt-ltb, le-leb, eq-eqb}
use Rattle.std.proofs.lemmas.List.{drop_all}
use Rattle.std.proofs.lemmas.List.Sums.{sum_by-cons}
use Rattle.std.proofs.lemmas.List.Sorted.{sum_by-IsPermutation, Contains-permutation, IsPermutation-sym}
use Rattle.std.proofs.lemmas.Map.{lookup-remove_entry}
use Rattle.std.proofs.lemmas.Map.Keys.{IsDistinct-from_sorted, IsDistinct-tail}
use Rattle.std.proofs.lemmas.Map.Lookups.{exact_unsigned}
use Rattle.std.proofs.lemmas.Map.Made.{nil_from_lookup}
use Rattle.wu_base.specs.declared.addresses.Range.{Range}
use Rattle.wu_base.proofs.MapEntries.{ascend-remove_entry, is_equal, number_itself}
use Rattle.wu_base.proofs.Members.{Has, Has-map, map_has, Has-from_Contains, Contains-from_Has, all_has, all_from_has}
use Rattle.wu_space.specs.declared.slots.Slot.{Slot}
use Rattle.wu_space.specs.Addresses.{Ranges, AreLive}
use Rattle.wu_base.specs.Ranges.{is_in}
use Rattle.wu_space.specs.Slots.{AreInOrder, IsSound, file_of, length_of, range_of_slot, weight}
use Rattle.wu_space.specs.Rebuilding.{HasEachOnce, IsFiles, IsOrderedTo, slot_of}
use Rattle.wu_space.proofs.Collected.{distinct_from_len, found-distinct, len-distinct}
use Rattle.wu_space.proofs.Files.{sum_by-map, sum_by-one, sum-remove_entry, has-from_sums, IsPermutation-from_sums, same_file, alike_file}
use Rattle.wu_space.proofs.Files.{exact_file}
use Rattle.wu_space.proofs.Order.{total-le}
use Rattle.wu_space.proofs.Live.{once-from_sorted}

abbrev pub AreFilled : List Slot → Type 0
AreFilled slots = AllByRecursion (λ slot. 0 < slot.len) slots

-- ---- one slot after the other

pub ordered-none : (slots : List Slot) (next : ℕ) → IsOrderedTo slots 0 0 next
ordered-none slots next = record {
  within = omega arith;
  whole = λ f o. (f, o);
  rest = λ f o. (f, o);
}

pub ordered-more : (slots : List Slot) (place low next end : ℕ) (slot : Slot) → IsOrderedTo slots place low next
    → drop place slots ≡ slot ∷ drop (place + 1) slots → 0 < slot.len → low ≤ slot.start → end ≡ slot.start + slot.len → end ≤ next
    → IsOrderedTo slots (place + 1) end next
ordered-more slots place low next end slot s e f b is l = record {
  within = l;
  whole = λ g o.
      s.whole (rw e (f, g)) (rw e (b, subst (λ (n : ℕ). AreInOrder n (drop (place + 1) slots) next) is o));
  rest = λ g o.
      let r = s.rest g o in
      let filled : AreFilled (slot ∷ drop (place + 1) slots) = subst AreFilled e r.0 in
      let order : AreInOrder low (slot ∷ drop (place + 1) slots) next = subst (λ (l : List Slot). AreInOrder low l next) e r.1 in
      (filled.1, subst (λ (n : ℕ). AreInOrder n (drop (place + 1) slots) next) (sym is) order.1);
}

pub ordered-all : (slots : List Slot) (place low next : ℕ) → IsOrderedTo slots place low next → length slots ≤ place
    → AreFilled slots × AreInOrder 0 slots next
ordered-all slots place low next s h =
    let e : drop place slots ≡ [] = drop_all place slots h in
    s.whole (rw e tt) (rw e s.within)

pub ordered-stops : (slots : List Slot) (place low next : ℕ) (slot : Slot) → IsOrderedTo slots place low next
    → drop place slots ≡ slot ∷ drop (place + 1) slots → (0 < slot.len → low ≤ slot.start → slot.start + slot.len ≤ next → ⊥)
    → AreFilled slots → AreInOrder 0 slots next → ⊥
ordered-stops slots place low next slot s e out f o =
    let r = s.rest f o in
    let filled : AreFilled (slot ∷ drop (place + 1) slots) = subst AreFilled e r.0 in
    let order : AreInOrder low (slot ∷ drop (place + 1) slots) next = subst (λ (l : List Slot). AreInOrder low l next) e r.1 in
    out filled.0 order.0 (omega (arith, total-le (slot.start + slot.len) (drop (place + 1) slots) next order.1))

-- ---- by number

one-of : (ino : ℕ) (file : ℕ × Range) → file.0 ≡ ino → cond {A = ℕ} (file.0 == ino) 1 0 ≡ 1
one-of ino file e = rw (eq-eqb file.0 ino e) refl

numbers_apart : (ino : ℕ) (ranges : Ranges) → count_by (λ file. file.0 == ino) ranges ≡ 0
    → AllByRecursion (λ other. eq_by_cmp nat_cmp ino other ≡ false) (keys_of ranges)
numbers_apart ino [] h = tt
numbers_apart ino (file ∷ ranges) h =
    let count = sum_by-cons (λ (other : ℕ × Range). cond {A = ℕ} (other.0 == ino) 1 0) file ranges in (
      elim (is_eq (nat_cmp ino file.0)) as (λ b. is_eq (nat_cmp ino file.0) ≡ b → b ≡ false) [
        | true ↦ λ e. absurd (omega (arith, h, count, one-of ino file (sym (exact_unsigned ino file.0 (is_equal _ e)))))
        | false ↦ λ e. refl
      ] refl,
      numbers_apart ino ranges (omega (arith, h, count)),
    )

distinct-from_once : (ranges : Ranges) → HasEachOnce ranges → IsDistinct (eq_by_cmp nat_cmp) (keys_of ranges)
unfolding IsDistinct
distinct-from_once [] once = tt
distinct-from_once (file ∷ ranges) once =
    let count : (ino : ℕ) → count_by (λ other. other.0 == ino) (file ∷ ranges)
    ≡ cond {A = ℕ} (file.0 == ino) 1 0 + count_by (λ other. other.0 == ino) ranges
    = λ ino. sum_by-cons (λ (other : ℕ × Range). cond {A = ℕ} (other.0 == ino) 1 0) file ranges in (
      numbers_apart file.0 ranges (omega (arith, once file.0, count file.0, one-of file.0 file refl)),
      distinct-from_once ranges (λ ino. omega (arith, once ino, count ino)),
    )

sums-same : (f : ℕ × Range → ℕ) (ranges files : Ranges) → IsDistinct (eq_by_cmp nat_cmp) (keys_of ranges)
    → IsStrictlySortedBy nat_cmp (keys_of files)
    → ((q : ℕ) → lookup (is_at (nat_cmp q)) files ≡ lookup (is_at (nat_cmp q)) ranges) → sum_by f files ≡ sum_by f ranges
sums-same f [] files d s h = ap (sum_by f) (nil_from_lookup (eq_by_cmp_equiv nat_cmp_total) files h)
sums-same f (file ∷ ranges) files d s h =
    let ino : ℕ = file.0 in
    let test : ℕ → Bool = is_at (nat_cmp ino) in
    let laws = eq_by_cmp_equiv nat_cmp_total in
    let here : lookup test files ≡ Some file.1 = h ino ∙ rw (number_itself ino) refl in
    let gone : remove_entry test (file ∷ ranges) ≡ ranges = rw (number_itself ino) refl in
    let rest =
    sums-same f ranges (remove_entry test files) (IsDistinct-tail (eq_by_cmp nat_cmp) ino (keys_of ranges) d)
    (ascend-remove_entry nat_cmp test files s)
    (λ q. lookup-remove_entry laws test (laws.congr ino) q files (IsDistinct-from_sorted nat_cmp (keys_of files) s)
    ∙ (ap (λ (o : Option Range). cond (test q) None o) (h q)
    ∙ (sym (lookup-remove_entry laws test (laws.congr ino) q (file ∷ ranges) d)
    ∙ ap (λ (l : Ranges). lookup (is_at (nat_cmp q)) l) gone))) in
    omega (arith, sum-remove_entry f ino files file.1 here, rest, sum_by-cons f file ranges)

module _ (ranges : Ranges) (by_number : BTreeMap ℕ Range) (collected : IsFromIterResult nat_cmp ranges by_number) where
  pub len-once : HasEachOnce ranges → btree_map_len by_number ≡ length ranges
  len-once once = len-distinct ranges by_number collected (distinct-from_once ranges once)

  pub files-collected : length ranges ≤ btree_map_len by_number → IsFiles ranges by_number.entries
  files-collected h = record {
    by_number = collected.1;
    same = λ f.
        let distinct = distinct_from_len ranges by_number collected h in
        sums-same f ranges by_number.entries distinct collected.1 (found-distinct ranges by_number collected distinct);
  }

pub once-from_files : (ranges files : Ranges) → IsFiles ranges files → HasEachOnce ranges
once-from_files ranges files s ino = omega (arith, s.same (λ file. cond (file.0 == ino) 1 0), once-from_sorted files s.by_number ino)

-- ---- by address

-- how often an address is in the slots
abbrev covered : ℕ → Slot → ℕ
covered address slot = cond (is_in (range_of_slot slot) address) 1 0

covers : (address : ℕ) (slot : Slot) → slot.start ≤ address → address < slot.start + slot.len → covered address slot ≡ 1
covers address slot b e = rw (le-leb slot.start address b, lt-ltb address (slot.start + slot.len) e) refl

pub order-from_rules : (low : ℕ) (slots : List Slot) (next : ℕ) → IsNonDecreasingBy (λ (x : Slot). x.start) slots → AreFilled slots
    → AllByRecursion (λ slot. slot.start + slot.len ≤ next) slots → ((address : ℕ) → sum_by (covered address) slots ≤ 1)
    → low ≤ next → ((d : Slot) → 0 < length slots → low ≤ (get_or slots 0 d).start)
    → AreInOrder low slots next
order-from_rules low [] next up f g c l b = l
order-from_rules low (s ∷ []) next up f g c l b = (b s (omega arith), g.0)
order-from_rules low (s ∷ t ∷ slots) next up f g c l b =
    let rise : s.start ≤ t.start = up 0 1 s (omega arith) (omega arith) in
    let apart : s.start + s.len ≤ t.start =
    ⊎_elim
    (λ (h : t.start < s.start + s.len).
    absurd (omega (
      arith,
      c t.start,
      sum_by-cons (covered t.start) s (t ∷ slots),
      sum_by-cons (covered t.start) t slots,
      covers t.start s rise h,
      covers t.start t (omega arith) (omega (arith, f.1.0)),
    )))
    (λ (h : s.start + s.len ≤ t.start). h)
    (cases_lt t.start (s.start + s.len)) in (
      b s (omega arith),
      order-from_rules (s.start + s.len) (t ∷ slots) next
          (λ i j d m n. up (suc i) (suc j) d (omega arith) (omega arith)) f.1 g.1
          (λ address. omega (arith, c address, sum_by-cons (covered address) s (t ∷ slots))) g.0 (λ d h. apart),
    )

module _ (ranges : Ranges) (slots : List Slot) (moved : IsPermutation (map slot_of ranges) slots) where
  file-of : (slot : Slot) → Has slot slots → (file : ℕ × Range) × (Has file ranges × (slot_of file ≡ slot))
  file-of slot h =
      map_has slot_of slot ranges
      (Has-from_Contains slot (map slot_of ranges)
      (Contains-permutation slots (map slot_of ranges) slot (IsPermutation-sym (map slot_of ranges) slots moved) (Contains-from_Has slot slots h)))

  slot-of : (file : ℕ × Range) → Has file ranges → Has (slot_of file) slots
  slot-of file h =
      Has-from_Contains (slot_of file) slots
      (Contains-permutation (map slot_of ranges) slots (slot_of file) moved
      (Contains-from_Has (slot_of file) (map slot_of ranges) (Has-map slot_of file ranges h)))

  sums-moved : (g : Slot → ℕ) → sum_by g slots ≡ sum_by (λ file. g (slot_of file)) ranges
  sums-moved g = sum_by-IsPermutation g (map slot_of ranges) slots moved ∙ sum_by-map g slot_of ranges

  pub order-from_live : (next : ℕ) → IsNonDecreasingBy (λ (x : Slot). x.start) slots → AreLive next ranges
      → AreFilled slots × AreInOrder 0 slots next
  order-from_live next up live =
      let filled : AreFilled slots = all_from_has (λ (slot : Slot). 0 < slot.len) slots
      (λ slot h.
      let r = file-of slot h in
      let f : 0 < r.0.1.len = all_has (λ (file : ℕ × Range). 0 < file.1.len) r.0 ranges live.filled r.1.0 in
      omega (arith, f, ap (λ (x : Slot). x.len) r.1.1)) in
      let given : AllByRecursion (λ (slot : Slot). slot.start + slot.len ≤ next) slots = all_from_has (λ (slot : Slot). slot.start + slot.len ≤ next) slots
      (λ slot h.
      let r = file-of slot h in
      let f : r.0.1.start + r.0.1.len ≤ next = all_has (λ (file : ℕ × Range). file.1.start + file.1.len ≤ next) r.0 ranges live.given r.1.0 in
      omega (arith, f, ap (λ (x : Slot). x.start + x.len) r.1.1)) in (
        filled,
        order-from_rules 0 slots next up filled given (λ address. omega (arith, sums-moved (covered address), live.disjoint address))
            (omega arith) (λ d h. omega arith),
      )

  weights-filled : (f : ℕ × Range → ℕ) (xs : List Slot) → AreFilled xs → sum_by (weight f) xs ≡ sum_by (λ slot. f (file_of slot)) xs
  weights-filled f [] a = refl
  weights-filled f (x ∷ xs) a =
      let one : weight f x ≡ f (file_of x) = rw (lt-ltb 0 x.len a.0) refl in
      omega (arith, one, sum_by-cons (weight f) x xs, sum_by-cons (λ (s : Slot). f (file_of s)) x xs, weights-filled f xs a.1)

  pub sound-rebuilt : (next total : ℕ) (files : Ranges) → IsFiles ranges files → AreFilled slots → AreInOrder 0 slots next
      → total ≡ length_of slots → IsSound slots files next total
  sound-rebuilt next total files s f o e = record {
    by_number = s.by_number;
    by_address = o;
    same = λ g. omega (arith, weights-filled g slots f, sums-moved (λ slot. g (file_of slot)), s.same g);
    sum = e;
    few = omega (arith, sums-moved (λ slot. 1), s.same (λ file. 1), sum_by-one slots, sum_by-one files);
  }

pub live-from_files : (next : ℕ) (ranges files : Ranges) → IsFiles ranges files → AreLive next files → AreLive next ranges
live-from_files next ranges files s live =
    let there : (file : ℕ × Range) → Has file ranges → Has file files =
    has-from_sums same_file alike_file exact_file ranges files (λ f. sym (s.same f)) in
    record {
      once = once-from_files ranges files s;
      disjoint = λ address. omega (arith, s.same (λ file. cond (is_in file.1 address) 1 0), live.disjoint address);
      filled = all_from_has (λ (file : ℕ × Range). 0 < file.1.len) ranges
          (λ file h. all_has (λ (file : ℕ × Range). 0 < file.1.len) file files live.filled (there file h));
      given = all_from_has (λ (file : ℕ × Range). file.1.start + file.1.len ≤ next) ranges
          (λ file h. all_has (λ (file : ℕ × Range). file.1.start + file.1.len ≤ next) file files live.given (there file h));
    }

pub moved-from_files : (ranges files : Ranges) → IsFiles ranges files → IsPermutation ranges files
moved-from_files ranges files s = IsPermutation-from_sums same_file alike_file exact_file ranges files (λ f. sym (s.same f))
