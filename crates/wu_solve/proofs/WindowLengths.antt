-- An extent lies in a window or holds one by its length alone.
use Rattle.std.proofs.Common.{◌≡◌, ℕ, ◌+◌, ◌-◌, ◌<◌, ◌≤◌, Bool, true, false, ◌&&◌, not, min, List, nat_lt, nat_le, sym, ap, ◌∙◌, arith}
use Rattle.std.proofs.Common.{eqb-true, eq-eqb, leb-true, le-leb, ltb-true, lt-ltb}
use Rattle.std.specs.Prelude.{filter}
use Rattle.std.specs.Cmp.{both_ways}
use Rattle.std.proofs.lemmas.Bool.{and_parts, and_from}
use Rattle.wu_base.specs.declared.addresses.Extent.{Extent}
use Rattle.wu_gcl.specs.declared.expressions.Op.TheVariants.{Containing, ContainedIn, NotContaining, NotContainedIn}
use Rattle.wu_gcl.specs.Regions.{Window}
use Rattle.wu_gcl.specs.Extents.{holds, some_extent, combined, containing, contained_in, not_containing, not_contained_in, is_in}
use Rattle.wu_solve.specs.Listing.{IsExtentIn, Lists}
use Rattle.wu_solve.specs.Merging.{is_wanted}
use Rattle.wu_solve.specs.Windows.{holds_window}
use Rattle.wu_solve.proofs.Sets.{holds_means, holds_from}
use Rattle.wu_solve.proofs.Order.{some_found, some_from}
use Rattle.wu_solve.proofs.Operators.{filter_lists}

-- in a text of n places a window of that size holds the extent
abbrev pub is_short : ℕ → ℕ → Extent → Bool
is_short size n x = nat_lt (x.end - x.start) size && nat_le size n

-- the window that holds an extent: from its start on, or as late as there is room
abbrev window_around : ℕ → ℕ → Extent → Extent
window_around size n x = record { start = min x.start (n - size); end = min x.start (n - size) + (size - 1) }

-- the window that an extent holds: from its start on
abbrev window_from : ℕ → Extent → Extent
window_from size x = record { start = x.start; end = x.start + (size - 1) }

module _ (n size : ℕ) (stands : List ℕ → ℕ → Bool) (x : Extent) (is : IsExtentIn n x) where
  window_holds : some_extent n (λ y. holds y x && is_in (Window size) stands n y) ≡ true → is_short size n x ≡ true
  unfolding is_in
  window_holds passes =
      let f = some_found n (λ y. holds y x && is_in (Window size) stands n y) passes in
      let y = f.0 in
      let b = and_parts (holds y x) (is_in (Window size) stands n y) f.2 in
      let h = holds_means y x b.0 in
      let ends : y.start + size ≡ y.end + 1 = eqb-true _ _ b.1 in
      let inside : y.end < n = f.1.within in
      let first : y.start ≤ x.start = h.start in
      let last : x.end ≤ y.end = h.last in
      and_from (nat_lt (x.end - x.start) size) _ (lt-ltb (x.end - x.start) size (omega (arith, is.ordered))) (le-leb size n (omega arith))

  holds_as_window : is_short size n x ≡ true → some_extent n (λ y. holds y x && is_in (Window size) stands n y) ≡ true
  unfolding is_in
  holds_as_window passes =
      let b = and_parts (nat_lt (x.end - x.start) size) (nat_le size n) passes in
      let room : size ≤ n = leb-true size n b.1 in
      let short : x.end - x.start < size = ltb-true (x.end - x.start) size b.0 in
      let ordered : x.start ≤ x.end = is.ordered in
      let within : x.end < n = is.within in
      let y = window_around size n x in
      some_from n (λ y. holds y x && is_in (Window size) stands n y) y (record { ordered = omega arith; within = omega arith })
      (and_from (holds y x) _ (holds_from y x (record { start = omega arith; last = omega arith })) (eq-eqb _ _ (omega arith)))

  held_window : some_extent n (λ y. holds x y && is_in (Window size) stands n y) ≡ true → holds_window size x ≡ true
  unfolding is_in
  held_window passes =
      let f = some_found n (λ y. holds x y && is_in (Window size) stands n y) passes in
      let y = f.0 in
      let b = and_parts (holds x y) (is_in (Window size) stands n y) f.2 in
      let h = holds_means x y b.0 in
      let ends : y.start + size ≡ y.end + 1 = eqb-true _ _ b.1 in
      let ordered : y.start ≤ y.end = f.1.ordered in
      let first : x.start ≤ y.start = h.start in
      let last : y.end ≤ x.end = h.last in
      and_from (nat_lt 0 size) _ (lt-ltb 0 size (omega arith)) (le-leb (size - 1) (x.end - x.start) (omega arith))

  window_held : holds_window size x ≡ true → some_extent n (λ y. holds x y && is_in (Window size) stands n y) ≡ true
  unfolding is_in
  window_held passes =
      let b = and_parts (nat_lt 0 size) (nat_le (size - 1) (x.end - x.start)) passes in
      let some : 0 < size = ltb-true 0 size b.0 in
      let long : size - 1 ≤ x.end - x.start = leb-true (size - 1) (x.end - x.start) b.1 in
      let ordered : x.start ≤ x.end = is.ordered in
      let within : x.end < n = is.within in
      let y = window_from size x in
      some_from n (λ y. holds x y && is_in (Window size) stands n y) y (record { ordered = omega arith; within = omega arith })
      (and_from (holds x y) _ (holds_from x y (record { start = omega arith; last = omega arith })) (eq-eqb _ _ (omega arith)))

  -- some window holds it
  pub by_length_within : some_extent n (λ y. holds y x && is_in (Window size) stands n y) ≡ is_short size n x
  by_length_within = both_ways _ _ window_holds holds_as_window

  -- it holds some window
  pub by_length_around : some_extent n (λ y. holds x y && is_in (Window size) stands n y) ≡ holds_window size x
  by_length_around = both_ways _ _ held_window window_held

-- two tests that agree on every extent of the text list the same
alike_lists : (n : ℕ) (set other : Extent → Bool) (xs : List Extent) → ((x : Extent) → IsExtentIn n x → set x ≡ other x) → Lists n set xs
    → Lists n other xs
alike_lists n set other xs same lists = record {
  ascending = lists.ascending;
  sound = λ x has. let s = lists.sound x has in (s.0, sym (same x s.0) ∙ s.1);
  complete = λ x is passes. lists.complete x is (same x is ∙ passes);
}

module _ (n size : ℕ) (stands : List ℕ → ℕ → Bool) (left : Extent → Bool) (xs : List Extent) (lists : Lists n left xs) where
  pub contained_in_window : Lists n (combined ContainedIn n left (is_in (Window size) stands n))
      (filter (λ x. is_wanted true (is_short size n x)) xs)
  unfolding combined contained_in
  contained_in_window = alike_lists n _ _ _
      (λ x is. ap (λ (b : Bool). left x && b) (sym (by_length_within n size stands x is)))
      (filter_lists n left (λ x. is_short size n x) xs lists)

  pub not_contained_in_window : Lists n (combined NotContainedIn n left (is_in (Window size) stands n))
      (filter (λ x. is_wanted false (is_short size n x)) xs)
  unfolding combined not_contained_in
  not_contained_in_window = alike_lists n _ _ _
      (λ x is. ap (λ (b : Bool). left x && not b) (sym (by_length_within n size stands x is)))
      (filter_lists n left (λ x. not (is_short size n x)) xs lists)

  pub containing_window : Lists n (combined Containing n left (is_in (Window size) stands n))
      (filter (λ x. is_wanted true (holds_window size x)) xs)
  unfolding combined containing
  containing_window = alike_lists n _ _ _
      (λ x is. ap (λ (b : Bool). left x && b) (sym (by_length_around n size stands x is)))
      (filter_lists n left (λ x. holds_window size x) xs lists)

  pub not_containing_window : Lists n (combined NotContaining n left (is_in (Window size) stands n))
      (filter (λ x. is_wanted false (holds_window size x)) xs)
  unfolding combined not_containing
  not_containing_window = alike_lists n _ _ _
      (λ x is. ap (λ (b : Bool). left x && not b) (sym (by_length_around n size stands x is)))
      (filter_lists n left (λ x. not (holds_window size x)) xs lists)
