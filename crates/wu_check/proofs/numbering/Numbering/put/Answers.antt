use Rattle.std.proofs.Common.{◌≡◌, ℕ, ◌<◌, ◌∙◌, List, [], ◌∷◌, ◌++◌, get_or, length, set, suc, ap, sym, subst, arith}
use Rattle.std.specs.Prelude.{Option, Some, None}
use Rattle.std.proofs.lemmas.List.{length-set}
use Rattle.wu_check.specs.declared.places.PlacedRange.{PlacedRange}
use Rattle.wu_check.specs.Numbered.{with_list}
use Rattle.wu_check.specs.Numbering.{AreNumbers}
use Rattle.wu_check.specs.Placed.{ranges_of}
use Rattle.wu_check.specs.Places.{place_of, total_of}
use Rattle.wu_check.proofs.NumberedLists.{distinct_inside, distinct_outside, get_or_any, numbers_inside, numbers_outside, new_there}
use Rattle.wu_check.proofs.NumberedLists.{old_there, others_inside, others_outside, terms-more}
use Rattle.wu_check.proofs.Placing.{place_within}
use Rattle.wu_check.proofs.numbering.Numbering.put.Goals as goal

-- what the search answered is the place
answered : (placed own : List PlacedRange) (x : ℕ) (o answer : Option ℕ) → own ≡ placed → o ≡ place_of (ranges_of own) x → o ≡ answer
    → place_of (ranges_of placed) x ≡ answer
answered placed own x o answer e is a = ap (λ rs. place_of (ranges_of rs) x) (sym e) ∙ sym is ∙ a

pub index-requires : goal.index-requires
index-requires c =
    let there = answered c.args.self.now.ranges.items c.deref.result.now c.args.address c.place_of.result (Some c.in-Some.place)
    c.deref.ensures.value c.place_of.ensures c.in-Some.is in
    omega (arith, place_within (ranges_of c.args.self.now.ranges.items) c.args.address c.in-Some.place there, c.requires.long)

pub index_mut-requires : goal.index_mut-requires
index_mut-requires c =
    let there = answered c.args.self.now.ranges.items c.deref.result.now c.args.address c.place_of.result (Some c.in-Some.place)
    c.deref.ensures.value c.place_of.ensures c.in-Some.is in
    omega (arith, place_within (ranges_of c.args.self.now.ranges.items) c.args.address c.in-Some.place there, c.requires.long)

pub returns-in_ok-push-in-None-clause-put : goal.returns-in_ok-push-in-None-clause-put
returns-in_ok-push-in-None-clause-put c = λ ranges lists term addresses is are.
    let x : ℕ = c.args.address in
    let none : place_of ranges x ≡ None =
    ap (λ rs. place_of rs x) (sym are.ranges_are)
    ∙ answered c.args.self.now.ranges.items c.deref.result.now x c.place_of.result None c.deref.ensures.value c.place_of.ensures c.in-None.is in
    record {
      places = record { placed = are.places.placed; long = are.places.long };
      ranges_are = are.ranges_are;
      terms = are.terms ∙ terms-more lists term addresses (addresses ++ x ∷ []);
      numbers = numbers_outside ranges lists term addresses c.args.self.now.numbers.items x are.numbers none;
      others =
          c.in_ok-push-in-None.ensures.items
          ∙ ap (λ ns. ns ++ x ∷ []) are.others
          ∙ sym (others_outside ranges lists term addresses x none);
      distinct = distinct_outside ranges lists term addresses x none are.distinct;
    }

pub returns-in-Some-clause-put : goal.returns-in-Some-clause-put
returns-in-Some-clause-put c = λ ranges lists term addresses is are.
    let x : ℕ = c.args.address in
    let place : ℕ = c.in-Some.place in
    let numbers : List ℕ = c.args.self.now.numbers.items in
    let has : place_of ranges x ≡ Some place =
    ap (λ rs. place_of rs x) (sym are.ranges_are)
    ∙ answered c.args.self.now.ranges.items c.deref.result.now x c.place_of.result (Some place) c.deref.ensures.value c.place_of.ensures c.in-Some.is in
    let within : place < length numbers = omega (arith, place_within ranges x place has, are.places.long, ap total_of are.ranges_are) in
    let free : get_or numbers place 0 ≡ 0 = sym (c.index.ensures ∙ get_or_any numbers place _ 0 within) ∙ c.if-index-eq0.true in
    let own : suc (length lists) ≡ c.args.number = omega (arith, is) in
    let new : AreNumbers ranges (with_list lists term (addresses ++ x ∷ [])) (set numbers place c.args.number) =
    subst (λ n. AreNumbers ranges (with_list lists term (addresses ++ x ∷ [])) (set numbers place n)) own
    (numbers_inside ranges lists term addresses numbers x are.numbers place has free within) in
    record {
      places = record { placed = are.places.placed; long = length-set numbers place c.args.number ∙ are.places.long };
      ranges_are = are.ranges_are;
      terms = are.terms ∙ terms-more lists term addresses (addresses ++ x ∷ []);
      numbers = new;
      others = are.others ∙ sym (others_inside ranges lists term addresses x place has);
      distinct =
          distinct_inside ranges lists term addresses x place has
          (new_there ranges lists term addresses numbers x are.numbers place has free) are.distinct;
    }

pub returns-in-Some-2-clause-put : goal.returns-in-Some-2-clause-put
returns-in-Some-2-clause-put c = λ ranges lists term addresses is are.
    let place : ℕ = c.in-Some.place in
    let numbers : List ℕ = c.args.self.now.numbers.items in
    let x : ℕ = c.args.address in
    let has : place_of ranges x ≡ Some place =
    ap (λ rs. place_of rs x) (sym are.ranges_are)
    ∙ answered c.args.self.now.ranges.items c.deref.result.now x c.place_of.result (Some place) c.deref.ensures.value c.place_of.ensures c.in-Some.is in
    let within : place < length numbers = omega (arith, place_within ranges x place has, are.places.long, ap total_of are.ranges_are) in
    let same : c.index.result.now ≡ get_or numbers place 0 = c.index.ensures ∙ get_or_any numbers place _ 0 within in
    let some : 0 < get_or numbers place 0 = omega (arith, same, c.if-index-eq0.false) in
    old_there ranges lists term addresses numbers x are.numbers place has some
