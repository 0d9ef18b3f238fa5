use Rattle.std.proofs.Common.{◌≡◌, ℕ, ◌+◌, ◌<◌, ◌∙◌, true, List, [], ◌∷◌, ◌++◌, drop, get_or, length, length-append, take, ap, sym, subst, arith, rules}
use Rattle.std.specs.Prelude.{eqb, filter, not}
use Rattle.std.specs.List.{IsDistinct}
use Rattle.std.proofs.lemmas.List.{length-map}
use Rattle.wu_base.specs.declared.addresses.TermList.{TermList}
use Rattle.wu_check.specs.Numbering.{has}
use Rattle.wu_check.specs.Numbered.{addresses_in, has_place, with_list}
use Rattle.wu_check.proofs.NumberedLists.{addresses-none, cut_at_place, numbers-list, shared, terms-list}
use Rattle.wu_check.proofs.numbering.Numbering.add.Goals as goal

pub loop-address-init : goal.loop-address-init
loop-address-init c = record {
  places = record { placed = c.requires.placed; long = c.requires.long };
  numbered = λ ranges lists are. record {
    places = record { placed = are.places.placed; long = are.places.long };
    ranges_are = are.ranges_are;
    terms = c.in_ok-push.ensures.items ∙ ap (λ ts. ts ++ c.args.term ∷ []) are.terms ∙ sym (terms-list lists c.args.term []);
    numbers = numbers-list ranges lists c.args.term c.args.self.now.numbers.items are.numbers;
    others = are.others ∙ ap (filter (λ address. not (has_place ranges address))) (sym (addresses-none lists c.args.term));
    distinct = subst (λ xs. IsDistinct eqb (filter (has_place ranges) xs)) (sym (addresses-none lists c.args.term)) are.distinct;
  };
}

pub returns-then-not-branch : goal.returns-then-not-branch
returns-then-not-branch c = λ ranges lists are distinct.
    let all : List ℕ = c.args.addresses.now in
    let i : ℕ = c.loop-address.address-index in
    let term : List ℕ = c.args.term in
    let within : i < length all = search rules in
    let numbered = c.loop-address.invariant.numbered ranges lists are in
    let own : c.in_ok-number.number ≡ length c.push.new.self.items = search rules in
    let number : c.in_ok-number.number ≡ length lists + 1 =
    omega (
      arith,
      own,
      ap length c.in_ok-push.ensures.items,
      length-append c.args.self.now.terms.items (term ∷ []),
      ap length are.terms,
      length-map lists (λ (list : TermList). list.term),
    ) in
    let put = c.in_ok-put.ensures.put ranges lists term (take i all) number numbered in
    let here : has (addresses_in (with_list lists term (take i all))) (get_or all i 0) ≡ true = rw c.if-not-branch.true at put in
    shared lists term (take i all) (drop (i + 1) all) (get_or all i 0) here
    (subst (λ xs. IsDistinct eqb (addresses_in (with_list lists term xs))) (cut_at_place all i within) distinct)
