use Rattle.std.proofs.Common.{◌≡◌, ◌++◌, ◌∙◌, ◌+◌, ◌≤◌, List, drop, get_or, filter, nat_le, sym, ap, arith, append-nil, append_assoc}
use Rattle.std.proofs.lemmas.List.{at_drop_all, drop_more}
use Rattle.std.proofs.lemmas.List.Elements.{recursion_from_All}
use Rattle.std.proofs.lemmas.List.Kept.{IsStrictlyIncreasing-filter}
use Rattle.wu_base.specs.declared.addresses.Extent.{Extent}
use Rattle.wu_solve.specs.Spanning.{beyond, places_to}
use Rattle.wu_solve.proofs.NearPlaces.{near_places, walked}
use Rattle.wu_solve.proofs.NearSpans.{beyond_increases}
use Rattle.wu_solve.proofs.Sets.{all_has}
use Rattle.wu_solve.proofs.places.places_near.Goals as goal

abbrev none : Extent
none = record { start = 0; end = 0 }

pub loop-extent-preserved : goal.loop-extent-preserved
loop-extent-preserved c =
    let extents = c.args.extents.now in
    let i = c.loop-extent.extent-index in
    let rest = c.loop-extent.rest.now in
    let old = c.loop-extent.found.items in
    let inv = c.loop-extent.invariant in
    let x = get_or extents i none in
    let from = filter (λ a. nat_le x.start a) rest in
    let later = near_places (drop (i + 1) extents) (beyond x.end from) in
    let split = ap (λ (xs : List Extent). near_places xs rest) (drop_more extents i none c.loop-extent-test.true) in
    rw (c.in_ok-rest.ensures.rest, c.in_ok-rest.ensures.put, c.addresses_from-from.ensures) (record {
      up = beyond_increases x.end from (IsStrictlyIncreasing-filter (λ a. nat_le x.start a) rest inv.up);
      same = append_assoc old (places_to x.end from) later ∙ ap (λ (xs : List Extent). old ++ xs) (sym split) ∙ inv.same;
    })

pub returns : goal.returns
returns c =
    let extents = c.args.extents.now in
    let addresses = c.args.addresses.now in
    let found = c.loop-extent.found.items in
    let whole : found ≡ near_places extents addresses =
    sym (append-nil found)
    ∙ ap (λ (xs : List Extent). found ++ near_places xs c.loop-extent.rest.now)
    (sym (at_drop_all (λ (left : List Extent). left) extents c.loop-extent.extent-index (omega arith))) ∙ c.loop-extent.invariant.same in
    rw whole (walked addresses extents c.requires.addresses c.requires.extents
    (λ x has. all_has (λ (e : Extent). e.start ≤ e.end) extents x
    (recursion_from_All (λ (e : Extent). e.start ≤ e.end) extents c.requires.ordered) has))
