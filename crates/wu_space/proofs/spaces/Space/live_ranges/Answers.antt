use Rattle.std.proofs.Common.{List, ap, subst, sym, ◌∙◌}
use Rattle.std.specs.Prelude.{map, IsPermutation}
use Rattle.std.proofs.lemmas.Result.{IfOk-weaker}
use Rattle.wu_base.specs.declared.addresses.Range.{Range}
use Rattle.wu_space.specs.declared.slots.Slot.{Slot}
use Rattle.wu_space.specs.Addresses.{live_ranges}
use Rattle.wu_base.specs.Ranges.{AreApart}
use Rattle.wu_space.specs.Slots.{IsSound, meets, range_of_slot}
use Rattle.wu_space.proofs.Order.{starts-rise, order-filter}
use Rattle.wu_space.proofs.Live.{ranges-same}
use Rattle.wu_space.proofs.Window.{apart-from_order}
use Rattle.wu_space.proofs.spaces.Space.live_ranges.Goals as goal

pub around-requires : goal.around-requires
around-requires c = rw c.as_slice.ensures.slots (starts-rise _ _ _ c.self.invariant.by_address)

pub returns-clause-ranges : goal.returns-clause-ranges
returns-clause-ranges c =
    let s : IsSound c.as_slice.result.now c.self.inside.ranges.entries c.self.inside.next c.self.inside.total =
    rw c.as_slice.ensures.slots c.self.invariant in
    let e = c.around.ensures.all _ _ s.by_address in
    let k = ap (λ (l : List Slot). map range_of_slot l) e in
    let p = ranges-same c.as_slice.result.now c.self.inside.ranges.entries s.same c.args.low c.args.high in
    rw (← c.self.view_is)
    (IfOk-weaker c.met.result _ _
    (λ found is. subst (λ (l : List Range). IsPermutation (live_ranges c.self.inside.ranges.entries c.args.low c.args.high) l) (sym (is ∙ k)) p)
    c.met.ensures)

pub returns-clause-ascending : goal.returns-clause-ascending
returns-clause-ascending c =
    let s : IsSound c.as_slice.result.now c.self.inside.ranges.entries c.self.inside.next c.self.inside.total =
    rw c.as_slice.ensures.slots c.self.invariant in
    let e = c.around.ensures.all _ _ s.by_address in
    let k = ap (λ (l : List Slot). map range_of_slot l) e in
    let o = order-filter (meets c.args.low c.args.high) _ _ _ s.by_address in
    IfOk-weaker c.met.result _ _ (λ found is. subst (λ (l : List Range). AreApart l) (sym (is ∙ k)) (apart-from_order _ _ _ o)) c.met.ensures
