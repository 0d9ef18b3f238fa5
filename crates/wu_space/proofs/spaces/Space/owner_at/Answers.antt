use Rattle.std.proofs.Common.{sym, ◌∙◌}
use Rattle.wu_space.specs.Slots.{IsSound}
use Rattle.wu_space.proofs.Order.{starts-rise}
use Rattle.wu_space.proofs.Live.{owner-none, owner-some, parts-start}
use Rattle.wu_space.proofs.spaces.Space.owner_at.Goals as goal

pub last_up_to-requires : goal.last_up_to-requires
last_up_to-requires c = rw c.as_slice-slots.ensures.slots (starts-rise _ _ _ c.self.invariant.by_address)

pub owner-requires : goal.owner-requires
owner-requires c = parts-start _ _ _ _ c.in-Some.ensures.some

pub returns-in-Some : goal.returns-in-Some
returns-in-Some c =
    let s : IsSound c.as_slice-slots.result.now c.self.inside.ranges.entries c.self.inside.next c.self.inside.total =
    rw c.as_slice-slots.ensures.slots c.self.invariant in
    rw (← c.self.view_is) (c.owner.ensures ∙ owner-some _ _ s.same _ s.by_address _ _ _ c.in-Some.ensures.some c.in-Some.ensures.within)

pub returns-in-None : goal.returns-in-None
returns-in-None c =
    let s : IsSound c.as_slice-slots.result.now c.self.inside.ranges.entries c.self.inside.next c.self.inside.total =
    rw c.as_slice-slots.ensures.slots c.self.invariant in
    rw (← c.self.view_is) (sym (owner-none _ _ s.same _ s.by_address _ c.in-None.ensures.none))
