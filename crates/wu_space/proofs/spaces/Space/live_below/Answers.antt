use Rattle.std.proofs.Common.{◌≡◌, ◌+◌, List, take, ap, arith}
use Rattle.wu_space.specs.declared.slots.Slot.{Slot}
use Rattle.wu_space.specs.Slots.{IsSound, length_of}
use Rattle.wu_space.proofs.Order.{starts-rise}
use Rattle.wu_space.proofs.Live.{below-fits, count_below-start, count_below-none, count_below-some}
use Rattle.wu_space.proofs.spaces.Space.live_below.Goals as goal

pub returns-in_default : goal.returns-in_default
returns-in_default c =
    rw (← c.self.view_is) (count_below-start _ _ _ _ c.self.invariant _ (omega (arith, c.in_default.ensures)))

pub last_up_to-requires : goal.last_up_to-requires
last_up_to-requires c = rw c.as_slice-slots.ensures.slots (starts-rise _ _ _ c.self.invariant.by_address)

pub overflow_add-result : goal.overflow_add-result
overflow_add-result c =
    omega (
      arith,
      below-fits c.as_slice-slots.result.now c.args.address c.in-Some-last_up_to.last (record { start = 0; len = 0; ino = 0 })
          c.in-Some-last_up_to.ensures.within,
      c.length_before.ensures,
      c.below.ensures,
      c.as_slice-slots.ensures.small,
      ap (λ (l : List Slot). length_of l) c.as_slice-slots.ensures.slots,
      ap (λ (l : List Slot). length_of (take c.in-Some-last_up_to.last l)) c.as_slice-slots.ensures.slots,
    )

pub returns-in-Some-last_up_to : goal.returns-in-Some-last_up_to
returns-in-Some-last_up_to c =
    let s : IsSound c.as_slice-slots.result.now c.self.inside.ranges.entries c.self.inside.next c.self.inside.total =
    rw c.as_slice-slots.ensures.slots c.self.invariant in
    let e : c.args.address ≡ c.in-Some.before + 1 = omega (arith, c.in-Some.ensures) in
    rw (← c.self.view_is, c.length_before.ensures, c.below.ensures, ← c.as_slice-slots.ensures.slots)
    (count_below-some _ _ _ _ s _ _ _ _ e c.in-Some-last_up_to.ensures.some)

pub returns-in-None : goal.returns-in-None
returns-in-None c =
    let s : IsSound c.as_slice-slots.result.now c.self.inside.ranges.entries c.self.inside.next c.self.inside.total =
    rw c.as_slice-slots.ensures.slots c.self.invariant in
    let e : c.args.address ≡ c.in-Some.before + 1 = omega (arith, c.in-Some.ensures) in
    rw (← c.self.view_is) (count_below-none _ _ _ _ s _ _ e c.in-None.ensures.none)
