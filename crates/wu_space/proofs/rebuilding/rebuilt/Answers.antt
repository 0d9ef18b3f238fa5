use Rattle.std.proofs.Common.{◌≡◌, List, ap, subst, refl, ◌∙◌, arith}
use Rattle.wu_space.specs.declared.slots.Slot.{Slot}
use Rattle.wu_space.specs.Slots.{AreInOrder, length_of}
use Rattle.wu_space.specs.Rebuilding.{IsFiles}
use Rattle.wu_space.proofs.Order.{total-le}
use Rattle.wu_space.proofs.Live.{live-from_sound}
use Rattle.wu_space.proofs.Rebuilt.{AreFilled, order-from_live, sound-rebuilt, live-from_files, moved-from_files}
use Rattle.wu_space.proofs.rebuilding.rebuilt.Goals as goal

pub returns-then-not-are_in_order-clause-none : goal.returns-then-not-are_in_order-clause-none
returns-then-not-are_in_order-clause-none c = λ live.
    let r = order-from_live c.args.ranges.now c.in_ok-slots.slots.items c.in_ok-slots.ensures.slots c.args.next c.in_ok-slots.ensures.order live in
    c.if-not-are_in_order.ensures (rw c.as_slice.ensures.value r.0) (rw c.as_slice.ensures.value r.1)

pub length-total-requires : goal.length-total-requires
length-total-requires c =
    omega (
      arith,
      total-le _ _ _ c.if-not-are_in_order.ensures.1,
      ap (λ (l : List Slot). length_of l) c.as_slice.ensures.value,
      ap (λ (l : List Slot). length_of l) c.as_slice-2.ensures.value,
    )

pub invariant_of-result : goal.invariant_of-result
invariant_of-result c =
    let files : IsFiles c.args.ranges.now c.in-Some.by_number.entries = rw c.in-Some.is at c.in_ok-by_number.ensures.entries in
    let filled : AreFilled c.in_ok-slots.slots.items = subst AreFilled c.as_slice.ensures.value c.if-not-are_in_order.ensures.0 in
    let order : AreInOrder 0 c.in_ok-slots.slots.items c.args.next =
    subst (λ (l : List Slot). AreInOrder 0 l c.args.next) c.as_slice.ensures.value c.if-not-are_in_order.ensures.1 in
    let same : c.in_ok-with.field-0 ≡ c.in_ok-slots.slots.items = c.in_ok-with.ensures in
    let total : c.length-total.result ≡ length_of c.in_ok-slots.slots.items =
    c.length-total.ensures ∙ ap (λ (l : List Slot). length_of l) c.as_slice-2.ensures.value in
    rw same (sound-rebuilt c.args.ranges.now c.in_ok-slots.slots.items c.in_ok-slots.ensures.slots _ _ _ files filled order total)

pub returns-clause-live : goal.returns-clause-live
returns-clause-live c =
    let files : IsFiles c.args.ranges.now c.in-Some.by_number.entries = rw c.in-Some.is at c.in_ok-by_number.ensures.entries in
    let filled : AreFilled c.in_ok-slots.slots.items = subst AreFilled c.as_slice.ensures.value c.if-not-are_in_order.ensures.0 in
    let order : AreInOrder 0 c.in_ok-slots.slots.items c.args.next =
    subst (λ (l : List Slot). AreInOrder 0 l c.args.next) c.as_slice.ensures.value c.if-not-are_in_order.ensures.1 in
    live-from_files _ _ _ files
    (live-from_sound _ _ _ _ (sound-rebuilt c.args.ranges.now c.in_ok-slots.slots.items c.in_ok-slots.ensures.slots _ _ _ files filled order refl))

pub returns-clause-ranges : goal.returns-clause-ranges
returns-clause-ranges c =
    let files : IsFiles c.args.ranges.now c.in-Some.by_number.entries = rw c.in-Some.is at c.in_ok-by_number.ensures.entries in
    moved-from_files _ _ files
