use Rattle.std.proofs.Common.{List, length, ◌/◌, refl, ap, arith}
use Rattle.wu_space.specs.declared.slots.Slot.{Slot}
use Rattle.wu_space.proofs.ChunkSums.{fronts}
use Rattle.wu_space.proofs.slots.Slots.length_before.Goals as goal

pub length-requires : goal.length-requires
length-requires c =
    let f = fronts _ _ c.self.invariant.each c.args.count (c.args.count / 512)
    (omega (arith, ap (λ (l : List Slot). length l) c.self.view_is)) refl in
    rw c.deref-2.ensures.value (omega (arith, f.whole, f.small))

pub overflow_add-result : goal.overflow_add-result
overflow_add-result c =
    let f = fronts _ _ c.self.invariant.each c.args.count (c.args.count / 512)
    (omega (arith, ap (λ (l : List Slot). length l) c.self.view_is)) refl in
    rw (c.total.ensures, c.length.ensures, c.deref.ensures.value, c.deref-2.ensures.value) (omega (arith, f.whole, f.small))

pub returns : goal.returns
returns c =
    let f = fronts _ _ c.self.invariant.each c.args.count (c.args.count / 512)
    (omega (arith, ap (λ (l : List Slot). length l) c.self.view_is)) refl in
    rw (c.total.ensures, c.length.ensures, c.deref.ensures.value, c.deref-2.ensures.value, ← c.self.view_is) f.whole
