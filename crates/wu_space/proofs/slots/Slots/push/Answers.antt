use Rattle.std.proofs.Common.{ℕ, List, ap, arith}
use Rattle.std.proofs.lemmas.List.{get_or_read, length_push, length-set}
use Rattle.wu_space.specs.declared.slots.Slot.{Slot}
use Rattle.wu_space.specs.Slots.{AreSums, length_of}
use Rattle.wu_space.proofs.ChunkSums.{AreSums-push}
use Rattle.wu_space.proofs.slots.Slots.push.Goals as goal

pub invariant_of-self-in-Ok : goal.invariant_of-self-in-Ok
invariant_of-self-in-Ok c =
    let s : AreSums c.self.inside.slots.items c.make_room.new.sums.items = c.make_room.ensures.sums _ c.self.invariant.each in
    let before = c.self.invariant.count in
    let room = c.in-Ok.ensures.ok (omega (arith, before, c.len-chunk.ensures)) in
    rw c.in_ok-push.ensures.items
    (record {
      each = AreSums-push _ _ s c.args.slot _ _ (omega (arith, c.len-chunk.ensures)) (omega (arith, room))
          (omega (arith, c.requires, ap (λ (l : List Slot). length_of l) c.self.view_is))
          (omega (arith, get_or_read c.make_room.new.sums.items _ _ (omega (arith, room)) c.index_mut.ensures.value 0));
      count = omega (
        arith,
        room,
        before,
        c.len-chunk.ensures,
        length_push c.self.inside.slots.items c.args.slot,
        length-set {A = ℕ},
      );
    })
