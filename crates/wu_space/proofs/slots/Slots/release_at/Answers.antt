use Rattle.std.proofs.Common.{ℕ, List, length, refl, ap, arith}
use Rattle.std.proofs.lemmas.List.{get_or_read, length-set}
use Rattle.wu_space.specs.declared.slots.Slot.{Slot}
use Rattle.wu_space.proofs.ChunkSums.{chunk-covers, AreSums-release}
use Rattle.wu_space.proofs.slots.Slots.release_at.Goals as goal

pub overflow_sub-index_mut : goal.overflow_sub-index_mut
overflow_sub-index_mut c =
    let w = chunk-covers c.self.inside.slots.items c.self.inside.sums.items c.self.invariant.each c.args.place _ c.index-slot.result.now
    (omega (arith, ap (λ (l : List Slot). length l) c.self.view_is)) refl in
    omega (
      arith,
      w.0,
      w.1,
      ap (λ (x : Slot). x.len) c.index-slot.ensures,
      get_or_read c.self.inside.sums.items _ _ w.0 c.index_mut.ensures.value 0,
    )

pub invariant_of-self : goal.invariant_of-self
invariant_of-self c =
    let w = chunk-covers c.self.inside.slots.items c.self.inside.sums.items c.self.invariant.each c.args.place _ c.index-slot.result.now
    (omega (arith, ap (λ (l : List Slot). length l) c.self.view_is)) refl in
    let a = get_or_read c.self.inside.sums.items _ _ w.0 c.index_mut.ensures.value 0 in
    record {
      each = AreSums-release _ _ c.self.invariant.each c.args.place _ _ _ c.index-slot.result.now
          (omega (arith, ap (λ (l : List Slot). length l) c.self.view_is)) refl refl
          (omega (arith, a, ap (λ (x : Slot). x.len) c.index-slot.ensures));
      count = omega (arith, c.self.invariant.count, length-set {A = Slot}, length-set {A = ℕ});
    }
