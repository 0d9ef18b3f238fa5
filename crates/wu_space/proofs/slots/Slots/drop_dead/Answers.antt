use Rattle.std.proofs.Common.{◌≡◌, List, ap, arith, rules, ◌∙◌}
use Rattle.std.specs.Prelude.{filter}
use Rattle.std.proofs.lemmas.Fn.{filter_same}
use Rattle.wu_space.specs.declared.slots.Slot.{Slot}
use Rattle.wu_space.specs.Slots.{length_of, is_live}
use Rattle.wu_space.proofs.Kept.{length-filter_live}
use Rattle.wu_space.proofs.slots.Slots.drop_dead.Goals as goal

pub sum_up-requires-clause-small : goal.sum_up-requires-clause-small
sum_up-requires-clause-small c =
    let e : c.retain.new.self.items ≡ filter is_live c.self.inside.slots.items =
    filter_same _ is_live _ (λ x b f k. search rules) _ _ c.retain.ensures.filtered in
    omega (
      arith,
      ap (λ (l : List Slot). length_of l) c.as_slice.ensures.value,
      ap (λ (l : List Slot). length_of l) e,
      length-filter_live c.self.inside.slots.items,
      c.self.invariant.each.small,
    )

pub returns : goal.returns
returns c =
    let e : c.retain.new.self.items ≡ filter is_live c.self.inside.slots.items =
    filter_same _ is_live _ (λ x b f k. search rules) _ _ c.retain.ensures.filtered in
    e ∙ ap (λ (l : List Slot). filter is_live l) c.self.view_is
