use Rattle.std.proofs.Common.{[], ◌∷◌}
use Rattle.wu_part.proofs.ReadingLemmas.{after_first}
use Rattle.wu_part.proofs.entry_reading.three_numbers.Goals as goal

pub returns-in_default-clause-none : goal.returns-in_default-clause-none
returns-in_default-clause-none c x y z rest la lb ld s = c.in_default.ensures.none x s.0 la s.1

pub returns-in_default-next_large-clause-none : goal.returns-in_default-next_large-clause-none
returns-in_default-next_large-clause-none c x y z rest la lb ld s =
    let h = after_first _ _ x _ rest (y ∷ z ∷ []) c.in-Some.ensures.found s in c.in_default-next_large.ensures.none y h.1.0 lb h.1.1

pub returns-in_default-next_number-clause-none : goal.returns-in_default-next_number-clause-none
returns-in_default-next_number-clause-none c x y z rest la lb ld s =
    let h = after_first _ _ x _ rest (y ∷ z ∷ []) c.in-Some.ensures.found s in
    let k = after_first _ _ y _ rest (z ∷ []) c.in-Some-next_large.ensures.found h.1 in
    c.in_default-next_number.ensures.none z k.1.0 ld k.1.1
