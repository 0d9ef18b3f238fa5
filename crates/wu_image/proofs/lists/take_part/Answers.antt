use Rattle.std.proofs.Common.{◌-◌, [], ◌∷◌, refl, arith}
use Rattle.wu_image.proofs.RecordedNumbers.{numbers_of_part, part_spelled}
use Rattle.wu_image.proofs.lists.take_part.Goals as goal

pub returns-in_default-clause-none : goal.returns-in_default-clause-none
returns-in_default-clause-none c part rest fits s =
    c.in_default.ensures.none
    (part.blob ∷ part.size ∷ part.generation ∷ part.low ∷ (part.high - part.low) ∷ part.stored ∷ []) rest refl s

pub returns-then-generation-from-clause-none : goal.returns-then-generation-from-clause-none
returns-then-generation-from-clause-none c part rest fits s =
    let n = numbers_of_part _ _ rest _ part c.in-Some.ensures.length c.in-Some.ensures.found s in
    let small = fits.generation in
    let generation = n.0 in
    omega arith

pub returns-then-not-has_end-clause-none : goal.returns-then-not-has_end-clause-none
returns-then-not-has_end-clause-none c part rest fits s =
    let n = numbers_of_part _ _ rest _ part c.in-Some.ensures.length c.in-Some.ensures.found s in
    let span = fits.span in
    let high = fits.high in
    let low = n.1 in
    let above = n.2 in
    omega (arith, c.if-not-has_end.ensures)

pub returns-clause-found : goal.returns-clause-found
returns-clause-found c = (
  record { generation = omega arith; span = omega arith; high = omega (arith, c.if-not-has_end.ensures) },
  part_spelled _ _ _ _ c.in-Some.ensures.length c.in-Some.ensures.found refl refl refl refl refl refl,
)
