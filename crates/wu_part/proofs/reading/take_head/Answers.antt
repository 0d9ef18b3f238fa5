use Rattle.std.proofs.Common.{◌≡◌, ◌-◌, [], ◌∷◌, length, refl, arith}
use Rattle.wu_part.proofs.EntryReadingLemmas.{entries_length}
use Rattle.wu_part.proofs.ReadingLemmas.{after_first, after_three, numbers_length}
use Rattle.wu_part.proofs.reading.take_head.Goals as goal

pub returns-in_default-clause-none : goal.returns-in_default-clause-none
returns-in_default-clause-none c d s =
    let n = s.numbers in
    c.in_default.ensures.none d.generation d.low (d.high - d.low) n.2.2.0 (omega (arith, s.holds.generation))
    (omega (arith, s.holds.span, s.holds.below)) (omega (arith, s.holds.below)) (n.0, n.1, (n.2.0, n.2.1, (n.2.2.0, n.2.2.1, refl)))

pub returns-in_default-next_number-clause-none : goal.returns-in_default-next_number-clause-none
returns-in_default-next_number-clause-none c d s =
    let h = after_three _ _ s.entries _ _ _ d.generation d.low (d.high - d.low)
    (d.stored ∷ length d.terms ∷ []) c.in-Some.ensures.found s.numbers in
    c.in_default-next_number.ensures.none d.stored h.3.0 (omega (arith, s.holds.room, s.holds.below)) h.3.1

pub returns-in_default-next_number-2-clause-none : goal.returns-in_default-next_number-2-clause-none
returns-in_default-next_number-2-clause-none c d s =
    let h = after_three _ _ s.entries _ _ _ d.generation d.low (d.high - d.low)
    (d.stored ∷ length d.terms ∷ []) c.in-Some.ensures.found s.numbers in
    let k = after_first _ _ d.stored _ s.entries (length d.terms ∷ []) c.in-Some-next_number.ensures.found h.3 in
    let longer = numbers_length c.args.bytes.now s.entries (d.generation ∷ d.low ∷ (d.high - d.low) ∷ d.stored ∷ length d.terms ∷ [])
    s.numbers in
    let all = entries_length d.low d.terms s.entries s.terms in
    c.in_default-next_number-2.ensures.none (length d.terms) k.1.0 (omega arith) k.1.1

pub returns-then-not-are_numbers-clause-none : goal.returns-then-not-are_numbers-clause-none
returns-then-not-are_numbers-clause-none c d s =
    let h = after_three _ _ s.entries _ _ _ d.generation d.low (d.high - d.low)
    (d.stored ∷ length d.terms ∷ []) c.in-Some.ensures.found s.numbers in
    let k = after_first _ _ d.stored _ s.entries (length d.terms ∷ []) c.in-Some-next_number.ensures.found h.3 in
    let generation : d.generation ≡ c.in-Some.generation = h.0 in
    let low : d.low ≡ c.in-Some.low = h.1 in
    let span : d.high - d.low ≡ c.in-Some.span = h.2 in
    let stored : d.stored ≡ c.in-Some-next_number.stored = k.0 in
    c.if-not-are_numbers.ensures (omega (arith, s.holds.generation)) (omega (arith, s.holds.span, s.holds.below))
    (omega (arith, s.holds.some))
    (omega (arith, s.holds.room))
