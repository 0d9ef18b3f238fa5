use Rattle.std.proofs.Common.{ℕ, ◌+◌, ◌%◌, ◌≤◌, ◌<◌, [], ◌∷◌, drop, get_or, length, List, arith}
use Rattle.std.proofs.lemmas.List.{drop_more, at_drop_all, take_rest}
use Rattle.wu_vbyte.proofs.NumberLemmas.{Reads, reads_first, reads_next, reads_end, reads_nothing, reads_no_end, reads_too_long, end_fits}
use Rattle.wu_vbyte.proofs.NumberLemmas.{group_fits}
use Rattle.wu_vbyte.proofs.numbers.next_groups.Goals as goal

pub loop-at-init : goal.loop-at-init
loop-at-init c = rw c.from-number.ensures
    (first c.args.bytes.now c.requires.some c.requires.continued (omega (arith, c.type_inv.bytes 0)))
  where
    first : (bytes : List ℕ) → 0 < length bytes → 128 ≤ get_or bytes 0 0 → get_or bytes 0 0 < 256
        → Reads bytes (drop 1 bytes) (get_or bytes 0 0 % 128) 7
    first [] some large small = absurd (omega arith)
    first (byte ∷ left) some large small = reads_first byte left large small

-- the next byte, before what is left
shown : (bytes : List ℕ) (i number shift : ℕ) → i < length bytes → Reads bytes (drop i bytes) number shift
    → Reads bytes (get_or bytes i 0 ∷ drop (i + 1) bytes) number shift
shown bytes i number shift inside r = rw (drop_more bytes i 0 inside) at r

pub returns-then-not-is_end-clause-none : goal.returns-then-not-is_end-clause-none
returns-then-not-is_end-clause-none c number rest fits s =
    reads_no_end _ _ _ _ _ number rest (shown c.args.bytes.now c.loop-at.at _ _ c.loop-at-test.true c.loop-at.invariant)
    c.if-is_last.ensures c.if-not-is_end.ensures fits s

pub with_group-requires-clause-fits : goal.with_group-requires-clause-fits
with_group-requires-clause-fits c =
    let r = c.loop-at.invariant in
    end_fits _ _ r.some r.most r.groups c.if-is_last.ensures c.if-not-is_end.ensures.1

pub returns-then-is_last-clause-found : goal.returns-then-is_last-clause-found
returns-then-is_last-clause-found c = rw (take_rest c.args.bytes.now (c.loop-at.at + 1), c.with_group.ensures)
    (reads_end _ _ _ _ _ (shown c.args.bytes.now c.loop-at.at _ _ c.loop-at-test.true c.loop-at.invariant)
    c.if-is_last.ensures c.if-not-is_end.ensures.0)

pub returns-then-shift-eq-LAST_SHIFT-clause-none : goal.returns-then-shift-eq-LAST_SHIFT-clause-none
returns-then-shift-eq-LAST_SHIFT-clause-none c number rest fits s =
    reads_too_long _ _ _ _ _ number rest (shown c.args.bytes.now c.loop-at.at _ _ c.loop-at-test.true c.loop-at.invariant)
    c.if-is_last.ensures (omega arith) fits s

pub with_group-number-requires-clause-fits : goal.with_group-number-requires-clause-fits
with_group-number-requires-clause-fits c =
    let r = c.loop-at.invariant in
    group_fits _ _ (omega (arith, r.most)) r.groups (omega arith)

pub loop-at-preserved : goal.loop-at-preserved
loop-at-preserved c =
    reads_next _ _ _ _ _ _ _ (shown c.args.bytes.now c.loop-at.at _ _ c.loop-at-test.true c.loop-at.invariant)
    c.if-is_last.ensures (omega (arith, c.type_inv.bytes c.loop-at.at)) (omega (arith, c.loop-at.invariant.most))
    c.with_group-number.ensures (omega arith)

pub returns-clause-none : goal.returns-clause-none
returns-clause-none c number rest fits s =
    reads_nothing _ _ _ number rest (ended c.args.bytes.now c.loop-at.at _ _ (omega arith) c.loop-at.invariant) s
  where
    ended : (bytes : List ℕ) (i number shift : ℕ) → length bytes ≤ i → Reads bytes (drop i bytes) number shift
        → Reads bytes [] number shift
    ended bytes i number shift over r = rw (at_drop_all (λ left. left) bytes i over) at r
