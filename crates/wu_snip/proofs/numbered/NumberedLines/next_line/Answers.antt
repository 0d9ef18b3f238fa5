use Rattle.std.proofs.Common.{arith}
use Rattle.wu_snip.proofs.LineLemmas.{fits-next}
use Rattle.wu_snip.proofs.numbered.NumberedLines.next_line.Goals as goal

pub overflow_add-self : goal.overflow_add-self
overflow_add-self c =
    let after = fits-next _ _ _ _ _ c.in_ok-line.ensures.steps c.self.invariant in
    omega (arith, after.0.numbers, after.1)

pub token_count-requires : goal.token_count-requires
token_count-requires c =
    let after = fits-next _ _ _ _ _ c.in_ok-line.ensures.steps c.self.invariant in
    omega (arith, after.1)

pub overflow_add-self-2 : goal.overflow_add-self-2
overflow_add-self-2 c =
    let after = fits-next _ _ _ _ _ c.in_ok-line.ensures.steps c.self.invariant in
    omega (arith, after.1, c.token_count.ensures)

pub overflow_sub-result : goal.overflow_sub-result
overflow_sub-result c =
    let after = fits-next _ _ _ _ _ c.in_ok-line.ensures.steps c.self.invariant in
    omega (arith, after.0.numbers, c.token_count.ensures)

pub invariant_of-self-2 : goal.invariant_of-self-2
invariant_of-self-2 c =
    let after = fits-next _ _ _ _ _ c.in_ok-line.ensures.steps c.self.invariant in
    rw c.token_count.ensures after.0
