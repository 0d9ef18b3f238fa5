use Rattle.std.proofs.Common.{ℕ, ◌+◌, ◌≤◌, length, drop, option_map, ap, sym, ◌∙◌, arith, length-drop}
use Rattle.wu_parts.proofs.NextJobs.{alike_few}
use Rattle.wu_parts.proofs.working.alike_neighbours.Goals as goal

pub returns : goal.returns
returns c =
    let place : ℕ = c.loop-place.place in
    let parts = c.args.parts.now in
    let short : length (drop place parts) ≤ 1 =
    omega (arith, c.loop-place-test.false, c.saturating_sub-place-end.ensures, length-drop place parts) in
    sym (c.loop-place.invariant ∙ ap (option_map (λ (k : ℕ). place + k)) (alike_few (drop place parts) short))
