use Rattle.std.proofs.Common.{◌≡◌, ℕ, ◌+◌, ◌-◌, get_or, ap, arith}
use Rattle.wu_mirror.proofs.Fitting.{distinct_if, twice_if}
use Rattle.wu_mirror.proofs.checks.doubled.Goals as goal

pub returns : goal.returns
returns c = record {
  none = distinct_if c.args.numbers.now (λ k d within. c.loop-place.invariant k d (omega (arith, c.loop-place-test.false, within)));
  some = tt;
}

pub returns-then-numbers-place-clause-some : goal.returns-then-numbers-place-clause-some
returns-then-numbers-place-clause-some c =
    let place : ℕ = c.loop-place.place in
    let next : (place - 1) + 1 ≡ place = omega (arith, c.loop-place.auto.place) in
    twice_if c.args.numbers.now (place - 1) (get_or c.args.numbers.now place 0) (omega (arith, next, c.loop-place-test.true)) c.if-numbers-place.true
    (ap (λ k. get_or c.args.numbers.now k 0) next)
