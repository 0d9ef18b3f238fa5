use Rattle.std.proofs.Common.{ℕ, List, sym, subst, arith}
use Rattle.std.specs.List.Sorted.{IsStrictlyIncreasing}
use Rattle.std.proofs.lemmas.List.{take_rest}
use Rattle.wu_solve.specs.Addresses.{EndsBelow}
use Rattle.wu_solve.proofs.Numbers.{ends_in_rest, increasing_dropped, increasing_not_below}
use Rattle.wu_solve.proofs.lookup.below.Goals as goal
use Rattle.wu_solve.proofs.lookup.below.Goals.{then-loop-passed-test+else-addresses-passed, else-loop-passed-test}

pub returns-then-passed-lt-NEAR : goal.returns-then-passed-lt-NEAR
returns-then-passed-lt-NEAR c =
    let xs = c.args.addresses.now in
    let passed = c.loop-passed.passed in
    elim c.loop-passed-test.branch [
      | then-loop-passed-test+else-addresses-passed w ↦ record {
        within = omega (arith, c.loop-passed.invariant.within, c.min-near.ensures);
        front = c.loop-passed.invariant.front;
        rest = λ k low high.
            let far = increasing_not_below xs c.requires passed k low high in
            omega (arith, far, w.if-addresses-passed.false);
      }
      | else-loop-passed-test w ↦ record {
        within = omega (arith, c.loop-passed.invariant.within, c.min-near.ensures);
        front = c.loop-passed.invariant.front;
        rest = λ k low high. absurd (omega (arith, c.min-near.ensures));
      }
    ]

pub below_far-requires : goal.below_far-requires
below_far-requires c =
    subst (λ (xs : List ℕ). IsStrictlyIncreasing xs) (sym (take_rest c.args.addresses.now c.loop-passed.passed))
    (increasing_dropped c.loop-passed.passed c.args.addresses.now c.requires)

pub returns : goal.returns
returns c =
    ends_in_rest c.args.addresses.now c.args.bound c.loop-passed.passed c.below_far.result
    (omega (arith, c.loop-passed.invariant.within, c.min-near.ensures))
    c.loop-passed.invariant.front
    (subst (λ (xs : List ℕ). EndsBelow xs c.args.bound c.below_far.result) (take_rest c.args.addresses.now c.loop-passed.passed)
    c.below_far.ensures)
