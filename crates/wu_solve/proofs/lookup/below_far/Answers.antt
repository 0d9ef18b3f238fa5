use Rattle.std.proofs.Common.{◌≡◌, ℕ, ◌+◌, ◌-◌, ◌<◌, ◌≤◌, length, get_or, take, drop, nat_lt, subst, arith, rules}
use Rattle.std.proofs.lemmas.List.Sorted.{IsPartitionedBy-ltb, IsPartitionPoint-from_clause}
use Rattle.wu_solve.proofs.Numbers.{step_below, rising_stretch, found_in_stretch}
use Rattle.wu_solve.proofs.lookup.below_far.Goals as goal
use Rattle.wu_solve.proofs.lookup.below_far.Goals.{then-loop-step-test+else-addresses-passed, else-loop-step-test}

pub loop-step-preserved : goal.loop-step-preserved
loop-step-preserved c = record {
  some = omega (arith, c.saturating_mul-step.ensures, c.loop-step.invariant.some);
  within = omega arith;
  front = step_below c.args.addresses.now c.args.bound c.loop-step.passed c.loop-step.step c.requires c.loop-step.invariant.some
      (omega arith) c.loop-step.invariant.front c.if-addresses-passed.true;
}

pub returns : goal.returns
returns c =
    let xs = c.args.addresses.now in
    let bound = c.args.bound in
    let passed = c.loop-step.passed in
    let reach = c.min-reach.result in
    let m = passed + reach - passed in
    let n = c.partition_point.result in
    let reached : m ≡ reach = omega arith in
    let point = IsPartitionPoint-from_clause (λ (a : ℕ). nat_lt a bound) (take m (drop passed xs)) n c.partition_point.ensures.partitioned
    (IsPartitionedBy-ltb (λ (a : ℕ). a) (take m (drop passed xs)) bound (rising_stretch xs passed m c.requires))
    (λ a r q k. search rules) in
    let fits : passed + reach ≤ length xs = omega arith in
    let inside : n ≤ reach = omega arith in
    let next : passed + reach < length xs → bound ≤ get_or xs (passed + reach) 0 = λ more. elim c.loop-step-test.branch [
      | then-loop-step-test+else-addresses-passed w ↦
          let same : passed + (c.loop-step.step - 1) ≡ passed + reach = omega arith in
          subst (λ (i : ℕ). bound ≤ get_or xs i 0) same w.if-addresses-passed.false
      | else-loop-step-test w ↦ absurd (omega arith)
    ] in
    found_in_stretch xs bound passed reach m n c.requires reached fits inside c.loop-step.invariant.front point next
