use Rattle.std.proofs.Common.{◌≡◌, ℕ, ◌+◌, ◌-◌, ◌^◌, ◌<◌, ◌≤◌, length, get_or, take, drop, min, nat_le, subst, arith, rules}
use Rattle.std.proofs.lemmas.List.{get_or_default}
use Rattle.std.proofs.lemmas.List.Sorted.{IsPartitionedBy-leb, IsPartitionPoint-from_clause}
use Rattle.wu_base.specs.declared.addresses.Range.{Range}
use Rattle.wu_solve.proofs.FramePlaces.{step_ended, rising_ends, found_in_stretch}
use Rattle.wu_solve.proofs.framing.ended.Goals as goal
use Rattle.wu_solve.proofs.framing.ended.Goals.{then-loop-step-test+else-end_of-place, else-loop-step-test}

pub loop-step-preserved : goal.loop-step-preserved
loop-step-preserved c =
    let e : Range = record { start = 0; len = 0 } in record {
      some = omega (arith, c.saturating_mul-step.ensures, c.loop-step.invariant.some);
      within = omega arith;
      front = step_ended c.args.frames.now c.args.place c.loop-step.passed c.loop-step.step e c.requires.apart c.loop-step.invariant.some
          (omega arith) c.loop-step.invariant.front (omega (arith, c.end_of.ensures, c.if-end_of-place.true));
    }

pub returns : goal.returns
returns c =
    let e : Range = record { start = 0; len = 0 } in
    let frames = c.args.frames.now in
    let place = c.args.place in
    let passed = c.loop-step.passed in
    let reach = c.min-reach.result in
    let m = passed + reach - passed in
    let n = c.partition_point.result in
    let reached : m ≡ reach = omega arith in
    let point =
    IsPartitionPoint-from_clause (λ (f : Range). nat_le (min (f.start + f.len) (2 ^ 64 - 1)) place) (take m (drop passed frames)) n
    c.partition_point.ensures.partitioned
    (IsPartitionedBy-leb (λ (f : Range). min (f.start + f.len) (2 ^ 64 - 1)) (take m (drop passed frames)) place
    (rising_ends frames passed m c.requires.apart)) (λ a r q k. search rules) in
    let fits : passed + reach ≤ length frames = omega arith in
    let inside : n ≤ reach = omega arith in
    let next : (d : Range) → passed + reach < length frames
    → place < (get_or frames (passed + reach) d).start + (get_or frames (passed + reach) d).len = λ d more. elim c.loop-step-test.branch [
      | then-loop-step-test+else-end_of-place w ↦
          let index = passed + (c.loop-step.step - 1) in
          let there : index ≡ passed + reach = omega arith in
          let behind : place < (get_or frames index e).start + (get_or frames index e).len =
          omega (arith, w.end_of.ensures, w.if-end_of-place.false) in
          let moved : place < (get_or frames (passed + reach) e).start + (get_or frames (passed + reach) e).len =
          subst (λ (i : ℕ). place < (get_or frames i e).start + (get_or frames i e).len) there behind in
          subst (λ (f : Range). place < f.start + f.len) (get_or_default frames (passed + reach) e d more) moved
      | else-loop-step-test w ↦ absurd (omega arith)
    ] in
    found_in_stretch frames place passed reach m n c.requires.apart c.requires.frames reached fits inside
    c.loop-step.invariant.front point next
