use Rattle.std.proofs.Common.{◌≡◌, ◌∙◌, ◌+◌, ℕ, ◌<◌, ◌≤◌, length, get_or, subst, arith}
use Rattle.std.proofs.lemmas.Grind.{common_steps}
use Rattle.wu_solve.specs.Addresses.{EndsBelow}
use Rattle.wu_solve.proofs.NearSpans.{none_behind, next_before, first_is}
use Rattle.wu_solve.proofs.spanning.first_span.Goals as goal
use Rattle.wu_solve.proofs.spanning.first_span.Goals.{else-starts-gt1-via-then-starts-gt1+else-starts-end}
use Rattle.wu_solve.proofs.spanning.first_span.Goals.{else-starts-gt1-via-else-starts-gt1}

pub returns-in_err-end : goal.returns-in_err-end
returns-in_err-end c =
    let starts = c.args.starts.now in
    let ends = c.args.ends.now in
    let place = c.address_at.result in
    let some : 0 < length starts = grind (arith, common_steps) in
    let begins : c.in_ok-start.field-0.now ≡ get_or starts 0 0 = grind (arith, common_steps) in
    let none : length ends ≤ place = grind (arith, common_steps) in
    c.from_residual-in_err-end.ensures
    ∙ none_behind ends place starts some (subst (λ (s : ℕ). EndsBelow ends (s + 1) place) begins c.address_at.ensures) none

pub returns-then-starts-end : goal.returns-then-starts-end
returns-then-starts-end c =
    let starts = c.args.starts.now in
    let ends = c.args.ends.now in
    let place = c.address_at.result in
    let begins : c.in_ok-start.field-0.now ≡ get_or starts 0 0 = grind (arith, common_steps) in
    let within : place < length ends = grind (arith, common_steps) in
    let stops : c.in_ok-end.field-0.now ≡ get_or ends place 0 = grind (arith, common_steps) in
    next_before ends place starts c.if-starts-gt1.true
    (subst (λ (s : ℕ). EndsBelow ends (s + 1) place) begins c.address_at.ensures) within
    (subst (λ (e : ℕ). get_or starts 1 0 < e) stops c.if-starts-end.true)

pub returns : goal.returns
returns c =
    let starts = c.args.starts.now in
    let ends = c.args.ends.now in
    let place = c.address_at.result in
    let some : 0 < length starts = grind (arith, common_steps) in
    let begins : c.in_ok-start.field-0.now ≡ get_or starts 0 0 = grind (arith, common_steps) in
    let within : place < length ends = grind (arith, common_steps) in
    let stops : c.in_ok-end.field-0.now ≡ get_or ends place 0 = grind (arith, common_steps) in
    let behind_end : 1 < length starts → get_or ends place 0 ≤ get_or starts 1 0 = λ more. elim c.else-starts-gt1.branch [
      | else-starts-gt1-via-then-starts-gt1+else-starts-end w ↦
          subst (λ (e : ℕ). e ≤ get_or starts 1 0) stops w.if-starts-end.false
      | else-starts-gt1-via-else-starts-gt1 w ↦ absurd (omega (arith, more, w.if-starts-gt1.false))
    ] in
    rw (begins, stops) (first_is ends place starts some (subst (λ (s : ℕ). EndsBelow ends (s + 1) place) begins c.address_at.ensures) within
    behind_end)
