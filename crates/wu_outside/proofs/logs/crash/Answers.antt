use Rattle.std.proofs.Common.{◌≡◌, ◌-◌, ◌++◌, length, take, drop, reverse, ap, ◌∙◌, arith}
use Rattle.std.proofs.lemmas.List.{take_rest}
use Rattle.std.proofs.lemmas.Grind.{common_steps}
use Rattle.wu_outside.specs.Logs.{left_of_all}
use Rattle.wu_outside.proofs.CrashLogs.{crash_in_two}
use Rattle.wu_outside.proofs.logs.crash.Goals as goal

pub returns : goal.returns
returns c =
    let choice = c.args.choice in
    let log = c.args.log.now in
    let start = length log - c.count_changes.result in
    let kept : c.in_ok-left.left.items ≡ take start log = grind (arith, common_steps) in
    c.in_ok-leave.ensures ∙ ap (λ xs. left_of_all choice (reverse xs) ++ reverse c.in_ok-left.left.items) (take_rest log start)
    ∙ ap (λ ys. left_of_all choice (reverse (drop start log)) ++ reverse ys) kept
    ∙ crash_in_two choice log start (omega arith) (omega arith)
