use Rattle.std.proofs.Common.{◌≡◌, ◌<◌, ◌≤◌, ◌++◌, ◌⊎◌, ◌∙◌, List, sym, ap, subst, inl, inr, append-nil, arith}
use Rattle.std.specs.Result.{OnOk}
use Rattle.wu_base.specs.declared.addresses.Extent.{Extent}
use Rattle.wu_solve.proofs.WindowsWhole.{windows_of_frame, no_windows_of_frame}
use Rattle.wu_solve.proofs.operands.put_windows.Goals as goal
use Rattle.wu_solve.proofs.operands.put_windows.Goals.{then-size-eq0-via-then-size-eq0, then-size-eq0-via-else-size-eq0+then-frame-size}

pub returns-then-size-eq0 : goal.returns-then-size-eq0
returns-then-size-eq0 c = λ lists.
    let none : (c.args.size ≡ 0) ⊎ (c.args.frame.len < c.args.size) = elim c.then-size-eq0.branch [
      | then-size-eq0-via-then-size-eq0 w ↦ inl w.if-size-eq0.true
      | then-size-eq0-via-else-size-eq0+then-frame-size w ↦ inr w.if-frame-size.true
    ] in
    sym (append-nil c.args.found.now.items)
    ∙ ap (λ (xs : List Extent). c.args.found.now.items ++ xs) (no_windows_of_frame c.args.size lists c.args.frame none)

pub returns : goal.returns
returns c = λ lists.
    let some : 0 < c.args.size = omega arith in
    let fits : c.args.size ≤ c.args.frame.len = omega arith in
    subst (λ (xs : List Extent). OnOk c.put_runs.result (c.put_runs.new.found.items ≡ c.args.found.now.items ++ xs))
    (windows_of_frame c.args.size lists c.args.frame some fits) c.put_runs.ensures
