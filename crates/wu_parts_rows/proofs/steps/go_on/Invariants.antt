use Rattle.std.proofs.Common.{◌≤◌}
use Rattle.wu_parts_rows.proofs.steps.go_on.Given as goal

abbrev pub invariant-loop-step : goal.invariant-loop-step
invariant-loop-step l = l.index.parts.memory.end ≤ l.index.space.next
