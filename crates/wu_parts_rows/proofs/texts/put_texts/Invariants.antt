use Rattle.std.proofs.Common.{◌≤◌}
use Rattle.wu_parts_rows.proofs.texts.put_texts.Given as goal

abbrev pub invariant-loop-text : goal.invariant-loop-text
invariant-loop-text l = l.parts.memory.end ≤ l.space.next
