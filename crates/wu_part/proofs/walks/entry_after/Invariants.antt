use Rattle.std.proofs.Common.{◌≡◌, ◌≤◌, drop, length}
use Rattle.wu_part.proofs.walks.entry_after.Given as goal

abbrev pub invariant-loop : goal.invariant-loop
invariant-loop l = (l.terms ≡ drop l.counter l.fn.terms) × (l.counter ≤ length l.fn.terms)
