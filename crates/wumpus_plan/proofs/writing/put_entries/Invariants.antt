use Rattle.std.proofs.Common.{◌≡◌, ◌++◌, take}
use Rattle.std.specs.List.{flat_map}
use Rattle.wumpus_plan.specs.Lines.{entry}
use Rattle.wumpus_plan.proofs.writing.put_entries.Given as goal

abbrev pub invariant-loop-one : goal.invariant-loop-one
invariant-loop-one l = l.out.items ≡ l.initial.out.items ++ flat_map (entry l.lead) (take l.one-index l.entries)
