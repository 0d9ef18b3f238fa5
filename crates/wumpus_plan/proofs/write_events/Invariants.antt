use Rattle.std.proofs.Common.{take}
use Rattle.std.specs.List.{flat_map}
use Rattle.wumpus_plan.specs.Lines.{Passes, line_of}
use Rattle.wumpus_plan.proofs.write_events.Given as goal

-- what was written and what is held are what was held at first and the lines so far
abbrev pub invariant-loop-event : goal.invariant-loop-event
invariant-loop-event g l =
    Passes (g.W.Write.contents l.fn.out) l.fn.bytes.items (g.W.Write.contents l.out) l.bytes.items
    (flat_map line_of (take l.event-index l.events))
