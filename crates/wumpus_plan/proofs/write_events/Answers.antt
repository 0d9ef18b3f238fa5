use Rattle.std.proofs.Common.{arith, ◌≡◌, ℕ, ◌+◌, List, ◌++◌, subst, take}
use Rattle.std.proofs.lemmas.Grind.{common_steps}
use Rattle.std.specs.List.{flat_map}
use Rattle.wumpus_plan.specs.Lines.{Passes, line_of}
use Rattle.wumpus_plan.proofs.Pieces.{passes_both}
use Rattle.wumpus_plan.proofs.write_events.Goals as goal

pub loop-event-preserved : goal.loop-event-preserved
loop-event-preserved g c =
    let before : List ℕ = flat_map line_of (take c.loop-event.event-index c.args.events.now) in
    let line : List ℕ = line_of c.event-item.result in
    let more : flat_map line_of (take c.loop-event.event-index c.args.events.now) ++ line_of c.event-item.result
    ≡ flat_map line_of (take (c.loop-event.event-index + 1) c.args.events.now) = grind (arith, common_steps) in
    subst
    (λ (l : List ℕ).
    Passes (g.W.Write.contents c.args.out.now) c.args.bytes.now.items (g.W.Write.contents c.write_event.new.out) c.write_event.new.bytes.items l)
    more
    (passes_both (g.W.Write.contents c.args.out.now) (g.W.Write.contents c.loop-event.out) (g.W.Write.contents c.write_event.new.out)
    c.args.bytes.now.items c.loop-event.bytes.items c.write_event.new.bytes.items before line c.loop-event.invariant
    c.in_ok-write_event.ensures)
