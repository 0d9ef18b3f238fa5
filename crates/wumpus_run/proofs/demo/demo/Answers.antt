use Rattle.std.proofs.Common.{refl, subst}
use Rattle.std.specs.Io.KnownBytes.{Appends}
use Rattle.wu_outside.specs.Gains.{GainsPrefix}
use Rattle.wumpus_run.proofs.DemoLemmas.{shown, shown_in_part, unshown}
use Rattle.wumpus_run.proofs.Endings.FaultCounts.{IsCounted-written}
use Rattle.wumpus_run.proofs.demo.demo.Goals as goal

pub returns-in-Err-clause-shown : goal.returns-in-Err-clause-shown
returns-in-Err-clause-shown g c = unshown c.args.number (g.O.Sink.gained c.args.sink.now)

pub returns-in-Ok-write_reply-clause-shown : goal.returns-in-Ok-write_reply-clause-shown
returns-in-Ok-write_reply-clause-shown g c =
    let before = g.O.Sink.gained c.args.sink.now in
    let now = g.O.Sink.gained c.write_reply.new.sink in
    shown c.args.number c.in-Ok.line.items before now c.in-Ok.ensures
    (subst (Appends before now) c.as_slice.ensures.value c.in-Ok-write_reply.ensures.ok)

pub returns-clause-shown : goal.returns-clause-shown
returns-clause-shown g c =
    let before = g.O.Sink.gained c.args.sink.now in
    let now = g.O.Sink.gained c.write_reply.new.sink in
    rw c.status_of_fault.ensures
    (shown_in_part c.args.number c.in-Ok.line.items c.in-Err-write_reply.fault before now c.in-Ok.ensures
    (subst (GainsPrefix before now) c.as_slice.ensures.value c.in-Err-write_reply.ensures.err))

pub returns-clause-write_fault : goal.returns-clause-write_fault
returns-clause-write_fault g c =
    let before = g.O.Sink.faults c.args.sink.now in
    rw c.status_of_fault.ensures
    (IsCounted-written c.in-Err-write_reply.fault before before (g.O.Sink.faults c.write_reply.new.sink) refl
    c.in-Err-write_reply.ensures.cause)
