use Rattle.std.proofs.Common.{Some, refl, sym, subst}
use Rattle.wu_options.specs.declared.command_lines.CommandLine.{CommandLine}
use Rattle.wumpus_run.specs.Outcomes.{CarriesOut}
use Rattle.wumpus_run.specs.Session.{LeavesAlone, moment}
use Rattle.wumpus_run.proofs.Arguments.CarriedLines.{carries_check, carries_demo, carries_run}
use Rattle.wumpus_run.proofs.session.carry_out.Goals as goal

pub answer_script-requires-clause-within : goal.answer_script-requires-clause-within
answer_script-requires-clause-within g c = c.requires.within c.in-Run.settings c.in-Run.is

pub returns-in-Run-clause-untouched : goal.returns-in-Run-clause-untouched
returns-in-Run-clause-untouched g c =
    subst (λ (line : CommandLine). LeavesAlone (Some line) c.args.source.now c.answer_script.new.source c.args.sink.now
    c.answer_script.new.sink c.args.store.now c.answer_script.new.store) (sym c.in-Run.is) tt

pub returns-in-Run-clause-done : goal.returns-in-Run-clause-done
returns-in-Run-clause-done g c =
    let before = moment g.I.Source g.O.Sink g.D.Store c.args.source.now c.args.sink.now c.args.store.now in
    let now = moment g.I.Source g.O.Sink g.D.Store c.answer_script.new.source c.answer_script.new.sink c.answer_script.new.store in
    let r = c.answer_script.ensures in
    subst (λ (line : CommandLine). CarriesOut (Some line) c.answer_script.result before now) (sym c.in-Run.is)
    (carries_run c.in-Run.settings c.answer_script.result before now r.session r.course r.blobs r.opened r.broken)

pub returns-in-Demo-clause-untouched : goal.returns-in-Demo-clause-untouched
returns-in-Demo-clause-untouched g c =
    subst (λ (line : CommandLine). LeavesAlone (Some line) c.args.source.now c.args.source.now c.args.sink.now c.demo.new.sink
    c.args.store.now c.args.store.now) (sym c.in-Demo.is) (refl, refl)

pub returns-in-Demo-clause-done : goal.returns-in-Demo-clause-done
returns-in-Demo-clause-done g c =
    let before = moment g.I.Source g.O.Sink g.D.Store c.args.source.now c.args.sink.now c.args.store.now in
    let now = moment g.I.Source g.O.Sink g.D.Store c.args.source.now c.demo.new.sink c.args.store.now in
    subst (λ (line : CommandLine). CarriesOut (Some line) c.demo.result before now) (sym c.in-Demo.is)
    (carries_demo c.in-Demo.number c.demo.result before now refl refl refl refl refl refl c.demo.ensures.shown c.demo.ensures.write_fault)

pub returns-in-Check-clause-untouched : goal.returns-in-Check-clause-untouched
returns-in-Check-clause-untouched g c =
    subst (λ (line : CommandLine). LeavesAlone (Some line) c.args.source.now c.args.source.now c.args.sink.now c.check_store.new.sink
    c.args.store.now c.check_store.new.store) (sym c.in-Check.is) refl

pub returns-in-Check-clause-done : goal.returns-in-Check-clause-done
returns-in-Check-clause-done g c =
    let before = moment g.I.Source g.O.Sink g.D.Store c.args.source.now c.args.sink.now c.args.store.now in
    let now = moment g.I.Source g.O.Sink g.D.Store c.args.source.now c.check_store.new.sink c.check_store.new.store in
    let r = c.check_store.ensures in
    subst (λ (line : CommandLine). CarriesOut (Some line) c.check_store.result before now) (sym c.in-Check.is)
    (carries_check c.check_store.result before now refl refl refl
    (record { found = r.found; holds = r.holds; moments = r.moments; ranges = r.ranges }) r.write_fault r.store_fault)
