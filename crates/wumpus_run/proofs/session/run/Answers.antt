use Rattle.std.proofs.Common.{Option, Some, ap, refl, subst}
use Rattle.wu_options.specs.CommandLines.{command_line_of, texts_of}
use Rattle.wu_options.specs.declared.command_lines.CommandLine.{CommandLine}
use Rattle.wumpus_run.specs.Session.{LeavesAlone, moment}
use Rattle.wumpus_run.proofs.Arguments.AskedLines.{line-asked}
use Rattle.wumpus_run.proofs.Arguments.CarriedLines.{carries_line, carries_nothing}
use Rattle.wumpus_run.proofs.Arguments.SettingLimits.{input_within}
use Rattle.wumpus_run.proofs.Arguments.UnaskedSessions.{all_alone}
use Rattle.wumpus_run.proofs.session.run.Goals as goal

pub carry_out-requires-clause-within : goal.carry_out-requires-clause-within
carry_out-requires-clause-within g c = λ settings is.
    let line = line-asked c.read_command_line.result (texts_of c.args.words.now) c.in-Ok.line c.in-Ok.line refl c.read_command_line.ensures
    c.in-Ok.ensures in
    input_within (Some c.in-Ok.line) (texts_of c.args.words.now) settings (ap Some is) line

-- ---- what the line asks for was done

pub returns-in-Ok-clause-untouched : goal.returns-in-Ok-clause-untouched
returns-in-Ok-clause-untouched g c =
    let line = line-asked c.read_command_line.result (texts_of c.args.words.now) c.in-Ok.line c.in-Ok.line refl c.read_command_line.ensures
    c.in-Ok.ensures in
    subst (λ (l : Option CommandLine). LeavesAlone l c.args.source.now c.carry_out.new.source c.args.sink.now c.carry_out.new.sink
    c.args.store.now c.carry_out.new.store) line c.carry_out.ensures.untouched

pub returns-in-Ok-clause-usage : goal.returns-in-Ok-clause-usage
returns-in-Ok-clause-usage g c =
    (carries_line c.read_command_line.result (texts_of c.args.words.now) c.read_command_line.ensures c.in-Ok.line c.carry_out.result _ _
    c.in-Ok.ensures c.carry_out.ensures.done).usage

pub returns-in-Ok-clause-demo : goal.returns-in-Ok-clause-demo
returns-in-Ok-clause-demo g c =
    (carries_line c.read_command_line.result (texts_of c.args.words.now) c.read_command_line.ensures c.in-Ok.line c.carry_out.result _ _
    c.in-Ok.ensures c.carry_out.ensures.done).demo

pub returns-in-Ok-clause-check : goal.returns-in-Ok-clause-check
returns-in-Ok-clause-check g c =
    (carries_line c.read_command_line.result (texts_of c.args.words.now) c.read_command_line.ensures c.in-Ok.line c.carry_out.result _ _
    c.in-Ok.ensures c.carry_out.ensures.done).check

pub returns-in-Ok-clause-session : goal.returns-in-Ok-clause-session
returns-in-Ok-clause-session g c =
    (carries_line c.read_command_line.result (texts_of c.args.words.now) c.read_command_line.ensures c.in-Ok.line c.carry_out.result _ _
    c.in-Ok.ensures c.carry_out.ensures.done).session

pub returns-in-Ok-clause-course : goal.returns-in-Ok-clause-course
returns-in-Ok-clause-course g c =
    (carries_line c.read_command_line.result (texts_of c.args.words.now) c.read_command_line.ensures c.in-Ok.line c.carry_out.result _ _
    c.in-Ok.ensures c.carry_out.ensures.done).course

pub returns-in-Ok-clause-blobs : goal.returns-in-Ok-clause-blobs
returns-in-Ok-clause-blobs g c =
    (carries_line c.read_command_line.result (texts_of c.args.words.now) c.read_command_line.ensures c.in-Ok.line c.carry_out.result _ _
    c.in-Ok.ensures c.carry_out.ensures.done).blobs

pub returns-in-Ok-clause-opened : goal.returns-in-Ok-clause-opened
returns-in-Ok-clause-opened g c =
    (carries_line c.read_command_line.result (texts_of c.args.words.now) c.read_command_line.ensures c.in-Ok.line c.carry_out.result _ _
    c.in-Ok.ensures c.carry_out.ensures.done).opened

pub returns-in-Ok-clause-broken : goal.returns-in-Ok-clause-broken
returns-in-Ok-clause-broken g c =
    (carries_line c.read_command_line.result (texts_of c.args.words.now) c.read_command_line.ensures c.in-Ok.line c.carry_out.result _ _
    c.in-Ok.ensures c.carry_out.ensures.done).broken

pub returns-in-Ok-clause-complete : goal.returns-in-Ok-clause-complete
returns-in-Ok-clause-complete g c =
    (carries_line c.read_command_line.result (texts_of c.args.words.now) c.read_command_line.ensures c.in-Ok.line c.carry_out.result _ _
    c.in-Ok.ensures c.carry_out.ensures.done).complete

-- ---- nothing was, since they ask for nothing, or there was no memory to read them

pub returns-in-Err-clause-untouched : goal.returns-in-Err-clause-untouched
returns-in-Err-clause-untouched g c =
    all_alone (command_line_of (texts_of c.args.words.now)) c.args.source.now c.args.sink.now c.args.store.now

pub returns-in-Err-clause-usage : goal.returns-in-Err-clause-usage
returns-in-Err-clause-usage g c =
    (carries_nothing c.read_command_line.result (texts_of c.args.words.now) c.read_command_line.ensures c.in-Err.status
    (moment g.I.Source g.O.Sink g.D.Store c.args.source.now c.args.sink.now c.args.store.now) c.in-Err.ensures).usage

pub returns-in-Err-clause-demo : goal.returns-in-Err-clause-demo
returns-in-Err-clause-demo g c =
    (carries_nothing c.read_command_line.result (texts_of c.args.words.now) c.read_command_line.ensures c.in-Err.status
    (moment g.I.Source g.O.Sink g.D.Store c.args.source.now c.args.sink.now c.args.store.now) c.in-Err.ensures).demo

pub returns-in-Err-clause-check : goal.returns-in-Err-clause-check
returns-in-Err-clause-check g c =
    (carries_nothing c.read_command_line.result (texts_of c.args.words.now) c.read_command_line.ensures c.in-Err.status
    (moment g.I.Source g.O.Sink g.D.Store c.args.source.now c.args.sink.now c.args.store.now) c.in-Err.ensures).check

pub returns-in-Err-clause-session : goal.returns-in-Err-clause-session
returns-in-Err-clause-session g c =
    (carries_nothing c.read_command_line.result (texts_of c.args.words.now) c.read_command_line.ensures c.in-Err.status
    (moment g.I.Source g.O.Sink g.D.Store c.args.source.now c.args.sink.now c.args.store.now) c.in-Err.ensures).session

pub returns-in-Err-clause-course : goal.returns-in-Err-clause-course
returns-in-Err-clause-course g c =
    (carries_nothing c.read_command_line.result (texts_of c.args.words.now) c.read_command_line.ensures c.in-Err.status
    (moment g.I.Source g.O.Sink g.D.Store c.args.source.now c.args.sink.now c.args.store.now) c.in-Err.ensures).course

pub returns-in-Err-clause-blobs : goal.returns-in-Err-clause-blobs
returns-in-Err-clause-blobs g c =
    (carries_nothing c.read_command_line.result (texts_of c.args.words.now) c.read_command_line.ensures c.in-Err.status
    (moment g.I.Source g.O.Sink g.D.Store c.args.source.now c.args.sink.now c.args.store.now) c.in-Err.ensures).blobs

pub returns-in-Err-clause-opened : goal.returns-in-Err-clause-opened
returns-in-Err-clause-opened g c =
    (carries_nothing c.read_command_line.result (texts_of c.args.words.now) c.read_command_line.ensures c.in-Err.status
    (moment g.I.Source g.O.Sink g.D.Store c.args.source.now c.args.sink.now c.args.store.now) c.in-Err.ensures).opened

pub returns-in-Err-clause-broken : goal.returns-in-Err-clause-broken
returns-in-Err-clause-broken g c =
    (carries_nothing c.read_command_line.result (texts_of c.args.words.now) c.read_command_line.ensures c.in-Err.status
    (moment g.I.Source g.O.Sink g.D.Store c.args.source.now c.args.sink.now c.args.store.now) c.in-Err.ensures).broken

pub returns-in-Err-clause-complete : goal.returns-in-Err-clause-complete
returns-in-Err-clause-complete g c =
    (carries_nothing c.read_command_line.result (texts_of c.args.words.now) c.read_command_line.ensures c.in-Err.status
    (moment g.I.Source g.O.Sink g.D.Store c.args.source.now c.args.sink.now c.args.store.now) c.in-Err.ensures).complete
