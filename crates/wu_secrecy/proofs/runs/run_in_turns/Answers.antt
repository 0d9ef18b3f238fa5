use Rattle.std.proofs.Common.{Option, subst}
use Rattle.wu_outside.specs.Crash.{AreAlike, Moments}
use Rattle.wu_options.specs.CommandLines.{texts_of}
use Rattle.wu_options.specs.declared.command_lines.Settings.{Settings}
use Rattle.wumpus_run.specs.Courses.{TakesCourse}
use Rattle.wumpus_run.specs.Session.{moment, settings_of}
use Rattle.wu_secrecy.proofs.RunTurns.{has-course}
use Rattle.wu_secrecy.proofs.runs.run_in_turns.Goals as goal

pub returns-clause-course : goal.returns-clause-course
returns-clause-course g c = λ s image.
    has-course s c.run.result (settings_of (texts_of c.args.words.now))
    (moment g.I.Source g.O.Sink g.D.Store c.args.source.now c.args.sink.now c.args.store.now)
    (moment g.I.Source g.O.Sink g.D.Store c.run.new.source c.run.new.sink c.run.new.store)
    (c.run.ensures.course s image)

pub returns-clause-life : goal.returns-clause-life
returns-clause-life g c = λ told input old new asked given had has.
    let before = moment g.I.Source g.O.Sink g.D.Store c.args.source.now c.args.sink.now c.args.store.now in
    let now = moment g.I.Source g.O.Sink g.D.Store c.run.new.source c.run.new.sink c.run.new.store in
    record {
      given = given;
      old = had;
      new = has;
      course = λ s image.
          subst (λ (settings : Option Settings). TakesCourse s c.run.result settings before now) asked (c.run.ensures.course s image);
      alike = subst (λ (moments : Option Moments). AreAlike (g.D.Store.holds c.run.new.store) moments) has
          (g.met.D.Store.told_alike c.run.new.store);
    }
