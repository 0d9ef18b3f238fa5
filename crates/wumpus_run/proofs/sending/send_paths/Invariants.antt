use Rattle.std.proofs.Common.{◌≡◌, ◌++◌, drop}
use Rattle.wu_engine.specs.Listing.{files_kept}
use Rattle.wumpus_run.specs.Rests.{lines_of}
use Rattle.wumpus_run.proofs.SessionLemmas.{HasSent}
use Rattle.wumpus_run.proofs.sending.send_paths.Given as goal

-- what was sent, what is held, and the lines of the files to come are the whole reply
abbrev pub invariant-loop-place : goal.invariant-loop-place
invariant-loop-place g l = record {
  sent : HasSent (g.O.Sink.gained l.fn.sink) (g.O.Sink.gained l.sink)
      (l.fn.reply.items ++ lines_of (files_kept l.engine.frames l.uid))
      (l.reply.items ++ lines_of (drop l.place (files_kept l.engine.frames l.uid)));
  calm : g.O.Sink.faults l.sink ≡ g.O.Sink.faults l.fn.sink;
}
