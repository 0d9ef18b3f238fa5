use Rattle.std.proofs.Common.{◌++◌, ◌∙◌, arith}
use Rattle.std.proofs.lemmas.Result.{on_err_weaker}
use Rattle.wumpus_run.specs.Rests.{lines_of}
use Rattle.wu_engine.specs.Listing.{files_kept}
use Rattle.wu_engine.proofs.OpenedStates.{on_any_err}
use Rattle.wumpus_run.proofs.Exports.SentLines.{sent_last, sent_more, sent_part}
use Rattle.wumpus_run.proofs.sending.send_paths.Goals as goal

pub returns-in_err-send_file-clause-err : goal.returns-in_err-send_file-clause-err
returns-in_err-send_file-clause-err g c =
    let files = files_kept c.args.engine.now.frames c.args.uid in
    on_any_err _ c.from_residual.result
    (sent_part (g.O.Sink.gained c.args.sink.now) (g.O.Sink.gained c.loop-place.sink) (g.O.Sink.gained c.send_file.new.sink)
    (c.args.reply.now.items ++ lines_of files) c.loop-place.reply.items files c.loop-place.place c.loop-place.invariant.sent
    (omega (arith, c.loop-place-test.true, c.files_kept-place-end.ensures)) c.in_err-send_file.ensures.err)

pub loop-place-preserved : goal.loop-place-preserved
loop-place-preserved g c =
    let files = files_kept c.args.engine.now.frames c.args.uid in
    record {
      sent = sent_more (g.O.Sink.gained c.args.sink.now) (g.O.Sink.gained c.loop-place.sink) (g.O.Sink.gained c.send_file.new.sink)
          (c.args.reply.now.items ++ lines_of files) c.loop-place.reply.items files c.loop-place.place c.loop-place.invariant.sent
          c.send_file.new.held.items (omega (arith, c.loop-place-test.true, c.files_kept-place-end.ensures)) c.in_ok-send_file.ensures.ok;
      calm = c.in_ok-send_file.ensures.cause.calm ∙ c.loop-place.invariant.calm;
    }

pub returns-clause-err : goal.returns-clause-err
returns-clause-err g c =
    let files = files_kept c.args.engine.now.frames c.args.uid in
    on_err_weaker c.write_all.result
    (λ part. sent_last (g.O.Sink.gained c.args.sink.now) (g.O.Sink.gained c.loop-place.sink) (g.O.Sink.gained c.write_all.new.sink)
    (c.args.reply.now.items ++ lines_of files) c.loop-place.reply.items files c.loop-place.place c.loop-place.invariant.sent
    (omega (arith, c.loop-place-test.false, c.files_kept-place-end.ensures)) (rw c.as_slice.ensures.value at part))
    c.write_all.ensures.err
