use Rattle.std.proofs.Common.{◌+◌, rules}
use Rattle.std.proofs.KnownBytes.{Appends-kept}
use Rattle.wu_outside.proofs.Sending.{sent_more, GainsPrefix-place}
use Rattle.wu_outside.proofs.writing.write_all.Goals as goal

pub returns-in-Ok-eq0-clause-err : goal.returns-in-Ok-eq0-clause-err
returns-in-Ok-eq0-clause-err g c =
    let gained = g.O.Sink.gained in
    GainsPrefix-place (gained c.args.sink.now) (gained c.write.new.self) c.args.piece.now (c.loop-at.at + c.in-Ok-eq0.field-0)
    (sent_more _ (gained c.loop-at.sink) _ c.args.piece.now c.loop-at.at c.in-Ok-eq0.field-0
    c.loop-at.invariant.sent c.in-Ok-eq0.ensures.bytes)

pub loop-at-preserved : goal.loop-at-preserved
loop-at-preserved g c =
    let gained = g.O.Sink.gained in
    record {
      within = search rules;
      sent = sent_more (gained c.args.sink.now) (gained c.loop-at.sink) (gained c.write.new.self) c.args.piece.now
          c.loop-at.at c.in-Ok.count c.loop-at.invariant.sent c.in-Ok.ensures.bytes;
      calm = search rules;
    }

pub returns-in-Err-clause-err : goal.returns-in-Err-clause-err
returns-in-Err-clause-err g c =
    let gained = g.O.Sink.gained in
    GainsPrefix-place (gained c.args.sink.now) (gained c.write.new.self) c.args.piece.now c.loop-at.at
    (Appends-kept _ (gained c.loop-at.sink) _ _ c.loop-at.invariant.sent c.in-Err.ensures.bytes)
