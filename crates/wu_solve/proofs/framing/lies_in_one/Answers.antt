use Rattle.std.proofs.Common.{sym, arith}
use Rattle.wu_base.specs.declared.addresses.Range.{Range}
use Rattle.wu_solve.proofs.ExtentsInFrames.{lies_nowhere, lies_in_no_gap, lies_here}
use Rattle.wu_solve.proofs.framing.lies_in_one.Goals as goal

pub returns-then-place-frames : goal.returns-then-place-frames
returns-then-place-frames c =
    sym (lies_nowhere c.args.frames.now c.args.extent.now.start c.frame_at-place.result c.args.extent.now c.frame_at-place.ensures
    (omega arith) (omega arith))

pub returns-then-extent-frame : goal.returns-then-extent-frame
returns-then-extent-frame c =
    let d : Range = record { start = 0; len = 0 } in
    sym (lies_in_no_gap c.args.frames.now c.args.extent.now.start c.frame_at-place.result c.args.extent.now d c.requires.apart
    c.frame_at-place.ensures (omega arith) c.if-extent-frame.true)

pub returns : goal.returns
returns c =
    let d : Range = record { start = 0; len = 0 } in
    rw c.end_of.ensures (sym (lies_here c.args.frames.now c.frame_at-place.result c.args.extent.now d c.requires.apart
    c.frame_at-place.ensures (omega (arith, c.frame_at-place.ensures.within)) c.if-extent-frame.false))
