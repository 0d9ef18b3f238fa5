use Rattle.std.proofs.Common.{◌∙◌, sym, arith}
use Rattle.wu_frames.proofs.ViewFrames.{file-there, made-more, place-fits}
use Rattle.wu_frames.proofs.making.in_view_order.Goals as goal
use Rattle.wu_frames.proofs.making.in_view_order.Goals.{in-Some+in_ok-put_frame-in-Some, in-None}

pub put_frame-requires : goal.put_frame-requires
put_frame-requires c = place-fits _ _ _ _ c.loop-place.invariant c.in-Some.ino c.in-Some.ensures (omega arith) c.requires

pub loop-place-preserved : goal.loop-place-preserved
loop-place-preserved c =
    elim c.match-ino_at.branch [
      | in-Some+in_ok-put_frame-in-Some w ↦
          rw w.frames-is
          (made-more _ _ _ _ c.loop-place.invariant w.in-Some.ino (sym w.in-Some.is ∙ c.ino_at.ensures) (omega arith) _
          w.in_ok-put_frame-in-Some.ensures)
      | in-None w ↦
          absurd
          (file-there c.args.seen.now c.loop-place.place (omega (arith, c.loop-place-test.true, c.len-place-end.ensures))
          (sym w.in-None.is ∙ c.ino_at.ensures))
    ]
