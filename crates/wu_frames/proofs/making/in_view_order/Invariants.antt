use Rattle.wu_frames.specs.Making.{AreMadeUpTo}
use Rattle.wu_frames.proofs.making.in_view_order.Given as goal

abbrev pub invariant-loop-place : goal.invariant-loop-place
invariant-loop-place l = AreMadeUpTo l.place l.space.ranges l.seen l.frames.items
