use Rattle.wu_gcl.specs.Regions.{Mark}
use Rattle.wu_solve.proofs.Results.{frames_ascend}
use Rattle.wu_solve.proofs.solving.between.Goals as goal

pub combine-requires-clause-left_ascends : goal.combine-requires-clause-left_ascends
combine-requires-clause-left_ascends c =
    rw (c.deref.ensures.value, c.in_ok-left.ensures) (frames_ascend (Mark c.args.first) c.args.lists.now c.args.frames.now c.requires.apart)

pub combine-requires-clause-right_ascends : goal.combine-requires-clause-right_ascends
combine-requires-clause-right_ascends c =
    rw (c.deref-2.ensures.value, c.in_ok-right.ensures)
    (frames_ascend (Mark c.args.last) c.args.lists.now c.args.frames.now c.requires.apart)
