use Rattle.wu_engine.proofs.OpenedFiles.{numbers_ascend, ranges_live}
use Rattle.wu_engine.proofs.opening.index_of.Goals as goal

pub space_of-requires-clause-ascend : goal.space_of-requires-clause-ascend
space_of-requires-clause-ascend c = rw c.as_slice-files.ensures (numbers_ascend c.args.checkpoint.now c.requires)

pub space_of-requires-clause-live : goal.space_of-requires-clause-live
space_of-requires-clause-live c =
    let checkpoint = c.args.checkpoint.now in
    rw c.as_slice-files.ensures
    (ranges_live checkpoint.next_address checkpoint.next_blob checkpoint.flushes checkpoint c.requires.layout
    (numbers_ascend checkpoint c.requires))

pub records_by_number-requires : goal.records_by_number-requires
records_by_number-requires c = rw c.as_slice-files.ensures (numbers_ascend c.args.checkpoint.now c.requires)
