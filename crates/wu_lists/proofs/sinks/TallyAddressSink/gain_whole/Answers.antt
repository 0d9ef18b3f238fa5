use Rattle.std.proofs.Common.{◌-◌, ◌^◌, ◌∙◌}
use Rattle.wu_lists.proofs.CountedBlocks.{counted_whole, inside_end, inside_some}
use Rattle.wu_lists.proofs.sinks.TallyAddressSink.gain_whole.Goals as goal

pub bounds-frames-0 : goal.bounds-frames-0
bounds-frames-0 c = inside_some c.args.frames.now c.args.block.now c.requires.inside

pub count_to-requires : goal.count_to-requires
count_to-requires c = inside_end (2 ^ 64 - 1) c.args.frames.now c.args.block.now c.requires.order c.requires.inside

pub returns : goal.returns
returns c = λ counted addresses bytes spelled.
    c.count_to.ensures
    ∙ counted_whole (2 ^ 64 - 1) c.args.frames.now (record { start = 0; len = 0 }) c.args.block.now c.args.self.now addresses bytes
    c.requires.order c.requires.inside spelled
