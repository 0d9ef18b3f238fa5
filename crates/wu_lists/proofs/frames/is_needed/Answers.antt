use Rattle.std.proofs.Common.{◌-◌, ◌^◌, arith}
use Rattle.wu_lists.proofs.Spans.{needed_at, needed_none}
use Rattle.wu_lists.proofs.frames.is_needed.Goals as goal

pub returns-in-len1-up : goal.returns-in-len1-up
returns-in-len1-up c =
    needed_at (2 ^ 64 - 1) c.args.frames.now (record { start = 0; len = 0 }) c.args.block.now (omega arith)
    c.requires.order c.requires.after

pub returns-in-empty : goal.returns-in-empty
returns-in-empty c = needed_none c.args.frames.now c.args.block.now (omega arith)
