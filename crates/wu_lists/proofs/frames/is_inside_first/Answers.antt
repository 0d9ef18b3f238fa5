use Rattle.std.proofs.Common.{◌-◌, ◌^◌, ◌∙◌, arith}
use Rattle.wu_lists.proofs.Ascending.{first_end}
use Rattle.wu_lists.proofs.CountedBlocks.{inside_at, inside_none}
use Rattle.wu_lists.proofs.frames.is_inside_first.Goals as goal

pub is_inside-requires : goal.is_inside-requires
is_inside-requires c = first_end 0 (2 ^ 64 - 1) c.args.frames.now (record { start = 0; len = 0 }) (omega arith) c.requires

pub returns-in-len1-up : goal.returns-in-len1-up
returns-in-len1-up c = c.is_inside.ensures ∙ inside_at c.args.frames.now (record { start = 0; len = 0 }) c.args.block.now (omega arith)

pub returns-in-empty : goal.returns-in-empty
returns-in-empty c = inside_none c.args.frames.now c.args.block.now (omega arith)
