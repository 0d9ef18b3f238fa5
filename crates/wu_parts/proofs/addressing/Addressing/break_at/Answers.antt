use Rattle.std.proofs.Common.{arith}
use Rattle.wu_parts.proofs.RisingAddresses.{counted_from}
use Rattle.wu_parts.proofs.addressing.Addressing.break_at.Goals as goal

pub overflow_sub-start : goal.overflow_sub-start
overflow_sub-start c =
    omega (
      arith,
      counted_from 0 c.args.self.now.start c.args.self.now.breaks.items c.args.place c.requires.rising,
      c.requires.after,
      c.from.ensures,
    )
