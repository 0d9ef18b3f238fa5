use Rattle.std.proofs.Common.{length, ap, arith, length-append}
use Rattle.wu_parts.proofs.gathered.Gathered.count.Goals as goal

pub returns : goal.returns
returns c =
    omega (
      arith,
      c.count.ensures,
      c.len.ensures,
      length-append c.self.inside.blocks c.self.inside.memory,
      ap length c.self.view_is,
      c.saturating_add.ensures,
    )
