use Rattle.std.proofs.Common.{refl, arith}
use Rattle.wu_frames.proofs.mending.put_last.Goals as goal

pub returns : goal.returns
returns g c =
    let had = c.remove.ensures in
    rw (
      c.from.ensures,
      c.push.ensures.items,
      c.push.ensures.succeeds (omega arith),
      c.remove.ensures.items,
      c.into_vec-changed.ensures,
      c.replace.ensures.value,
    ) refl
