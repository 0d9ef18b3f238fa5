use Rattle.std.proofs.Common.{◌-◌, arith}
use Rattle.wu_vbyte.proofs.NumberLemmas.{one_number}
use Rattle.wu_vbyte.proofs.blocks.after_first.Goals as goal

pub returns-else-is_first-clause-none : goal.returns-else-is_first-clause-none
returns-else-is_first-clause-none c rest above s =
    let one = one_number _ _ _ _ _ c.in-Some.ensures.found s in
    c.if-is_first.ensures above one.0

pub returns-in-None-clause-none : goal.returns-in-None-clause-none
returns-in-None-clause-none c rest above s = c.in-None.ensures.none (c.args.first - c.args.low) rest (omega arith) s
