use Rattle.std.proofs.Common.{◌-◌, ◌^◌, arith}
use Rattle.wu_lists.proofs.Ascending.{all_from_place}
use Rattle.wu_lists.proofs.frames.reach_of_limit.Goals as goal

pub returns-then-addresses-end-clause-others : goal.returns-then-addresses-end-clause-others
returns-then-addresses-end-clause-others c =
    all_from_place c.args.limit 0 (2 ^ 64 - 1) c.loop-end.end c.args.addresses.now 0 c.requires (omega arith) (omega arith)
