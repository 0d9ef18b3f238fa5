use Rattle.std.proofs.Common.{◌-◌, ◌^◌, drop}
use Rattle.wu_lists.proofs.Ascending.{ascend-from, ascend-drop}
use Rattle.wu_lists.proofs.frames.split_inside.Goals as goal

pub returns-clause-others : goal.returns-clause-others
returns-clause-others c =
    let n = c.count_inside.result in
    let xs = c.args.addresses.now in
    rw c.split_at.ensures.back
    (ascend-from 0 (2 ^ 64 - 1) c.args.limit (drop n xs) c.requires.limit (ascend-drop n 0 (2 ^ 64 - 1) xs c.requires.ascend)
    c.count_inside.ensures.others)
