use Rattle.std.proofs.Common.{drop}
use Rattle.wu_rank.proofs.Ascending.{ascend-from, ascend-drop}
use Rattle.wu_rank.proofs.galloping.split_below.Goals as goal

pub returns-clause-others : goal.returns-clause-others
returns-clause-others c =
    let n = c.count_below.result in
    let xs = c.args.addresses.now in
    rw c.split_at.ensures.back (ascend-from 0 c.args.limit (drop n xs) (ascend-drop n 0 xs c.requires) c.count_below.ensures.others)
