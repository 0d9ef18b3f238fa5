use Rattle.std.proofs.Common.{◌-◌, ◌^◌}
use Rattle.wu_lists.proofs.Ascending.{order-drop}
use Rattle.wu_lists.proofs.Spans.{live-drop, meets-drop}
use Rattle.wu_lists.proofs.Tallying.{opens-drop}
use Rattle.wu_lists.proofs.frames.frames_from.Goals as goal

pub returns-clause-order : goal.returns-clause-order
returns-clause-order c =
    rw c.split_at.ensures.back (order-drop c.count_ended.result 0 (2 ^ 64 - 1) c.args.frames.now c.requires)

pub returns-clause-after : goal.returns-clause-after
returns-clause-after c = rw c.split_at.ensures.back c.count_ended.ensures.others

pub returns-clause-live : goal.returns-clause-live
returns-clause-live c = rw c.split_at.ensures.back
    (live-drop c.count_ended.result c.args.address c.args.frames.now c.count_ended.ensures.ended)

pub returns-clause-needed : goal.returns-clause-needed
returns-clause-needed c = rw c.split_at.ensures.back
    (meets-drop c.count_ended.result c.args.address c.args.frames.now c.count_ended.ensures.ended)

pub returns-clause-opens : goal.returns-clause-opens
returns-clause-opens c = rw c.split_at.ensures.back
    (opens-drop c.count_ended.result c.args.address c.args.frames.now c.count_ended.ensures.ended)
