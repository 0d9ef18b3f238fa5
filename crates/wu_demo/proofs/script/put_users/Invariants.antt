use Rattle.std.proofs.Common.{◌≡◌, ◌-◌, ◌++◌}
use Rattle.std.specs.List.{flat_map, range_with_len}
use Rattle.wu_demo.specs.Script.{user_command}
use Rattle.wu_demo.proofs.script.put_users.Given as goal

abbrev pub invariant-loop-user : goal.invariant-loop-user
invariant-loop-user l =
    l.out.items ++ flat_map user_command (range_with_len l.user (9 - l.user)) ≡ l.fn.out.items ++ flat_map user_command (range_with_len 1 8)
