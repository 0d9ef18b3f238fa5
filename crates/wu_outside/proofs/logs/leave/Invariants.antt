use Rattle.std.proofs.Common.{◌≡◌, ◌++◌, take, reverse}
use Rattle.wu_outside.specs.Logs.{left_of_all}
use Rattle.wu_outside.proofs.logs.leave.Given as goal

-- what is left of the changes so far was appended
abbrev pub invariant-loop-number : goal.invariant-loop-number
invariant-loop-number l =
    reverse l.left.items ≡ left_of_all l.choice (reverse (take l.number l.changes)) ++ reverse l.fn.left.items
