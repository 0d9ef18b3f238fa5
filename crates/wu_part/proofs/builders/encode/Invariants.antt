use Rattle.std.proofs.Common.{◌≡◌, take}
use Rattle.wu_part.proofs.builders.encode.Given as goal

-- the lists so far were added
abbrev pub invariant-loop-list : goal.invariant-loop-list
invariant-loop-list l = l.builder ≡ record { low = l.initial.builder.low; lists = take l.list-index l.lists }
