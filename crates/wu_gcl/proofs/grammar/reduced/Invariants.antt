use Rattle.std.proofs.Common.{◌≡◌, vec_len}
use Rattle.wu_gcl.specs.Reading.{seen}
use Rattle.wu_gcl.specs.Pending.{reduced}
use Rattle.wu_gcl.specs.Stacks.{stack_of}
use Rattle.wu_gcl.proofs.grammar.reduced.Given as goal

abbrev pub invariant-loop-left : goal.invariant-loop-left
invariant-loop-left l =
    reduced l.level (stack_of l.initial.waiting.items) (seen l.initial.operand)
    ≡ reduced l.level (stack_of l.waiting.items) (seen l.operand)

abbrev pub decreases-loop-left : goal.decreases-loop-left
decreases-loop-left l = vec_len l.waiting
