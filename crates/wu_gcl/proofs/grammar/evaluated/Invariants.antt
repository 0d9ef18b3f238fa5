use Rattle.std.proofs.Common.{◌≡◌, map, drop}
use Rattle.wu_gcl.specs.Pending.{run, evaluated}
use Rattle.wu_gcl.specs.Views.{token_of}
use Rattle.wu_gcl.specs.Stacks.{stack_of, state_of}
use Rattle.wu_gcl.proofs.grammar.evaluated.Given as goal

abbrev pub invariant-loop-token : goal.invariant-loop-token
invariant-loop-token l =
    evaluated (map token_of l.tokens) ≡ run (map token_of (drop l.token-index l.tokens)) (state_of (stack_of l.waiting.items) l.state)
