use Rattle.wu_demo.specs.Script.{round_commands}
use Rattle.wu_demo.proofs.TurnLemmas.{Joins}
use Rattle.wu_demo.proofs.script.put_rounds.Given as goal

abbrev pub invariant-loop-number : goal.invariant-loop-number
invariant-loop-number l = Joins round_commands 0 100 l.fn.generator l.fn.out.items l.number 100 l.generator l.out.items
