use Rattle.wu_demo.specs.Script.{directory_command}
use Rattle.wu_demo.proofs.TurnLemmas.{Joins}
use Rattle.wu_demo.proofs.script.put_directories.Given as goal

abbrev pub invariant-loop-number : goal.invariant-loop-number
invariant-loop-number l = Joins directory_command 2 32 l.fn.generator l.fn.out.items l.number 34 l.generator l.out.items
