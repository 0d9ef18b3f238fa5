use Rattle.wu_demo.specs.Script.{file_commands}
use Rattle.wu_demo.proofs.TurnLemmas.{Joins}
use Rattle.wu_demo.proofs.script.put_files.Given as goal

abbrev pub invariant-loop-number : goal.invariant-loop-number
invariant-loop-number l = Joins file_commands 100 800 l.fn.generator l.fn.out.items l.number 900 l.generator l.out.items
