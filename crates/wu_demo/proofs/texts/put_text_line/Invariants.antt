use Rattle.wu_demo.proofs.TurnLemmas.{GoesByWord}
use Rattle.wu_demo.proofs.texts.put_text_line.Given as goal

abbrev pub invariant-words : goal.invariant-words
invariant-words l = GoesByWord l.initial.generator l.initial.out.items l.counter l.generator l.out.items
