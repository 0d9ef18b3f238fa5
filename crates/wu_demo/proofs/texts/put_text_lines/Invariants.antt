use Rattle.wu_demo.specs.Script.{text_line}
use Rattle.wu_demo.proofs.TurnLemmas.{Joins}
use Rattle.wu_demo.proofs.texts.put_text_lines.Given as goal

abbrev pub invariant-text_lines : goal.invariant-text_lines
invariant-text_lines l = Joins (λ _. text_line) 0 l.lines l.fn.generator l.fn.out.items l.counter l.lines l.generator l.out.items
