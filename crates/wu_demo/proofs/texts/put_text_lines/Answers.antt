use Rattle.wu_demo.specs.Script.{text_line}
use Rattle.wu_demo.proofs.TurnLemmas.{goes-on, goes-last, joined}
use Rattle.wu_demo.proofs.texts.put_text_lines.Goals as goal

pub text_lines-preserved : goal.text_lines-preserved
text_lines-preserved c =
    goes-on (λ bytes. bytes) (λ _. text_line) 0 c.args.lines c.args.generator.now c.args.out.now.items c.text_lines.counter c.args.lines
    c.text_lines.generator c.text_lines.out.items c.put_text_line.new.generator c.put_text_line.new.out.items c.text_lines-test.true
    c.text_lines.invariant c.in_ok-put_text_line.ensures.bytes c.in_ok-put_text_line.ensures.state

pub returns-clause-bytes : goal.returns-clause-bytes
returns-clause-bytes c =
    joined (λ _. text_line) 0 c.args.lines c.args.generator.now c.args.out.now.items c.text_lines.counter c.args.lines
    c.text_lines.generator c.text_lines.out.items c.text_lines-test.false c.text_lines.invariant

pub returns-clause-state : goal.returns-clause-state
returns-clause-state c =
    goes-last (λ bytes. bytes) (λ _. text_line) 0 c.args.lines c.args.generator.now c.args.out.now.items c.text_lines.counter c.args.lines
    c.text_lines.generator c.text_lines.out.items c.text_lines-test.false c.text_lines.invariant
