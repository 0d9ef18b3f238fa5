use Rattle.std.proofs.Common.{◌∷◌, ◌∙◌}
use Rattle.wu_demo.specs.Script.{word, word_number}
use Rattle.wu_demo.proofs.TurnLemmas.{goes-on, line-written, line-moves}
use Rattle.wu_demo.proofs.texts.put_text_line.Goals as goal

pub words-preserved : goal.words-preserved
words-preserved c =
    goes-on (λ n. 32 ∷ word n) (λ _. word_number) 1 7 c.draw_word-first.new.generator c.put_word.new.out.items c.words.counter 8
    c.words.generator c.words.out.items c.put_further_word.new.generator c.put_further_word.new.out.items c.words-test.true
    c.words.invariant c.in_ok-put_further_word.ensures.bytes c.in_ok-put_further_word.ensures.state

pub returns-clause-bytes : goal.returns-clause-bytes
returns-clause-bytes c =
    c.in_ok-push.ensures.items
    ∙ line-written c.args.out.now.items c.args.generator.now c.draw_word-first.result c.draw_word-first.new.generator
    c.put_word.new.out.items c.words.counter c.words.generator c.words.out.items c.draw_word-first.ensures.value
    c.draw_word-first.ensures.state c.in_ok-put_word.ensures c.words-test.false c.words.invariant

pub returns-clause-state : goal.returns-clause-state
returns-clause-state c =
    line-moves c.args.generator.now c.draw_word-first.new.generator c.put_word.new.out.items c.words.counter c.words.generator
    c.words.out.items c.draw_word-first.ensures.state c.words-test.false c.words.invariant
