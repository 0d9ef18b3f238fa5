use Rattle.wu_demo.specs.Script.{file_commands}
use Rattle.wu_demo.proofs.TurnLemmas.{goes-on, goes-last, joined}
use Rattle.wu_demo.proofs.script.put_files.Goals as goal

pub loop-number-preserved : goal.loop-number-preserved
loop-number-preserved c =
    goes-on (λ bytes. bytes) file_commands 100 800 c.args.generator.now c.args.out.now.items c.loop-number.number 900
    c.loop-number.generator c.loop-number.out.items c.put_file.new.generator c.put_file.new.out.items c.loop-number-test.true
    c.loop-number.invariant c.in_ok-put_file.ensures.bytes c.in_ok-put_file.ensures.state

pub returns-clause-bytes : goal.returns-clause-bytes
returns-clause-bytes c =
    joined file_commands 100 800 c.args.generator.now c.args.out.now.items c.loop-number.number 900 c.loop-number.generator
    c.loop-number.out.items c.loop-number-test.false c.loop-number.invariant

pub returns-clause-state : goal.returns-clause-state
returns-clause-state c =
    goes-last (λ bytes. bytes) file_commands 100 800 c.args.generator.now c.args.out.now.items c.loop-number.number 900
    c.loop-number.generator c.loop-number.out.items c.loop-number-test.false c.loop-number.invariant
