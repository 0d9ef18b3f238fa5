use Rattle.wu_demo.specs.Script.{directory_command}
use Rattle.wu_demo.proofs.TurnLemmas.{goes-on, goes-last, joined}
use Rattle.wu_demo.proofs.script.put_directories.Goals as goal

pub loop-number-preserved : goal.loop-number-preserved
loop-number-preserved c =
    goes-on (λ bytes. bytes) directory_command 2 32 c.args.generator.now c.args.out.now.items c.loop-number.number 34
    c.loop-number.generator c.loop-number.out.items c.put_directory.new.generator c.put_directory.new.out.items c.loop-number-test.true
    c.loop-number.invariant c.in_ok-put_directory.ensures.bytes c.in_ok-put_directory.ensures.state

pub returns-clause-bytes : goal.returns-clause-bytes
returns-clause-bytes c =
    joined directory_command 2 32 c.args.generator.now c.args.out.now.items c.loop-number.number 34 c.loop-number.generator
    c.loop-number.out.items c.loop-number-test.false c.loop-number.invariant

pub returns-clause-state : goal.returns-clause-state
returns-clause-state c =
    goes-last (λ bytes. bytes) directory_command 2 32 c.args.generator.now c.args.out.now.items c.loop-number.number 34
    c.loop-number.generator c.loop-number.out.items c.loop-number-test.false c.loop-number.invariant
