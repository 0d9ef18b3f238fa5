use Rattle.wu_demo.specs.Script.{round_commands}
use Rattle.wu_demo.proofs.TurnLemmas.{goes-on, goes-last, joined}
use Rattle.wu_demo.proofs.script.put_rounds.Goals as goal

pub loop-number-preserved : goal.loop-number-preserved
loop-number-preserved c =
    goes-on (λ bytes. bytes) round_commands 0 100 c.args.generator.now c.args.out.now.items c.loop-number.number 100
    c.loop-number.generator c.loop-number.out.items c.put_round.new.generator c.put_round.new.out.items c.loop-number-test.true
    c.loop-number.invariant c.in_ok-put_round.ensures.bytes c.in_ok-put_round.ensures.state

pub returns-clause-bytes : goal.returns-clause-bytes
returns-clause-bytes c =
    joined round_commands 0 100 c.args.generator.now c.args.out.now.items c.loop-number.number 100 c.loop-number.generator
    c.loop-number.out.items c.loop-number-test.false c.loop-number.invariant

pub returns-clause-state : goal.returns-clause-state
returns-clause-state c =
    goes-last (λ bytes. bytes) round_commands 0 100 c.args.generator.now c.args.out.now.items c.loop-number.number 100
    c.loop-number.generator c.loop-number.out.items c.loop-number-test.false c.loop-number.invariant
