use Rattle.std.proofs.Common.{◌≡◌, ◌∙◌, ap}
use Rattle.std.proofs.lemmas.Result.{IfOk-weaker}
use Rattle.wumpus_run.specs.Demo.{IsDemoLine, script_tally, tally_line}
use Rattle.wumpus_run.proofs.demo.line_of.Goals as goal

pub returns : goal.returns
returns c =
    let number = c.args.number in
    let tally = c.in_ok-tally.tally in
    IfOk-weaker c.put_tally.result (λ line. line.items ≡ tally_line number tally) (λ line. IsDemoLine number line.items)
    (λ line is read are. is ∙ ap (tally_line number) (c.in_ok-tally.ensures read are ∙ ap (script_tally read) c.in_ok-script.ensures.bytes))
    c.put_tally.ensures
