use Rattle.wu_base.proofs.Results.{on_err}
use Rattle.wu_lists.proofs.lists.Lists.pass_on.Goals as goal

pub returns-then-not-wants-clause-none : goal.returns-then-not-wants-clause-none
returns-then-not-wants-clause-none g c =
    on_err c.ask.result (g.met.S.AddressSink.none c.args.frames.now c.args.found.now)
