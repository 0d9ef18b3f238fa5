use Rattle.std.proofs.Common.{append-nil, sym, ◌∙◌}
use Rattle.std.proofs.lemmas.Result.{on_err_weaker}
use Rattle.wu_lists.proofs.sinks.VecU64AddressSink.gain.Goals as goal

pub returns-clause-err : goal.returns-clause-err
returns-clause-err c =
    on_err_weaker c.put_within.result (λ same. same ∙ sym (append-nil c.args.self.now.items)) c.put_within.ensures.err
