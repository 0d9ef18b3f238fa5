use Rattle.std.proofs.Common.{[], ◌∷◌}
use Rattle.wu_query.proofs.PassedCauses.{cause_at_last}
use Rattle.wu_query.proofs.fetching.put_list.Goals as goal

pub returns-in_err-push-clause-cause : goal.returns-in_err-push-clause-cause
returns-in_err-push-clause-cause g c =
    cause_at_last c.from_residual-in_err-push.result c.args.parts.now c.args.frames.now.ranges (c.args.term.now ∷ [])
    c.in_ok-list_of.ensures.store.calm c.in_ok-list_of.ensures.blocks c.from_residual-in_err-push.ensures.1
