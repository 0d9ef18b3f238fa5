use Rattle.wu_mirror.proofs.CarriedOut.{carried_out}
use Rattle.wu_mirror.proofs.laws.a_batch_is_carried_out.Goals as goal

pub returns : goal.returns
returns c = λ batch texts before after l w f once r are.
    carried_out c.check_is_decided_by_cases.ensures batch before after l w f once r texts are
