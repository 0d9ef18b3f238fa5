use Rattle.wu_mirror.proofs.Whole.{leaves_what_it_tells}
use Rattle.wu_mirror.proofs.laws.a_batch_leaves_what_it_tells.Goals as goal

pub returns : goal.returns
returns c = λ batch texts before after l w are.
    leaves_what_it_tells c.check_is_decided_by_cases.ensures batch before after l w texts are
