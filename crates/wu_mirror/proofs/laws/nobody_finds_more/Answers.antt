use Rattle.wu_mirror.proofs.Whole.{shows_no_more}
use Rattle.wu_mirror.proofs.laws.nobody_finds_more.Goals as goal

pub returns : goal.returns
returns c = λ batch texts before after uid l are u.
    shows_no_more c.check_is_decided_by_cases.ensures batch before after l uid u texts are
