use Rattle.wu_mirror.proofs.ViewGrowth.{nothing_shown}
use Rattle.wu_mirror.proofs.laws.a_shut_root_shows_nothing.Goals as goal

pub returns : goal.returns
returns c = λ fs uid t shut. nothing_shown c.check_is_decided_by_cases.ensures fs t uid shut
