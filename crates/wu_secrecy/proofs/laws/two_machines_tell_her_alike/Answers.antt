use Rattle.wu_secrecy.proofs.Noninterference.{course-begins, course-sends, cut-alike, history-told, machines-alike}
use Rattle.wu_secrecy.proofs.laws.two_machines_tell_her_alike.Goals as goal

pub returns-clause-alike : goal.returns-clause-alike
returns-clause-alike c = machines-alike

pub returns-clause-under_way : goal.returns-clause-under_way
returns-clause-under_way c = cut-alike

pub returns-clause-begins : goal.returns-clause-begins
returns-clause-begins c = course-begins

pub returns-clause-told : goal.returns-clause-told
returns-clause-told c = history-told

pub returns-clause-sends : goal.returns-clause-sends
returns-clause-sends c = course-sends
