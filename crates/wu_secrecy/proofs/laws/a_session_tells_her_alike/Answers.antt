use Rattle.wu_secrecy.proofs.Noninterference.{session-alike, session-told}
use Rattle.wu_secrecy.proofs.laws.a_session_tells_her_alike.Goals as goal

pub returns-clause-told : goal.returns-clause-told
returns-clause-told c = session-told

pub returns-clause-alike : goal.returns-clause-alike
returns-clause-alike c = session-alike
