use Rattle.wu_secrecy.specs.Lives.{sessions_of}
use Rattle.wu_secrecy.proofs.LivesAsSessions.{life-history, survives-stop}
use Rattle.wu_secrecy.proofs.Noninterference.{machines-alike}
use Rattle.wu_secrecy.proofs.lives.a_life_is_a_history.Goals as goal

pub returns-clause-history : goal.returns-clause-history
returns-clause-history c = life-history

pub returns-clause-alike : goal.returns-clause-alike
returns-clause-alike c = λ read first second ones others one other uid.
    machines-alike read (sessions_of ones one.starts) (sessions_of others other.starts) one.courses other.courses one.took other.took uid

pub returns-clause-stop : goal.returns-clause-stop
returns-clause-stop c = survives-stop
