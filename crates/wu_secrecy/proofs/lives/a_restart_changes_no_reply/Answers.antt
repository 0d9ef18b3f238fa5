use Rattle.wu_secrecy.proofs.RestartedRuns.{as_if_gone_on}
use Rattle.wu_secrecy.proofs.lives.a_restart_changes_no_reply.Goals as goal

pub returns : goal.returns
returns c = λ read are run next s t is done image how its uid. as_if_gone_on read are run is done s image next how t its uid
