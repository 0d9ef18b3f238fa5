use Rattle.wu_secrecy.proofs.Purging.{told-purged}
use Rattle.wu_secrecy.proofs.events.what_is_unseen_can_be_left_out.Goals as goal

pub returns : goal.returns
returns c = told-purged
