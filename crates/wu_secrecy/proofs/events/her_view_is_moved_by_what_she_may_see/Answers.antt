use Rattle.wu_secrecy.proofs.UnseenItems.{unseen-event, unseen-operation, unseen-script}
use Rattle.wu_secrecy.proofs.events.her_view_is_moved_by_what_she_may_see.Goals as goal

pub returns-clause-event : goal.returns-clause-event
returns-clause-event c = unseen-event

pub returns-clause-operation : goal.returns-clause-operation
returns-clause-operation c = unseen-operation

pub returns-clause-script : goal.returns-clause-script
returns-clause-script c = unseen-script
