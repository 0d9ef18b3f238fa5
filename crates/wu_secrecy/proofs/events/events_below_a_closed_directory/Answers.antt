use Rattle.wu_secrecy.proofs.UnseenCases.{below-unseen}
use Rattle.wu_secrecy.proofs.UnseenItems.{unseen-event}
use Rattle.wu_secrecy.proofs.events.events_below_a_closed_directory.Goals as goal

pub returns : goal.returns
returns c = λ flush_at uid s event text is valid below.
    unseen-event flush_at uid s event text is valid (below-unseen s.tree uid event below)
