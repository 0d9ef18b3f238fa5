use Rattle.wu_mirror.proofs.Accepting.{each_accepted}
use Rattle.wu_mirror.proofs.laws.each_event_is_accepted.Goals as goal

pub returns : goal.returns
returns c = λ batch texts before after l w f once r are.
    each_accepted batch before after l w f (record { order = f.order; once = once }) r texts are
