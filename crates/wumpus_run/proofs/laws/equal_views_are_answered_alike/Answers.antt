use Rattle.wumpus_run.proofs.ReplyLemmas.{alike}
use Rattle.wumpus_run.proofs.laws.equal_views_are_answered_alike.Goals as goal

pub returns : goal.returns
returns c = alike
