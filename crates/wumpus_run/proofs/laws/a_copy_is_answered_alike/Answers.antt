use Rattle.wumpus_run.proofs.Exports.RebuiltStates.{told_the_same}
use Rattle.wumpus_run.proofs.laws.a_copy_is_answered_alike.Goals as goal

pub returns : goal.returns
returns c = λ rules s uid queries is short of. told_the_same rules s uid is short queries of
