use Rattle.wumpus_run.proofs.Exports.RebuiltStates.{view_rebuilt}
use Rattle.wumpus_run.proofs.laws.an_export_makes_the_view_again.Goals as goal

pub returns : goal.returns
returns c = view_rebuilt
