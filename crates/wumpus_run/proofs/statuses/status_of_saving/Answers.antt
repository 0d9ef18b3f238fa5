use Rattle.std.proofs.Common.{rules}
use Rattle.wumpus_run.proofs.statuses.status_of_saving.Goals as goal

pub returns-in-Ok : goal.returns-in-Ok
returns-in-Ok c = search rules
