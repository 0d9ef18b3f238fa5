use Rattle.wumpus_run.proofs.ViewLemmas.{left_alike, operated_alike}
use Rattle.wumpus_run.proofs.laws.no_view_depends_on_flushes_work_or_saves.Goals as goal

pub returns-clause-full : goal.returns-clause-full
returns-clause-full c = left_alike

pub returns-clause-operated : goal.returns-clause-operated
returns-clause-operated c = operated_alike
