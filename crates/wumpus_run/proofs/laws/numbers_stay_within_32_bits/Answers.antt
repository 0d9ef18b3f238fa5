use Rattle.wumpus_run.proofs.Exports.SavedNumbers.{numbers_saved}
use Rattle.wumpus_run.proofs.Exports.ShortNumbers.{numbers_left, numbers_met}
use Rattle.wumpus_run.proofs.laws.numbers_stay_within_32_bits.Goals as goal

pub returns-clause-saved : goal.returns-clause-saved
returns-clause-saved c = numbers_saved

pub returns-clause-met : goal.returns-clause-met
returns-clause-met c = numbers_met

pub returns-clause-last : goal.returns-clause-last
returns-clause-last c = numbers_left
