use Rattle.wu_solve.proofs.Needing.{none_without}
use Rattle.wu_solve.proofs.laws.needed_terms_stand.Goals as goal

pub returns : goal.returns
returns c = none_without
