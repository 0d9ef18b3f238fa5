use Rattle.std.proofs.Common.{rules}
use Rattle.wu_solve.proofs.first_extents.ends_by.Goals as goal

pub returns : goal.returns
returns c = search rules
