use Rattle.wu_solve.proofs.Results.{hits_ascend}
use Rattle.wu_solve.proofs.laws.extents_ascend.Goals as goal

pub returns : goal.returns
returns c = hits_ascend
