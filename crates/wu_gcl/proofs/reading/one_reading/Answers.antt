use Rattle.wu_gcl.proofs.Uniqueness.{one_reading}
use Rattle.wu_gcl.proofs.reading.one_reading.Goals as goal

pub returns : goal.returns
returns c = one_reading
