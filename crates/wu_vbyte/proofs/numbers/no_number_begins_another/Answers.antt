use Rattle.wu_vbyte.proofs.NumberLemmas.{one_number}
use Rattle.wu_vbyte.proofs.numbers.no_number_begins_another.Goals as goal

pub returns : goal.returns
returns c = one_number
