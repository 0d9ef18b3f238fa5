use Rattle.wu_gcl.proofs.Existence.{each_text_is_read}
use Rattle.wu_gcl.proofs.reading.each_text_is_read.Goals as goal

pub returns : goal.returns
returns c = each_text_is_read
