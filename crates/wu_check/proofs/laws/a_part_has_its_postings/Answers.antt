use Rattle.wu_check.proofs.SoundPostings.{part_of_postings}
use Rattle.wu_check.proofs.laws.a_part_has_its_postings.Goals as goal

pub returns : goal.returns
returns c content files recorded sound long = part_of_postings content files recorded sound long
