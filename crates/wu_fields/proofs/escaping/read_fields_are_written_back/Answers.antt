use Rattle.wu_fields.proofs.SpellingLemmas.{line_of-fields_of}
use Rattle.wu_fields.proofs.escaping.read_fields_are_written_back.Goals as goal

pub returns : goal.returns
returns c = line_of-fields_of
