use Rattle.wu_fields.proofs.FieldLemmas.{fields_of-line_of}
use Rattle.wu_fields.proofs.escaping.written_fields_are_read_back.Goals as goal

pub returns : goal.returns
returns c = fields_of-line_of
