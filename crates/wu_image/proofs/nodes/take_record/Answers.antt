use Rattle.wu_image.proofs.UniqueItems.{no_record}
use Rattle.wu_image.proofs.nodes.take_record.Goals as goal

pub returns-in-None-clause-none : goal.returns-in-None-clause-none
returns-in-None-clause-none c file rest h s = no_record _ _ file _ rest c.in-File.is h c.in-None.ensures.none s
