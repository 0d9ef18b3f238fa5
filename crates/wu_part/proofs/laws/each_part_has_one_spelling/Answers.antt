use Rattle.wu_part.proofs.LawLemmas.{same_part}
use Rattle.wu_part.proofs.SpellingLemmas.{part_code}
use Rattle.wu_part.proofs.laws.each_part_has_one_spelling.Goals as goal

pub returns-clause-spelling : goal.returns-clause-spelling
returns-clause-spelling c d e lists blob another s t generation = part_code d e lists blob another s t generation

pub returns-clause-part : goal.returns-clause-part
returns-clause-part c d e lists others blob s t = same_part d e lists others blob s t
