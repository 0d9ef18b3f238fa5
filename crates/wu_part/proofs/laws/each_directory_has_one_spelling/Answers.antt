use Rattle.wu_part.proofs.LawLemmas.{directory_code, same_directory}
use Rattle.wu_part.proofs.laws.each_directory_has_one_spelling.Goals as goal

pub returns-clause-spelling : goal.returns-clause-spelling
returns-clause-spelling c d code other s t = directory_code d code other s t

pub returns-clause-directory : goal.returns-clause-directory
returns-clause-directory c d e code s t size = same_directory d e code s t size
