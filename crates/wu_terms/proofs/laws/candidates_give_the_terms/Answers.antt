use Rattle.wu_terms.proofs.TextTerms.{gives_the_terms}
use Rattle.wu_terms.proofs.laws.candidates_give_the_terms.Goals as goal

pub returns : goal.returns
returns c = gives_the_terms
