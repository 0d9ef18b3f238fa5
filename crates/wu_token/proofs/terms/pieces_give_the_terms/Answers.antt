use Rattle.wu_token.proofs.PlacesLemmas.{tokens_of-pieces}
use Rattle.wu_token.proofs.terms.pieces_give_the_terms.Goals as goal

pub returns : goal.returns
returns c = tokens_of-pieces
