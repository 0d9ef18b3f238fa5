use Rattle.wu_token.proofs.OwnWords.{own_words}
use Rattle.wu_token.proofs.terms.each_word_is_its_own.Goals as goal

pub returns : goal.returns
returns c = own_words
