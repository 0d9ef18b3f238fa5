use Rattle.wu_token.proofs.WordLemmas.{word_of-folded}
use Rattle.wu_token.proofs.lowered.Word.by_folding.Goals as goal

pub returns : goal.returns
returns c = word_of-folded c.args.run.now _ _ _ c.text_at_front-text.ensures c.push_folded.ensures c.push_lowered.ensures
