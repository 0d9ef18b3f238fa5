use Rattle.std.proofs.Common.{rules}
use Rattle.wu_token.specs.Places.{word_at}
use Rattle.wu_token.proofs.spans.Token.word.Goals as goal

pub returns : goal.returns
unfolding word_at
returns c = search rules
