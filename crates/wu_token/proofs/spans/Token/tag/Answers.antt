use Rattle.std.proofs.Common.{rules}
use Rattle.wu_token.specs.Places.{tag_at}
use Rattle.wu_token.proofs.spans.Token.tag.Goals as goal

pub returns : goal.returns
unfolding tag_at
returns c = search rules
