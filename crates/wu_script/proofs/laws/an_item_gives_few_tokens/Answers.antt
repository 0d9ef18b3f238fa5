use Rattle.wu_script.proofs.TokenLemmas.{first_tokens, first_uses}
use Rattle.wu_script.proofs.laws.an_item_gives_few_tokens.Goals as goal

pub returns-clause-tokens : goal.returns-clause-tokens
returns-clause-tokens c = first_tokens

pub returns-clause-text : goal.returns-clause-text
returns-clause-text c = first_uses
