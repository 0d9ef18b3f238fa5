use Rattle.std.proofs.Common.{arith}
use Rattle.wu_script.proofs.TokenLemmas.{script_tokens}
use Rattle.wu_script.proofs.laws.a_script_gives_few_tokens.Goals as goal

pub returns-clause-tokens : goal.returns-clause-tokens
returns-clause-tokens c = script_tokens

pub returns-clause-addresses : goal.returns-clause-addresses
returns-clause-addresses c = λ read bytes few. omega (arith, script_tokens read bytes)
