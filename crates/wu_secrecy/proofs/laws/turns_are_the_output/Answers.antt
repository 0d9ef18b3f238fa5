use Rattle.wu_secrecy.proofs.TurnLemmas.{output_of-turns}
use Rattle.wu_secrecy.proofs.laws.turns_are_the_output.Goals as goal

pub returns : goal.returns
returns c = output_of-turns
