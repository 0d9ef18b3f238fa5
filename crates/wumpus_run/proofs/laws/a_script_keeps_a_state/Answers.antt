use Rattle.wumpus_run.proofs.StateLemmas.{left_state, met_states}
use Rattle.wumpus_run.proofs.laws.a_script_keeps_a_state.Goals as goal

pub returns-clause-met : goal.returns-clause-met
returns-clause-met c = met_states

pub returns-clause-last : goal.returns-clause-last
returns-clause-last c = left_state
