use Rattle.wu_engine.proofs.FlushedStates.{flushed_kept, rises-flush}
use Rattle.wu_engine.proofs.KeptStates.{blob_rises, first_is_state, flushes_rise, next_rises, state_kept}
use Rattle.wu_engine.proofs.WorkedStates.{worked, worked_kept}
use Rattle.wu_engine.proofs.laws.each_event_keeps_a_state.Goals as goal

pub returns-clause-first : goal.returns-clause-first
returns-clause-first c = first_is_state

pub returns-clause-step : goal.returns-clause-step
returns-clause-step c = state_kept

pub returns-clause-next : goal.returns-clause-next
returns-clause-next c = next_rises

pub returns-clause-next_blob : goal.returns-clause-next_blob
returns-clause-next_blob c = blob_rises

pub returns-clause-flushes : goal.returns-clause-flushes
returns-clause-flushes c = flushes_rise

pub returns-clause-flush : goal.returns-clause-flush
returns-clause-flush c = flushed_kept

pub returns-clause-flush_takes : goal.returns-clause-flush_takes
returns-clause-flush_takes c s = (rises-flush s.layout).next

pub returns-clause-flush_draws : goal.returns-clause-flush_draws
returns-clause-flush_draws c s = (rises-flush s.layout).blob

pub returns-clause-flush_counts : goal.returns-clause-flush_counts
returns-clause-flush_counts c s = (rises-flush s.layout).flushed

pub returns-clause-work : goal.returns-clause-work
returns-clause-work c = worked_kept

pub returns-clause-work_takes : goal.returns-clause-work_takes
returns-clause-work_takes c n s = (worked n s.layout).next

pub returns-clause-work_draws : goal.returns-clause-work_draws
returns-clause-work_draws c n s = (worked n s.layout).most

pub returns-clause-work_counts : goal.returns-clause-work_counts
returns-clause-work_counts c n s = (worked n s.layout).flushes
