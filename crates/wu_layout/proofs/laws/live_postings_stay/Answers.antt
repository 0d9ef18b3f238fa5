use Rattle.wu_layout.proofs.Garbage.{flush_keeps_live, save_keeps_live, work_keeps_live}
use Rattle.wu_layout.proofs.laws.live_postings_stay.Goals as goal

pub returns-clause-flush : goal.returns-clause-flush
returns-clause-flush c is_file text_of layout d = (flush_keeps_live is_file text_of layout d, save_keeps_live is_file text_of layout d)

pub returns-clause-work : goal.returns-clause-work
returns-clause-work c = work_keeps_live
