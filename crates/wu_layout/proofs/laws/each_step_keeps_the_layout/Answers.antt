use Rattle.wu_layout.proofs.Updates.{first_is_layout, layout_after_release, layout_after_place}
use Rattle.wu_layout.proofs.Flushes.{layout_after_flush, layout_after_full, layout_after_save, layout_after_rest}
use Rattle.wu_layout.proofs.Units.{layout_after_work}
use Rattle.wu_layout.proofs.laws.each_step_keeps_the_layout.Goals as goal

pub returns-clause-first : goal.returns-clause-first
returns-clause-first c = first_is_layout

pub returns-clause-release : goal.returns-clause-release
returns-clause-release c = layout_after_release

pub returns-clause-place : goal.returns-clause-place
returns-clause-place c = layout_after_place

pub returns-clause-flush : goal.returns-clause-flush
returns-clause-flush c is_file text_of flush_at layout d =
    (layout_after_flush is_file text_of layout d, layout_after_full is_file text_of flush_at layout d)

pub returns-clause-work : goal.returns-clause-work
returns-clause-work c = layout_after_work

pub returns-clause-save : goal.returns-clause-save
returns-clause-save c is_file text_of layout d = (layout_after_save is_file text_of layout d, layout_after_rest is_file text_of layout d)
