use Rattle.std.proofs.Common.{◌≡◌, take}
use Rattle.std.specs.Prelude.{filter}
use Rattle.wu_solve.specs.Merging.{is_wanted}
use Rattle.wu_solve.specs.Windows.{holds_window}
use Rattle.wu_solve.proofs.windows.holding_windows.Given as goal

abbrev pub invariant-loop-extent : goal.invariant-loop-extent
invariant-loop-extent l = l.kept.items ≡ filter (λ x. is_wanted l.wanted (holds_window l.size x)) (take l.extent-index l.extents)
