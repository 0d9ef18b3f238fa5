use Rattle.std.proofs.Common.{◌≡◌, ◌-◌, take, nat_lt}
use Rattle.std.specs.Prelude.{filter}
use Rattle.wu_solve.specs.Merging.{is_wanted}
use Rattle.wu_solve.proofs.windows.no_longer.Given as goal

abbrev pub invariant-loop-extent : goal.invariant-loop-extent
invariant-loop-extent l =
    l.kept.items ≡ filter (λ x. is_wanted l.wanted (nat_lt (x.end - x.start) l.size)) (take l.extent-index l.extents)
