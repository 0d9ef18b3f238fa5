use Rattle.std.proofs.Common.{◌≡◌, ◌-◌, ◌&&◌, take, nat_lt}
use Rattle.std.specs.Prelude.{filter}
use Rattle.wu_solve.specs.Frames.{lies_in_one}
use Rattle.wu_solve.specs.Merging.{is_wanted}
use Rattle.wu_solve.proofs.windows.short_in.Given as goal

abbrev pub invariant-loop-extent : goal.invariant-loop-extent
invariant-loop-extent l =
    l.kept.items
    ≡ filter (λ x. is_wanted l.wanted (nat_lt (x.end - x.start) l.size && lies_in_one l.roomy x)) (take l.extent-index l.extents)
