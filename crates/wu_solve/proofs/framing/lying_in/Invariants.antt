use Rattle.std.proofs.lemmas.List.Filters.{FiltersInPlace}
use Rattle.wu_solve.specs.Frames.{lies_in_one}
use Rattle.wu_solve.proofs.framing.lying_in.Given as goal

abbrev pub invariant-loop-i : goal.invariant-loop-i
invariant-loop-i l = FiltersInPlace (lies_in_one l.frames) l.fn.extents.items l.extents.items l.kept l.i
