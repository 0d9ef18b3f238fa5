use Rattle.std.specs.List.{All}
use Rattle.wu_solve.specs.Solving.{IsFrame}
use Rattle.wu_region_rows.proofs.corpus.frames_of.Given as goal

abbrev pub invariant-loop-number : goal.invariant-loop-number
invariant-loop-number l = All IsFrame l.frames.items
