use Rattle.std.proofs.Common.{◌<◌, ◌^◌, take}
use Rattle.std.specs.List.{All}
use Rattle.wu_rank.specs.Scores.{length_of}
use Rattle.wu_rank_tests.proofs.are_short.Given as goal

abbrev pub invariant-loop-unit : goal.invariant-loop-unit
invariant-loop-unit l = All (λ unit. length_of unit.extent < 2 ^ 26) (take l.unit-index l.units)
