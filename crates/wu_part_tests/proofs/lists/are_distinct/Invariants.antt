use Rattle.std.proofs.Common.{drop, eqb}
use Rattle.std.specs.List.{IsDistinct}
use Rattle.wu_part_tests.proofs.lists.are_distinct.Given as goal

abbrev pub invariant-loop-place : goal.invariant-loop-place
invariant-loop-place l = IsDistinct eqb (drop l.place l.numbers)
