use Rattle.std.proofs.Common.{◌≡◌, ◌*◌, ◌≤◌, ◌^◌, take}
use Rattle.wu_rank.specs.Scores.{total_length}
use Rattle.wu_rank.proofs.counting.summed_length.Given as goal

abbrev pub invariant-loop-unit : goal.invariant-loop-unit
invariant-loop-unit l = record {
  so_far : l.sum ≡ total_length (take l.unit-index l.units);
  small : l.sum ≤ l.unit-index * 2 ^ 26;
}
