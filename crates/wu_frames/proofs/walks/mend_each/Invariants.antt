use Rattle.std.proofs.Common.{◌≡◌}
use Rattle.wu_frames.specs.Mending.{IsCacheAfterMove}
use Rattle.wu_frames.proofs.Turns.{IsTurned}
use Rattle.wu_frames.proofs.walks.mend_each.Given as goal

abbrev pub invariant-loop : goal.invariant-loop
invariant-loop l = record {
  turned : IsTurned l.fn.kept.entries l.kept.entries l.counter (IsCacheAfterMove l.ino l.old l.new);
  cap : l.kept.cap ≡ l.fn.kept.cap;
}
