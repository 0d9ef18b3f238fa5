use Rattle.std.proofs.Common.{◌≡◌, filter}
use Rattle.wu_frames.specs.Changes.{is_spared}
use Rattle.wu_frames.proofs.Turns.{IsTurned}
use Rattle.wu_frames.proofs.walks.forget_changed.Given as goal

abbrev pub invariant-loop : goal.invariant-loop
invariant-loop l = record {
  turned :
      IsTurned l.fn.kept.entries l.kept.entries l.counter
      (λ gone done. done ≡ filter (λ entry. is_spared l.tree l.change entry.0) gone);
  cap : l.kept.cap ≡ l.fn.kept.cap;
}
