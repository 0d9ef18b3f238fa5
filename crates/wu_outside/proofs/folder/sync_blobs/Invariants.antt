use Rattle.std.proofs.Common.{◌≡◌}
use Rattle.wu_outside.proofs.folder.sync_blobs.Given as goal

-- no fault so far
abbrev pub invariant-loop-blob : goal.invariant-loop-blob
invariant-loop-blob g l = record {
  can : (goal.iterator-loop-blob g).can_next l.blob-iterator;
  ends : (goal.iterator-loop-blob g).is_finite l.blob-iterator;
  calm : l.failures.count ≡ l.fn.failures.count;
}
