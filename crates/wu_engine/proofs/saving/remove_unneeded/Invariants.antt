use Rattle.std.proofs.Common.{◌≡◌, ◌++◌, drop}
use Rattle.std.specs.Prelude.{Option}
use Rattle.wu_outside.specs.Content.{Content}
use Rattle.wu_outside.specs.Crash.{Moments}
use Rattle.wu_engine.specs.Saving.{checkpoint_blob}
use Rattle.wu_engine.specs.SavedStores.{SomeDone, all_done, remove_blob, try_removal}
use Rattle.wu_engine.proofs.saving.remove_unneeded.Given as goal

-- with the blobs to come all are removed
abbrev pub invariant-loop-blob : goal.invariant-loop-blob
invariant-loop-blob g l = record {
  removed : all_done remove_blob (drop l.blob-index l.stale ++ checkpoint_blob l.checkpoint) (g.D.Store.holds l.store)
      ≡ all_done remove_blob (l.stale ++ checkpoint_blob l.checkpoint) (g.D.Store.holds l.fn.store);
  settled : all_done try_removal (drop l.blob-index l.stale ++ checkpoint_blob l.checkpoint) (g.D.Store.moments l.store)
      ≡ all_done try_removal (l.stale ++ checkpoint_blob l.checkpoint) (g.D.Store.moments l.fn.store);
  some : (after : Option Content)
      → SomeDone remove_blob (drop l.blob-index l.stale ++ checkpoint_blob l.checkpoint) (g.D.Store.holds l.store) after
      → SomeDone remove_blob (l.stale ++ checkpoint_blob l.checkpoint) (g.D.Store.holds l.fn.store) after;
  tried : (after : Option Moments)
      → SomeDone try_removal (drop l.blob-index l.stale ++ checkpoint_blob l.checkpoint) (g.D.Store.moments l.store) after
      → SomeDone try_removal (l.stale ++ checkpoint_blob l.checkpoint) (g.D.Store.moments l.fn.store) after;
  reads : g.D.Store.reads l.store ≡ g.D.Store.reads l.fn.store;
  calm : g.D.Store.faults l.store ≡ g.D.Store.faults l.fn.store;
}
