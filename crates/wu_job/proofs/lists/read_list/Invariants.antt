use Rattle.std.proofs.Common.{◌≡◌, length}
use Rattle.std.specs.Prelude.{IfSome}
use Rattle.wu_job.proofs.Blocks.{AreRangesRead, AreRead, AreWholeTo, IsReadTo}
use Rattle.wu_job.proofs.lists.read_list.Given as goal

-- the blocks before those that are left were read
abbrev pub invariant-loop-block : goal.invariant-loop-block
invariant-loop-block g l = record {
  held : IfSome (g.D.Store.holds l.fn.store) (λ content.
      AreRead (content.blobs l.source.recorded.blob) l.source.directory.low l.fn.entry l.entry l.found.items);
  whole : IfSome (g.D.Store.holds l.fn.store) (λ content. AreWholeTo content l.source.recorded.blob l.fn.entry l.entry);
  to : IsReadTo l.source.directory.low l.source.directory.high l.fn.entry l.entry l.found.items;
  holds : g.D.Store.holds l.store ≡ g.D.Store.holds l.fn.store;
  still : g.D.Store.moments l.store ≡ g.D.Store.moments l.fn.store;
  reads : AreRangesRead l.source.recorded.blob l.fn.entry l.entry (g.D.Store.reads l.fn.store) (g.D.Store.reads l.store);
  calm : g.D.Store.faults l.store ≡ g.D.Store.faults l.fn.store;
}

abbrev pub decreases-loop-block : goal.decreases-loop-block
decreases-loop-block g l = length l.entry.blocks
