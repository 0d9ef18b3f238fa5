use Rattle.std.proofs.Common.{◌≡◌, length, true}
use Rattle.wu_lists.specs.Walking.{IsWalked}
use Rattle.wu_lists.proofs.lists.Lists.walk_blocks.Given as goal

-- the blocks so far were asked for, as far as frames need them
abbrev pub invariant-loop-block : goal.invariant-loop-block
invariant-loop-block g l = record {
  holds : g.D.Store.holds l.store ≡ g.D.Store.holds l.fn.store;
  moments : g.D.Store.moments l.store ≡ g.D.Store.moments l.fn.store;
  calm : g.D.Store.faults l.store ≡ g.D.Store.faults l.fn.store;
  walked : IsWalked (g.S.AddressSink.gained l.frames) (g.S.AddressSink.wanted ≡ true) l.frames l.left l.blob l.dir.low l.dir.high l.fn.entry l.entry
      (g.D.Store.holds l.fn.store) l.fn.self l.self (g.D.Store.reads l.fn.store) (g.D.Store.reads l.store) l.fn.found l.found;
}

abbrev pub decreases-loop-block : goal.decreases-loop-block
decreases-loop-block g l = length l.entry.blocks
