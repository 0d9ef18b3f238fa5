use Rattle.std.proofs.Common.{◌≡◌, drop, true}
use Rattle.wu_parts.proofs.PartTurns.{GainsTo, Leads}
use Rattle.wu_parts.proofs.reading.walk_parts.Given as goal

abbrev pub invariant-loop-part : goal.invariant-loop-part
invariant-loop-part g l = record {
  holds : g.D.Store.holds l.store ≡ g.D.Store.holds l.fn.store;
  moments : g.D.Store.moments l.store ≡ g.D.Store.moments l.fn.store;
  calm : g.D.Store.faults l.store ≡ g.D.Store.faults l.fn.store;
  leads : Leads l.parts (drop l.part-index l.parts) l.term l.frames (g.D.Store.holds l.fn.store) l.fn.lists l.lists
      (g.D.Store.reads l.fn.store) (g.D.Store.reads l.store);
  gains : g.S.AddressSink.wanted ≡ true → GainsTo (g.S.AddressSink.gained l.frames) l.parts (drop l.part-index l.parts) l.term l.frames
      (g.D.Store.holds l.fn.store) l.fn.lists l.lists l.fn.found l.found;
}
