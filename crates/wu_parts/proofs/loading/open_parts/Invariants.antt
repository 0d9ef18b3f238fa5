use Rattle.std.proofs.Common.{◌≡◌, take}
use Rattle.wu_parts.specs.Loading.{ReadsFronts}
use Rattle.wu_parts.specs.OpenedParts.{ArePartsOpened}
use Rattle.wu_parts.proofs.loading.open_parts.Given as goal

abbrev pub invariant-loop-recorded : goal.invariant-loop-recorded
invariant-loop-recorded g l = record {
  holds : g.D.Store.holds l.store ≡ g.D.Store.holds l.fn.store;
  moments : g.D.Store.moments l.store ≡ g.D.Store.moments l.fn.store;
  calm : g.D.Store.faults l.store ≡ g.D.Store.faults l.fn.store;
  opened : ArePartsOpened (g.D.Store.holds l.fn.store) (take l.recorded-index l.records) (g.D.Store.reads l.fn.store)
      (g.D.Store.reads l.store) l.parts.items;
  fronts : ReadsFronts (g.D.Store.holds l.fn.store) l.records (g.D.Store.reads l.fn.store) (g.D.Store.reads l.store);
}
