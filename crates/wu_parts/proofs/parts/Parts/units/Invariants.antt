use Rattle.std.proofs.Common.{◌≡◌, List}
use Rattle.wu_outside.specs.declared.ranges.ReadRange.{ReadRange}
use Rattle.wu_job.specs.Steps.{adds}
use Rattle.wu_parts.specs.Units.{DoUnits}
use Rattle.wu_parts.proofs.parts.Parts.units.Given as goal

-- so many units were done
abbrev pub invariant-loop : goal.invariant-loop
invariant-loop g l = record {
  units : (read : List ReadRange)
      × (DoUnits l.space.ranges l.counter l.fn.self l.self (g.D.Store.holds l.fn.store, g.D.Store.moments l.fn.store)
      (g.D.Store.holds l.store, g.D.Store.moments l.store) read
      × (g.D.Store.reads l.store ≡ adds read (g.D.Store.reads l.fn.store)));
  calm : g.D.Store.faults l.store ≡ g.D.Store.faults l.fn.store;
}
