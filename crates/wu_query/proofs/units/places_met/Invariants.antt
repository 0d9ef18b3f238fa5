use Rattle.std.proofs.Common.{◌≡◌, ℕ, ◌<◌, false, length, take}
use Rattle.std.specs.Prelude.{slice_index_or}
use Rattle.std.specs.List.{list_any}
use Rattle.wu_query.specs.Finding.{is_at_place}
use Rattle.wu_query.proofs.units.places_met.Given as goal

-- those of the units so far are marked
abbrev pub invariant-loop-unit : goal.invariant-loop-unit
invariant-loop-unit l = record {
  len : length l.met.items ≡ l.count;
  met : (place : ℕ) → place < l.count
      → slice_index_or l.met.items place false ≡ list_any (is_at_place place) (take l.unit-index l.units);
}
