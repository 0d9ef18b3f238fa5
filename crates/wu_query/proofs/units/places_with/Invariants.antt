use Rattle.std.proofs.Common.{◌≡◌, ◌<◌, ◌++◌, drop, length}
use Rattle.std.specs.List.{AllByRecursion}
use Rattle.wu_query.specs.Finding.{files_listed, with_units}
use Rattle.wu_query.proofs.units.places_with.Given as goal

-- with those of the files to come they are all that have one
abbrev pub invariant-loop-place : goal.invariant-loop-place
invariant-loop-place l = record {
  files : files_listed l.places.items l.view ++ with_units l.units l.place (drop l.place l.view) ≡ with_units l.units 0 l.view;
  within : AllByRecursion (λ place. place < length l.view) l.places.items;
}
