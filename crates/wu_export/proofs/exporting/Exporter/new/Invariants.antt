use Rattle.std.proofs.Common.{◌≡◌, take}
use Rattle.std.specs.List.{flat_map}
use Rattle.wu_export.proofs.exporting.Exporter.new.Given as goal

abbrev pub invariant-loop-seen : goal.invariant-loop-seen
invariant-loop-seen l = l.paths.items ≡ flat_map (λ seen. seen.paths) (take l.seen-index l.view)
