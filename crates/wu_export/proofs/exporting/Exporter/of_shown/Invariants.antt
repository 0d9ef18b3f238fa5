use Rattle.std.proofs.Common.{◌≡◌, take}
use Rattle.wu_export.specs.Exports.{paths_in}
use Rattle.wu_export.proofs.exporting.Exporter.of_shown.Given as goal

abbrev pub invariant-loop-shown : goal.invariant-loop-shown
invariant-loop-shown l = l.paths.items ≡ paths_in (take l.shown-index l.view)
