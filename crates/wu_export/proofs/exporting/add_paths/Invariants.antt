use Rattle.std.proofs.Common.{◌≡◌, ◌++◌, take}
use Rattle.wu_export.proofs.exporting.add_paths.Given as goal

abbrev pub invariant-loop-path : goal.invariant-loop-path
invariant-loop-path l = l.found.items ≡ l.fn.found.items ++ take l.path-index l.paths
