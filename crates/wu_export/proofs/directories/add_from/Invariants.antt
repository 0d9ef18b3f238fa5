use Rattle.std.proofs.Common.{◌≡◌, ◌-◌, ◌++◌}
use Rattle.std.specs.List.{range_with_len}
use Rattle.wu_export.specs.Exports.{before_slashes}
use Rattle.wu_export.proofs.directories.add_from.Given as goal

abbrev pub invariant-loop-place : goal.invariant-loop-place
invariant-loop-place l = l.found.items ≡ l.fn.found.items ++ before_slashes (range_with_len l.start (l.place - l.start)) l.path
