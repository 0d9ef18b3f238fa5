use Rattle.std.proofs.Common.{◌≡◌, ◌++◌, drop}
use Rattle.wu_query.specs.Units.{file_units}
use Rattle.wu_query.proofs.units.units_of_files.Given as goal

-- with the units of the frames to come they are all units
abbrev pub invariant-loop-frame : goal.invariant-loop-frame
invariant-loop-frame l = l.units.items ++ file_units (drop l.frame-index l.frames) ≡ file_units l.frames
