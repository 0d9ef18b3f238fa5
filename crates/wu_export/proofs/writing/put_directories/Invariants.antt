use Rattle.std.proofs.Common.{◌≡◌, ◌++◌, map, take}
use Rattle.wu_export.specs.Exports.{commands_of, directory_entry}
use Rattle.wu_export.proofs.writing.put_directories.Given as goal

abbrev pub invariant-loop-path : goal.invariant-loop-path
invariant-loop-path l =
    l.out.items ≡ l.fn.out.items ++ commands_of (map (directory_entry l.directories) (take l.path-index l.path-items))
