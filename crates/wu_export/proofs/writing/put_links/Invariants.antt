use Rattle.std.proofs.Common.{◌≡◌, ◌++◌, map, take}
use Rattle.wu_export.specs.Exports.{commands_of, link_entry}
use Rattle.wu_export.proofs.writing.put_links.Given as goal

abbrev pub invariant-loop-path : goal.invariant-loop-path
invariant-loop-path l = l.out.items ≡ l.fn.out.items ++ commands_of (map (link_entry l.directories l.number) (take l.path-index l.paths))
