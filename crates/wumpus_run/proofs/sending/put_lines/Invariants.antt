use Rattle.std.proofs.Common.{◌≡◌, ◌++◌, take}
use Rattle.std.specs.List.{flat_map}
use Rattle.wu_script.specs.Replies.{path_line}
use Rattle.wumpus_run.proofs.sending.put_lines.Given as goal

-- the lines of the paths so far were appended
abbrev pub invariant-loop-path : goal.invariant-loop-path
invariant-loop-path l = l.out.items ≡ l.fn.out.items ++ flat_map path_line (take l.path-index l.paths)
