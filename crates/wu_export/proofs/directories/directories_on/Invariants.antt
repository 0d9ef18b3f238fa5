use Rattle.std.proofs.Common.{take}
use Rattle.wu_export.proofs.FoundDirectories.{IsFound}
use Rattle.wu_export.proofs.directories.directories_on.Given as goal

abbrev pub invariant-loop-file : goal.invariant-loop-file
invariant-loop-file l = IsFound (take l.file-index l.files) l.found.items l.before
