use Rattle.std.proofs.Common.{◌≡◌, take, reverse}
use Rattle.std.specs.Option.{option_copied}
use Rattle.wu_outside.specs.Logs.{content_of}
use Rattle.wu_outside.proofs.logs.find_root.Given as goal

-- what was found is the root after the entries so far
abbrev pub invariant-loop-entry : goal.invariant-loop-entry
invariant-loop-entry l = option_copied l.found ≡ (content_of (reverse (take l.entry-index l.log))).root
