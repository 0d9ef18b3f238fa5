use Rattle.std.proofs.Common.{take}
use Rattle.wu_parts.specs.Candidates.{GainsCandidates}
use Rattle.wu_parts.proofs.MoreCandidates.{listed_in}
use Rattle.wu_parts.proofs.candidates.add_directories.Given as goal

-- the terms of the directories so far were added
abbrev pub invariant-loop-part : goal.invariant-loop-part
invariant-loop-part l = GainsCandidates (listed_in (take l.part-index l.parts)) l.fn.words l.words
