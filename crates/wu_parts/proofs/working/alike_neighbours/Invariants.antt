use Rattle.std.proofs.Common.{◌≡◌, ◌+◌, drop, option_map}
use Rattle.wu_parts.proofs.NextJobs.{alike_of}
use Rattle.wu_parts.proofs.working.alike_neighbours.Given as goal

-- of the parts before the place none has the generation of its right neighbour
abbrev pub invariant-loop-place : goal.invariant-loop-place
invariant-loop-place l = alike_of l.parts ≡ option_map (λ k. l.place + k) (alike_of (drop l.place l.parts))
