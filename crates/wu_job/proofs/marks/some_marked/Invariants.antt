use Rattle.std.proofs.Common.{◌≡◌, false, get_or, take}
use Rattle.std.specs.List.{list_any}
use Rattle.wu_job.proofs.marks.some_marked.Given as goal

-- none of the places so far is marked
abbrev pub invariant-loop-place : goal.invariant-loop-place
invariant-loop-place l = list_any (λ place. get_or l.marks place false) (take l.place-index l.places) ≡ false
