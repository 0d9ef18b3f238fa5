use Rattle.std.proofs.Common.{◌≡◌, ◌+◌, length, drop}
use Rattle.wu_engine.specs.Listing.{paths_of}
use Rattle.wu_engine.proofs.listing.count_paths.Given as goal

-- with the paths of the files to come there are as many as all files have
abbrev pub invariant-loop-place : goal.invariant-loop-place
invariant-loop-place l = l.count + length (paths_of (drop l.place l.view)) ≡ length (paths_of l.view)
