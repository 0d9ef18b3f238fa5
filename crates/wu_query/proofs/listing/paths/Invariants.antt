use Rattle.std.proofs.Common.{◌≡◌, take}
use Rattle.std.specs.List.{flat_map}
use Rattle.wu_query.proofs.listing.paths.Given as goal

-- the paths of the files so far were put
abbrev pub invariant-loop-place : goal.invariant-loop-place
invariant-loop-place l = l.paths.items ≡ flat_map (λ seen. seen.paths) (take l.place l.view)
