use Rattle.std.proofs.Common.{◌≡◌, ◌++◌, map, take}
use Rattle.wu_engine.proofs.reindexing.retire_all.Given as goal

abbrev pub invariant-loop-part : goal.invariant-loop-part
invariant-loop-part l =
    l.parts ≡ record l.fn.parts { stale = l.fn.parts.stale ++ map (λ part. part.blob) (take l.part-index l.unneeded) }
