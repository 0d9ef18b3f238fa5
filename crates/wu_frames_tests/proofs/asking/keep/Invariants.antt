use Rattle.wu_frames.specs.UserFrames.{CacheMatchesTree}
use Rattle.wu_frames_tests.proofs.asking.keep.Given as goal

abbrev pub invariant-loop-uid : goal.invariant-loop-uid
invariant-loop-uid l = CacheMatchesTree l.tree l.space.ranges l.cache
