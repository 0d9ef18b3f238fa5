use Rattle.wu_frames.specs.UserFrames.{CacheMatchesTree}
use Rattle.wu_frames_tests.proofs.asking.agreed.Given as goal

abbrev pub invariant-loop-time : goal.invariant-loop-time
invariant-loop-time l = CacheMatchesTree l.tree l.space.ranges l.cache
