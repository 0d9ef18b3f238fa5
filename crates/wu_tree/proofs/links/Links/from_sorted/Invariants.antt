use Rattle.std.proofs.Common.{length}
use Rattle.wu_tree.proofs.LinkRuns.{AreKept}
use Rattle.wu_tree.proofs.links.Links.from_sorted.Given as goal

abbrev pub invariant-loop-directory : goal.invariant-loop-directory
invariant-loop-directory l = AreKept (λ k. k.items) l.links l.directories.items l.rest

abbrev pub decreases-loop-directory : goal.decreases-loop-directory
decreases-loop-directory l = length l.rest
