use Rattle.std.proofs.Common.{◌∙◌, refl, arith}
use Rattle.wu_tree.proofs.DirectoryHeights.{there_again}
use Rattle.wu_tree.proofs.heights.raise_over.Goals as goal

pub loop-inodes-init : goal.loop-inodes-init
loop-inodes-init c = (refl, c.requires.heights)

pub raise-requires-clause-there : goal.raise-requires-clause-there
raise-requires-clause-there c =
    there_again c.args.inodes.now.entries c.loop-inodes.inodes.entries c.loop-inodes.invariant.0 c.args.directory c.requires.there

pub raise-requires-clause-heights : goal.raise-requires-clause-heights
raise-requires-clause-heights c = c.loop-inodes.invariant.1

pub loop-inodes-smaller : goal.loop-inodes-smaller
loop-inodes-smaller c = omega (arith, c.raise.ensures.raised)

pub loop-inodes-preserved : goal.loop-inodes-preserved
loop-inodes-preserved c = (c.raise.ensures.nodes ∙ c.loop-inodes.invariant.0, c.raise.ensures.heights)

pub returns-clause-nodes : goal.returns-clause-nodes
returns-clause-nodes c = c.loop-inodes.invariant.0

pub returns-clause-heights : goal.returns-clause-heights
returns-clause-heights c = c.loop-inodes.invariant.1
