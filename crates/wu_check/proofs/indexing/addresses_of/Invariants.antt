use Rattle.std.proofs.Common.{length}
use Rattle.wu_check.proofs.ReadLists.{AreRead}
use Rattle.wu_check.proofs.indexing.addresses_of.Given as goal

-- the blocks before those that are left were read
abbrev pub invariant-loop-block : goal.invariant-loop-block
invariant-loop-block l = AreRead l.directory.low l.directory.high l.bytes l.fn.entry l.entry l.found.items

abbrev pub decreases-loop-block : goal.decreases-loop-block
decreases-loop-block l = length l.entry.blocks
