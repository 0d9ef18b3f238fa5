use Rattle.std.proofs.Common.{◌-◌, ◌^◌, ◌≡◌, ◌++◌, filter, length}
use Rattle.wu_layout.specs.Postings.{is_live}
use Rattle.wu_lists.specs.Ascending.{AscendBetween, AreInOrder}
use Rattle.wu_lists.specs.Gathering.{AreCopied, addresses_in}
use Rattle.wu_lists.proofs.gathering.put_blocks.Given as goal

-- the rest of the addresses is left to the frames that are left
abbrev pub invariant-loop-rest : goal.invariant-loop-rest
invariant-loop-rest l = record {
  made : l.found.items ++ filter (is_live l.left) (addresses_in l.bytes l.rest)
      ≡ l.fn.found.items ++ filter (is_live l.frames) (addresses_in l.bytes l.blocks);
  copied : AreCopied l.bytes l.rest;
  ascend : AscendBetween 0 (2 ^ 64 - 1) (addresses_in l.bytes l.rest);
  order : AreInOrder 0 (2 ^ 64 - 1) l.left;
}

abbrev pub decreases-loop-rest : goal.decreases-loop-rest
decreases-loop-rest l = length l.rest
