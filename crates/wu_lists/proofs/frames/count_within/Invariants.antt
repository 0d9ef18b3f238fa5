use Rattle.std.proofs.Common.{◌-◌, ◌^◌, ◌≡◌, filter, length}
use Rattle.wu_layout.specs.Postings.{is_live}
use Rattle.wu_lists.specs.Ascending.{AscendBetween, AreInOrder}
use Rattle.wu_lists.specs.Gaining.{tally_on}
use Rattle.wu_lists.proofs.frames.count_within.Given as goal

abbrev pub invariant-loop-left : goal.invariant-loop-left
invariant-loop-left l = record {
  counted : tally_on l.left l.tally (filter (is_live l.left) l.rest)
      ≡ tally_on l.frames l.fn.tally (filter (is_live l.frames) l.addresses);
  ascend : AscendBetween 0 (2 ^ 64 - 1) l.rest;
  order : AreInOrder 0 (2 ^ 64 - 1) l.left;
}

abbrev pub decreases-loop-left : goal.decreases-loop-left
decreases-loop-left l = length l.left
