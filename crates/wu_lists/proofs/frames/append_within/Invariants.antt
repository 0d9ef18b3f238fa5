use Rattle.std.proofs.Common.{◌-◌, ◌^◌, ◌≡◌, ◌++◌, ℕ, List, filter, length}
use Rattle.wu_layout.specs.Postings.{is_live}
use Rattle.wu_lists.specs.Ascending.{AscendBetween, AreInOrder}
use Rattle.wu_lists.proofs.frames.append_within.Given as goal

abbrev pub invariant-loop-left : goal.invariant-loop-left
invariant-loop-left l = record {
  made : l.found.items ++ filter (is_live l.left) l.rest ≡ l.fn.found.items ++ filter (is_live l.frames) l.addresses;
  front : (more : List ℕ) × (l.found.items ≡ l.fn.found.items ++ more);
  ascend : AscendBetween 0 (2 ^ 64 - 1) l.rest;
  order : AreInOrder 0 (2 ^ 64 - 1) l.left;
}

abbrev pub decreases-loop-left : goal.decreases-loop-left
decreases-loop-left l = length l.left
