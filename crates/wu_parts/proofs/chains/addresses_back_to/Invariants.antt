use Rattle.std.proofs.Common.{◌≡◌, ◌++◌, length, reverse}
use Rattle.wu_lists.specs.Ascending.{AscendBetween}
use Rattle.wu_parts.specs.Chains.{places_of}
use Rattle.wu_parts.proofs.Chaining.{from_low}
use Rattle.wu_parts.proofs.chains.addresses_back_to.Given as goal

abbrev pub invariant-loop-left : goal.invariant-loop-left
invariant-loop-left l = record {
  made : from_low l.addressing l.low (places_of l.links l.left) ++ reverse l.found.items
      ≡ from_low l.addressing l.low (places_of l.links l.fn.chain);
  chain : AscendBetween 0 (length l.links) (places_of l.links l.left);
}

abbrev pub decreases-loop-left : goal.decreases-loop-left
decreases-loop-left l = l.left.count
