use Rattle.std.proofs.Common.{◌≡◌, map, take}
use Rattle.wu_parts.specs.Chains.{addressed}
use Rattle.wu_parts.specs.LeadingBytes.{behind}
use Rattle.wu_parts.specs.LiveLists.{live_lists}
use Rattle.wu_parts.proofs.flushing.cut_to_live.Given as goal

abbrev pub invariant-loop-entry : goal.invariant-loop-entry
invariant-loop-entry l = record {
  low : l.lists.low ≡ l.low;
  lists : l.lists.lists ≡ live_lists l.live (map (addressed l.addressing l.links) (map behind (take l.entry-index l.entries)));
}
