use Rattle.std.proofs.Common.{◌≡◌, ◌++◌, map}
use Rattle.std.specs.List.{AllByRecursion}
use Rattle.wu_parts.specs.Chains.{chained}
use Rattle.wu_parts.specs.LeadingBytes.{IsNumbered, behind}
use Rattle.wu_parts.proofs.flushing.in_map_order.Given as goal

abbrev pub invariant-loop-term : goal.invariant-loop-term
invariant-loop-term l = record {
  entries : map behind l.entries.items ++ map chained l.term-iterator ≡ map chained l.chains.entries;
  numbers : AllByRecursion IsNumbered l.entries.items;
}
