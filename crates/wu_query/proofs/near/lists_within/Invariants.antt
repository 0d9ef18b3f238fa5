use Rattle.std.proofs.Common.{◌≡◌, map, take}
use Rattle.std.specs.Prelude.{All}
use Rattle.std.specs.List.Sorted.{IsStrictlyIncreasing}
use Rattle.wu_query.specs.Near.{cut_to}
use Rattle.wu_query.proofs.near.lists_within.Given as goal

-- the terms so far have their lists
abbrev pub invariant-loop-one : goal.invariant-loop-one
invariant-loop-one l = record {
  lists : l.lists.items ≡ map (cut_to l.frames) (take l.one-index l.gathered);
  ascending : All (λ list. IsStrictlyIncreasing list.at) l.lists.items;
}
