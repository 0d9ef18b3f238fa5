use Rattle.std.proofs.Common.{◌≡◌, map, take}
use Rattle.std.specs.Prelude.{All}
use Rattle.std.specs.List.Sorted.{IsStrictlyIncreasing}
use Rattle.wu_query.specs.Units.{list_in}
use Rattle.wu_query.proofs.ranking.lists_for.Given as goal

-- the words so far have their lists
abbrev pub invariant-loop-word : goal.invariant-loop-word
invariant-loop-word l = record {
  lists : l.found.items ≡ map (list_in l.lists) (take l.word-index l.words);
  ascending : All (λ list. IsStrictlyIncreasing list.at) l.found.items;
}
