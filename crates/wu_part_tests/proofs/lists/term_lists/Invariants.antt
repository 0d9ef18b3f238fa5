use Rattle.std.proofs.Common.{◌≡◌, map, take}
use Rattle.std.specs.List.{AllByRecursion}
use Rattle.wu_part.specs.Parts.{IsList}
use Rattle.wu_part_tests.proofs.lists.term_lists.Given as goal

abbrev pub invariant-loop-place : goal.invariant-loop-place
invariant-loop-place l = record {
  are : AllByRecursion IsList l.lists.items;
  terms : map (λ list. list.term) l.lists.items ≡ take l.place l.terms;
}
