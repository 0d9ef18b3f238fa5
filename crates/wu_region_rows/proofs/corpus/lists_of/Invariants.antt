use Rattle.std.proofs.Common.{◌≡◌, map, take}
use Rattle.std.specs.List.{AllByRecursion}
use Rattle.std.specs.List.Sorted.{IsStrictlyIncreasing}
use Rattle.wu_base.specs.declared.addresses.TermList.{TermList}
use Rattle.wu_region_rows.proofs.corpus.lists_of.Given as goal

abbrev pub invariant-loop-word : goal.invariant-loop-word
invariant-loop-word l = record {
  terms : map (λ (list : TermList). list.term) l.lists.items ≡ take l.word-index l.words;
  addresses : AllByRecursion (λ (list : TermList). IsStrictlyIncreasing list.at) l.lists.items;
}
