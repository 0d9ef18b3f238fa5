use Rattle.std.proofs.Common.{rules}
use Rattle.std.proofs.lemmas.List.Sorted.{IsNonDecreasingBy-from_sort_by_key}
use Rattle.wu_base.specs.declared.addresses.Range.{Range}
use Rattle.wu_text_tests.proofs.terms.frames_counted.Goals as goal

pub files_with-requires-clause-order : goal.files_with-requires-clause-order
files_with-requires-clause-order c =
    rw c.deref-2.ensures.value
    (IsNonDecreasingBy-from_sort_by_key (λ (x : Range). x.start) c.sort_unstable_by_key.new.self.items
    c.sort_unstable_by_key.ensures.sorted (λ a r q k. search rules))
