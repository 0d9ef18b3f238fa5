use Rattle.std.proofs.Common.{arith}
use Rattle.wu_part_tests.proofs.ListLemmas.{list_made}
use Rattle.wu_part_tests.proofs.lists.list_of.Goals as goal

pub returns : goal.returns
returns c = (
  list_made _ _ _ _ c.in_ok-from_slice.ensures c.from.ensures c.if-is_empty.ensures c.if-term-gt-WORD_MAX.false c.if-is_empty-2.ensures (omega arith)
      c.in_ok-at.ensures.increasing (rw c.deref.ensures.value at c.if-not-are_addresses.ensures),
  c.in_ok-from_slice.ensures,
)
