use Rattle.std.proofs.Common.{List, take}
use Rattle.wu_base.specs.declared.addresses.Range.{Range}
use Rattle.wu_base.specs.declared.addresses.TermList.{TermList}
use Rattle.wu_check.specs.Numbered.{AreNumbered, HasPlaces, with_list}
use Rattle.wu_check.proofs.numbering.Numbering.add.Given as goal

-- the list is numbered as far as the addresses so far
abbrev pub invariant-loop-address : goal.invariant-loop-address
invariant-loop-address l = record {
  places : HasPlaces l.self;
  numbered : (ranges : List Range) (lists : List TermList) → AreNumbered ranges lists l.fn.self
      → AreNumbered ranges (with_list lists l.fn.term (take l.address-index l.addresses)) l.self;
}
