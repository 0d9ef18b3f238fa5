use Rattle.std.proofs.Common.{◌∙◌, sym, arith}
use Rattle.std.proofs.lemmas.List.Filters.{FiltersInPlace-all, FiltersInPlace-more_no, FiltersInPlace-more_set}
use Rattle.wu_solve.proofs.framing.lying_in.Goals as goal

pub loop-i-preserved : goal.loop-i-preserved
loop-i-preserved c = elim c.if-lies_in_one.branch [
  | goal.then-lies_in_one w ↦ rw (w.extents-is, w.kept-is)
      (FiltersInPlace-more_set c.loop-i.invariant (omega arith) (sym c.lies_in_one.ensures ∙ w.if-lies_in_one.true) c.index.ensures)
  | goal.else-lies_in_one w ↦ rw (w.extents-is, w.kept-is)
      (FiltersInPlace-more_no c.loop-i.invariant (omega arith) (sym c.lies_in_one.ensures ∙ w.if-lies_in_one.false) c.index.ensures)
]

pub returns : goal.returns
returns c = c.truncate.ensures.items ∙ FiltersInPlace-all c.loop-i.invariant (omega arith)
