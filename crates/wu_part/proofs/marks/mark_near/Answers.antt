use Rattle.std.proofs.Common.{inr, arith}
use Rattle.wu_part.proofs.marks.mark_near.Goals as goal

pub returns-then-mark-number-clause-found : goal.returns-then-mark-number-clause-found
returns-then-mark-number-clause-found c = inr (omega arith, c.requires, c.mark_at-mark.ensures, c.if-mark-number.true)
