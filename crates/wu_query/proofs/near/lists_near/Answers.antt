use Rattle.wu_gcl.specs.Regions.{region_of}
use Rattle.wu_query.specs.Units.{found_in}
use Rattle.wu_query.proofs.PassedCauses.{cause_at_last, cause_at_once}
use Rattle.wu_query.proofs.near.lists_near.Goals as goal

pub returns-in_err-needed-clause-cause : goal.returns-in_err-needed-clause-cause
returns-in_err-needed-clause-cause g c =
    cause_at_once c.from_residual.result c.args.parts.now c.args.frames.now.ranges c.args.terms.now _ _ _ c.from_residual.ensures.1

pub returns-in_err-lists_for-clause-cause : goal.returns-in_err-lists_for-clause-cause
returns-in_err-lists_for-clause-cause g c =
    cause_at_last c.from_residual-in_err-lists_for.result c.args.parts.now c.args.frames.now.ranges c.args.terms.now
    c.in_ok-gathered.ensures.store.calm c.in_ok-gathered.ensures.blocks c.from_residual-in_err-lists_for.ensures.1

pub returns-clause-lists : goal.returns-clause-lists
returns-clause-lists g c = λ s tells.
    rw c.as_slice.ensures at
    (c.in_ok-lists_for.ensures.lists (region_of c.args.expr.now) (found_in c.args.frames.now.ranges s) c.args.terms.now
    (λ term has. (c.in_ok-needed.ensures.members term).0 (rw c.deref-2.ensures.value at has))
    (rw (c.as_slice.ensures, c.deref-3.ensures.value) (c.in_ok-gathered.ensures.lists s tells)))
