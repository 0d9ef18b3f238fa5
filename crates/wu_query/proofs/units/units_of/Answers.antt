use Rattle.std.proofs.Common.{subst}
use Rattle.wu_base.specs.Ranges.{AreApart}
use Rattle.wu_query.proofs.AnswerLemmas.{if_ok}
use Rattle.wu_query.proofs.UnitLemmas.{ends_fit, units_searched}
use Rattle.wu_query.proofs.units.units_of.Goals as goal

pub placed-requires-clause-ends : goal.placed-requires-clause-ends
placed-requires-clause-ends c = rw c.as_slice.ensures (ends_fit c.args.frames.now c.requires)

pub placed-requires-clause-apart : goal.placed-requires-clause-apart
placed-requires-clause-apart c =
    let frames = c.args.frames.now in
    rw c.as_slice.ensures (subst AreApart c.requires.of_frames c.requires.apart)

pub returns : goal.returns
returns c =
    if_ok c.placed.result c.placed.ensures
    (λ units put. λ region lists found.
    units_searched region c.args.frames.now c.requires lists c.args.extents.now units.items found (rw c.as_slice.ensures at put))
