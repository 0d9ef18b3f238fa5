use Rattle.wu_lists.specs.Tallying.{tally_of}
use Rattle.wu_query.proofs.CountedTerm.{tally_counted}
use Rattle.wu_query.proofs.PassedCauses.{err_from}
use Rattle.wu_query.proofs.ToldPostings.{blocks_of_one, found_told}
use Rattle.wu_query.proofs.counting.count_term.Goals as goal

pub returns-clause-answer : goal.returns-clause-answer
returns-clause-answer g c = λ region alone live s uid is tells.
    let frames = c.args.frames.now in
    let term = c.args.term.now in
    tally_counted region term alone frames c.requires live s uid is c.in_ok-tally.tally
    (found_told (tally_of frames.ranges) c.args.parts.now (g.D.Store.holds c.args.store.now) s frames.ranges term c.in_ok-tally.tally tells
    (rw c.as_slice.ensures at c.in_ok-tally.ensures.tally))

pub returns-clause-blocks : goal.returns-clause-blocks
returns-clause-blocks g c =
    rw (c.as_slice.ensures, blocks_of_one c.args.parts.now c.args.frames.now.ranges c.args.term.now) at c.in_ok-tally.ensures.blocks

pub returns-in_err-tally-clause-cause : goal.returns-in_err-tally-clause-cause
returns-in_err-tally-clause-cause g c =
    err_from _ c.from_residual.result c.in_err-tally.field-0.0 c.from_residual.ensures.1
    (rw (c.as_slice.ensures, blocks_of_one c.args.parts.now c.args.frames.now.ranges c.args.term.now) at c.in_err-tally.ensures.cause)
