use Rattle.std.proofs.Common.{[], ◌∷◌}
use Rattle.wu_lists.specs.Tallying.{tally_of}
use Rattle.wu_query.proofs.FoundWords.{word_found, word_not_found}
use Rattle.wu_query.proofs.PassedCauses.{cause_at_last, err_from}
use Rattle.wu_query.proofs.ToldPostings.{blocks_of_one, found_told}
use Rattle.wu_query.proofs.terms.put_word.Goals as goal

pub returns-then-tally-eq0-clause-found : goal.returns-then-tally-eq0-clause-found
returns-then-tally-eq0-clause-found g c = λ s tells.
    let frames = c.args.frames.now in
    word_not_found frames.ranges s c.args.word.now c.args.found.now.items c.in_ok-tally.tally
    (found_told (tally_of frames.ranges) c.args.parts.now (g.D.Store.holds c.args.store.now) s frames.ranges c.args.word.now
    c.in_ok-tally.tally tells (rw (c.as_slice.ensures, c.as_slice-2.ensures) at c.in_ok-tally.ensures.tally))
    c.if-tally-eq0.true

pub returns-then-tally-eq0-clause-blocks : goal.returns-then-tally-eq0-clause-blocks
returns-then-tally-eq0-clause-blocks g c =
    rw (c.as_slice.ensures, c.as_slice-2.ensures, blocks_of_one c.args.parts.now c.args.frames.now.ranges c.args.word.now)
    at c.in_ok-tally.ensures.blocks

pub returns-clause-found : goal.returns-clause-found
returns-clause-found g c = λ s tells.
    let frames = c.args.frames.now in
    word_found frames.ranges s c.args.word.now c.args.found.now.items c.in_ok-tally.tally
    (found_told (tally_of frames.ranges) c.args.parts.now (g.D.Store.holds c.args.store.now) s frames.ranges c.args.word.now
    c.in_ok-tally.tally tells (rw (c.as_slice.ensures, c.as_slice-2.ensures) at c.in_ok-tally.ensures.tally))
    c.if-tally-eq0.false c.in_ok-clone.ensures.cases c.in_ok-push.ensures.items

pub returns-clause-blocks : goal.returns-clause-blocks
returns-clause-blocks g c =
    rw (c.as_slice.ensures, c.as_slice-2.ensures, blocks_of_one c.args.parts.now c.args.frames.now.ranges c.args.word.now)
    at c.in_ok-tally.ensures.blocks

pub returns-in_err-tally-clause-cause : goal.returns-in_err-tally-clause-cause
returns-in_err-tally-clause-cause g c =
    err_from _ c.from_residual.result c.in_err-tally.field-0.0 c.from_residual.ensures.1
    (rw (c.as_slice.ensures, c.as_slice-2.ensures, blocks_of_one c.args.parts.now c.args.frames.now.ranges c.args.word.now)
    at c.in_err-tally.ensures.cause)

pub returns-in_err-clone-clause-cause : goal.returns-in_err-clone-clause-cause
returns-in_err-clone-clause-cause g c =
    cause_at_last c.from_residual-in_err-clone.result c.args.parts.now c.args.frames.now.ranges (c.args.word.now ∷ [])
    c.in_ok-tally.ensures.calm
    (rw (c.as_slice.ensures, c.as_slice-2.ensures, blocks_of_one c.args.parts.now c.args.frames.now.ranges c.args.word.now)
    at c.in_ok-tally.ensures.blocks)
    c.from_residual-in_err-clone.ensures.1

pub returns-in_err-push-clause-cause : goal.returns-in_err-push-clause-cause
returns-in_err-push-clause-cause g c =
    cause_at_last c.from_residual-in_err-push.result c.args.parts.now c.args.frames.now.ranges (c.args.word.now ∷ [])
    c.in_ok-tally.ensures.calm
    (rw (c.as_slice.ensures, c.as_slice-2.ensures, blocks_of_one c.args.parts.now c.args.frames.now.ranges c.args.word.now)
    at c.in_ok-tally.ensures.blocks)
    c.from_residual-in_err-push.ensures.1
