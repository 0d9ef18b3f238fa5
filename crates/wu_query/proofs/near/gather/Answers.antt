use Rattle.std.proofs.Common.{[], ◌∷◌, ℕ, List, ap₂, filter}
use Rattle.wu_base.specs.declared.addresses.TermList.{TermList}
use Rattle.wu_layout.specs.Postings.{is_live}
use Rattle.wu_query.proofs.PassedCauses.{cause_at_last, err_from}
use Rattle.wu_query.proofs.ToldPostings.{blocks_of_one, found_told}
use Rattle.wu_query.proofs.near.gather.Goals as goal

abbrev made : List ℕ → List ℕ → TermList
made term found = record { term = term; at = found }

pub returns-clause-list : goal.returns-clause-list
returns-clause-list g c = λ s tells.
    let ranges = c.args.frames.now.ranges in
    ap₂ made c.in_ok-clone.ensures.cases
    (found_told (λ (found : List ℕ). found) c.args.parts.now (g.D.Store.holds c.args.store.now) s ranges c.args.term.now
    (filter (is_live ranges) c.in_ok-at.at) tells
    (rw (c.as_slice.ensures, c.as_slice-2.ensures) at c.in_ok-at.ensures.addresses))

pub returns-clause-blocks : goal.returns-clause-blocks
returns-clause-blocks g c =
    rw (c.as_slice.ensures, c.as_slice-2.ensures, blocks_of_one c.args.parts.now c.args.frames.now.ranges c.args.term.now)
    at c.in_ok-at.ensures.blocks

pub returns-in_err-at-clause-cause : goal.returns-in_err-at-clause-cause
returns-in_err-at-clause-cause g c =
    let parts = c.args.parts.now in
    let ranges = c.args.frames.now.ranges in
    err_from _ c.from_residual.result c.in_err-at.field-0.0 c.from_residual.ensures.1
    (rw (c.as_slice.ensures, c.as_slice-2.ensures, blocks_of_one parts ranges c.args.term.now) at c.in_err-at.ensures.cause)

pub returns-in_err-clone-clause-cause : goal.returns-in_err-clone-clause-cause
returns-in_err-clone-clause-cause g c =
    let parts = c.args.parts.now in
    let ranges = c.args.frames.now.ranges in
    cause_at_last c.from_residual-in_err-clone.result parts ranges (c.args.term.now ∷ []) c.in_ok-at.ensures.calm
    (rw (c.as_slice.ensures, c.as_slice-2.ensures, blocks_of_one parts ranges c.args.term.now) at c.in_ok-at.ensures.blocks)
    c.from_residual-in_err-clone.ensures.1
