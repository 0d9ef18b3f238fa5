use Rattle.std.proofs.Common.{ℕ, List, subst}
use Rattle.wu_solve.specs.Addresses.{stands_by}
use Rattle.wu_cursor.specs.Places.{HasNoneTo, IsLastPlace}
use Rattle.wu_cursor.proofs.Leaves.{last_tag, no_tag_back}
use Rattle.wu_cursor.proofs.operands.last_tag.Goals as goal

pub returns-in_err-place : goal.returns-in_err-place
returns-in_err-place c =
    rw c.from_residual.ensures
    (no_tag_back c.args.tag (stands_by c.args.lists.now c.args.frame.start) c.args.frame.len c.args.to
    (subst (λ (term : List ℕ). HasNoneTo c.args.frame.len (stands_by c.args.lists.now c.args.frame.start term) c.args.to)
    c.tag_bytes.ensures c.in_err-place.ensures))

pub returns : goal.returns
returns c =
    last_tag c.args.tag (stands_by c.args.lists.now c.args.frame.start) c.args.frame.len c.args.to c.in_ok-place.place
    (subst (λ (term : List ℕ). IsLastPlace c.args.frame.len (stands_by c.args.lists.now c.args.frame.start term) c.args.to
    c.in_ok-place.place)
    c.tag_bytes.ensures c.in_ok-place.ensures)
