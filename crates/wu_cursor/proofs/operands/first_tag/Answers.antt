use Rattle.std.proofs.Common.{ℕ, List, subst}
use Rattle.wu_solve.specs.Addresses.{stands_by}
use Rattle.wu_cursor.specs.Places.{HasNoneFrom, IsFirstPlace}
use Rattle.wu_cursor.proofs.Leaves.{first_tag, no_tag}
use Rattle.wu_cursor.proofs.operands.first_tag.Goals as goal

pub returns-in_err-place : goal.returns-in_err-place
returns-in_err-place c =
    rw c.from_residual.ensures
    (no_tag c.args.tag (stands_by c.args.lists.now c.args.frame.start) c.args.frame.len c.args.from
    (subst (λ (term : List ℕ). HasNoneFrom c.args.frame.len (stands_by c.args.lists.now c.args.frame.start term) c.args.from)
    c.tag_bytes.ensures c.in_err-place.ensures))

pub returns : goal.returns
returns c =
    first_tag c.args.tag (stands_by c.args.lists.now c.args.frame.start) c.args.frame.len c.args.from c.in_ok-place.place
    (subst (λ (term : List ℕ). IsFirstPlace c.args.frame.len (stands_by c.args.lists.now c.args.frame.start term) c.args.from
    c.in_ok-place.place)
    c.tag_bytes.ensures c.in_ok-place.ensures)
