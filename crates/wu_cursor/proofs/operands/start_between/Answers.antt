use Rattle.std.proofs.Common.{ℕ, ◌-◌, List, subst, arith}
use Rattle.std.specs.Prelude.{MatchOption}
use Rattle.wu_gcl.specs.Regions.{Mark}
use Rattle.wu_gcl.specs.Extents.{is_in}
use Rattle.wu_solve.specs.Addresses.{stands_by}
use Rattle.wu_cursor.specs.declared.directions.Direction.TheVariants.{Backward}
use Rattle.wu_cursor.specs.Places.{HasNoneTo, IsLastPlace}
use Rattle.wu_cursor.proofs.Flat.{far_end_of}
use Rattle.wu_cursor.proofs.Leaves.{last_tag, no_tag_back, start_of_tag}
use Rattle.wu_cursor.proofs.Made.{followed_by_far_end, followed_by_none_behind, followed_by_none_first}
use Rattle.wu_cursor.proofs.Orders.{next_back, none_back}
use Rattle.wu_cursor.proofs.operands.start_between.Goals as goal

pub returns-in_err-place : goal.returns-in_err-place
returns-in_err-place c =
    let stands = stands_by c.args.lists.now c.args.frame.start in
    let n = c.args.frame.len in
    rw c.from_residual.ensures
    (followed_by_none_first Backward (Mark c.args.first) (Mark c.args.last) stands n c.args.to
    (no_tag_back c.args.last stands n c.args.to
    (subst (λ (term : List ℕ). HasNoneTo n (stands term) c.args.to) c.tag_bytes.ensures c.in_err-place.ensures)))

pub returns-then-place-eq0 : goal.returns-then-place-eq0
returns-then-place-eq0 c =
    let stands = stands_by c.args.lists.now c.args.frame.start in
    let n = c.args.frame.len in
    let place = c.in_ok-place.place in
    let at_last = last_tag c.args.last stands n c.args.to place
    (subst (λ (term : List ℕ). IsLastPlace n (stands term) c.args.to place) c.tag_bytes.ensures c.in_ok-place.ensures) in
    followed_by_none_behind Backward (Mark c.args.first) (Mark c.args.last) stands n c.args.to place
    (far_end_of Backward n (is_in (Mark c.args.last) stands n) c.args.to _ at_last) (none_back place (omega arith))

pub returns : goal.returns
returns c =
    let stands = stands_by c.args.lists.now c.args.frame.start in
    let n = c.args.frame.len in
    let place = c.in_ok-place.place in
    let at_last = last_tag c.args.last stands n c.args.to place
    (subst (λ (term : List ℕ). IsLastPlace n (stands term) c.args.to place) c.tag_bytes.ensures c.in_ok-place.ensures) in
    let at_first = start_of_tag c.args.first stands n (place - 1) c.last_place-2.result
    (subst (λ (term : List ℕ). MatchOption c.last_place-2.result (HasNoneTo n (stands term) (place - 1)) (IsLastPlace n (stands term)
    (place - 1)))
    c.tag_bytes-2.ensures c.last_place-2.ensures) in
    followed_by_far_end Backward (Mark c.args.first) (Mark c.args.last) stands n c.args.to place (place - 1) c.last_place-2.result
    (far_end_of Backward n (is_in (Mark c.args.last) stands n) c.args.to _ at_last) (next_back place (omega arith)) at_first
