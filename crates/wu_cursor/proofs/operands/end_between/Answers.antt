use Rattle.std.proofs.Common.{ℕ, ◌+◌, List, refl, subst}
use Rattle.std.specs.Prelude.{MatchOption}
use Rattle.wu_gcl.specs.Regions.{Mark}
use Rattle.wu_gcl.specs.Extents.{is_in}
use Rattle.wu_solve.specs.Addresses.{stands_by}
use Rattle.wu_cursor.specs.declared.directions.Direction.TheVariants.{Forward}
use Rattle.wu_cursor.specs.Places.{HasNoneFrom, IsFirstPlace}
use Rattle.wu_cursor.proofs.Flat.{far_end_of}
use Rattle.wu_cursor.proofs.Leaves.{first_tag, no_tag, end_of_tag}
use Rattle.wu_cursor.proofs.Made.{followed_by_far_end, followed_by_none_first}
use Rattle.wu_cursor.proofs.operands.end_between.Goals as goal

pub returns-in_err-place : goal.returns-in_err-place
returns-in_err-place c =
    let stands = stands_by c.args.lists.now c.args.frame.start in
    let n = c.args.frame.len in
    rw c.from_residual.ensures
    (followed_by_none_first Forward (Mark c.args.first) (Mark c.args.last) stands n c.args.from
    (no_tag c.args.first stands n c.args.from
    (subst (λ (term : List ℕ). HasNoneFrom n (stands term) c.args.from) c.tag_bytes.ensures c.in_err-place.ensures)))

pub returns : goal.returns
returns c =
    let stands = stands_by c.args.lists.now c.args.frame.start in
    let n = c.args.frame.len in
    let place = c.in_ok-place.place in
    let at_first = first_tag c.args.first stands n c.args.from place
    (subst (λ (term : List ℕ). IsFirstPlace n (stands term) c.args.from place) c.tag_bytes.ensures c.in_ok-place.ensures) in
    let at_last = end_of_tag c.args.last stands n (place + 1) c.first_place-2.result
    (subst (λ (term : List ℕ). MatchOption c.first_place-2.result (HasNoneFrom n (stands term) (place + 1)) (IsFirstPlace n (stands term)
    (place + 1)))
    c.tag_bytes-2.ensures c.first_place-2.ensures) in
    followed_by_far_end Forward (Mark c.args.first) (Mark c.args.last) stands n c.args.from place (place + 1) c.first_place-2.result
    (far_end_of Forward n (is_in (Mark c.args.first) stands n) c.args.from _ at_first) refl at_last
