use Rattle.std.proofs.Common.{◌≡◌, ◌∙◌, Some, refl, sym, arith}
use Rattle.wu_gcl.specs.Regions.{region_of}
use Rattle.wu_solve.specs.Addresses.{stands_by}
use Rattle.wu_cursor.specs.declared.directions.Direction.TheVariants.{Forward, Backward}
use Rattle.wu_cursor.specs.Directions.{next_place, near}
use Rattle.wu_cursor.specs.Within.{set_in, keeps}
use Rattle.wu_cursor.proofs.Orders.{next_on, through}
use Rattle.wu_cursor.proofs.Flat.{region_flat, nearest_whole}
use Rattle.wu_cursor.proofs.Made.{one_of_far_end, both_of_far_end, both_of_none_left, both_of_none_right, followed_by_far_end}
use Rattle.wu_cursor.proofs.Made.{followed_by_none_first, followed_by_none_behind}
use Rattle.wu_cursor.proofs.Kept.{kept_of, nearest_kept, none_kept, next_passed, none_behind, holds_by_end, holds_none, held_by_first}
use Rattle.wu_cursor.proofs.Kept.{held_by_none, ending_from}
use Rattle.wu_cursor.proofs.access.+access.Goals as goal

pub nearest-returns-in_ok-first-in-OneOf-clause-found : goal.nearest-returns-in_ok-first-in-OneOf-clause-found
nearest-returns-in_ok-first-in-OneOf-clause-found t c =
    let region = region_of c.args.expr.now in
    rw c.between.ensures
    (nearest_whole c.args.direction c.args.text.now.frame.len (set_in region c.args.text.now.lists.now c.args.text.now.frame) c.args.place
    c.in_ok-first-in-OneOf.first c.in_ok-last-in-OneOf.last
    (region_flat region (stands_by c.args.text.now.lists.now c.args.text.now.frame.start) c.args.text.now.frame.len)
    c.in_ok-last-in-OneOf.ensures.found (rw c.opposite.ensures at c.in_ok-first-in-OneOf.ensures.found))

pub far_end-returns-in-OneOf-clause-found : goal.far_end-returns-in-OneOf-clause-found
far_end-returns-in-OneOf-clause-found t c =
    rw (c.nearer.ensures, c.in-Both.is, c.in-OneOf.is)
    (one_of_far_end c.args.direction _ _ (stands_by c.args.text.now.lists.now c.args.text.now.frame.start)
    c.args.text.now.frame.len c.args.place
    c.far_end-one.result c.far_end-other.result
    (rw c.deref.ensures at c.far_end-one.ensures.found) (rw c.deref-in-OneOf.ensures at c.far_end-other.ensures.found))

pub far_end-returns-in_err-one-in-BothOf-clause-found : goal.far_end-returns-in_err-one-in-BothOf-clause-found
far_end-returns-in_err-one-in-BothOf-clause-found t c =
    rw (c.from_residual.ensures, c.in-Both.is, c.in-BothOf.is)
    (both_of_none_left c.args.direction _ _ (stands_by c.args.text.now.lists.now c.args.text.now.frame.start)
    c.args.text.now.frame.len c.args.place
    (rw c.deref-in-BothOf.ensures at c.in_err-one-in-BothOf.ensures.found))

pub far_end-returns-in_err-other-in-BothOf-clause-found : goal.far_end-returns-in_err-other-in-BothOf-clause-found
far_end-returns-in_err-other-in-BothOf-clause-found t c =
    rw (c.from_residual-in_err-other-in-BothOf.ensures, c.in-Both.is, c.in-BothOf.is)
    (both_of_none_right c.args.direction _ _ (stands_by c.args.text.now.lists.now c.args.text.now.frame.start)
    c.args.text.now.frame.len c.args.place
    (rw c.deref-in-BothOf-2.ensures at c.in_err-other-in-BothOf.ensures.found))

pub far_end-returns-in_ok-other-in-BothOf-clause-found : goal.far_end-returns-in_ok-other-in-BothOf-clause-found
far_end-returns-in_ok-other-in-BothOf-clause-found t c =
    rw (c.in-Both.is, c.in-BothOf.is, c.farther.ensures)
    (both_of_far_end c.args.direction _ _ (stands_by c.args.text.now.lists.now c.args.text.now.frame.start)
    c.args.text.now.frame.len c.args.place
    c.in_ok-one-in-BothOf.one c.in_ok-other-in-BothOf.other
    (rw c.deref-in-BothOf.ensures at c.in_ok-one-in-BothOf.ensures.found) (rw c.deref-in-BothOf-2.ensures at c.in_ok-other-in-BothOf.ensures.found))

pub far_end-returns-in_err-end-in-Forward-clause-found : goal.far_end-returns-in_err-end-in-Forward-clause-found
far_end-returns-in_err-end-in-Forward-clause-found t c =
    rw (c.from_residual-in_err-end-in-Forward.ensures, c.in-Both.is, c.in-FollowedBy.is, c.in-Forward.is)
    (followed_by_none_first Forward _ _ (stands_by c.args.text.now.lists.now c.args.text.now.frame.start)
    c.args.text.now.frame.len c.args.place
    (rw (c.in-Forward.is, c.deref-in-Forward.ensures) at c.in_err-end-in-Forward.ensures.found))

pub far_end-returns-in_ok-next-in-Forward-clause-found : goal.far_end-returns-in_ok-next-in-Forward-clause-found
far_end-returns-in_ok-next-in-Forward-clause-found t c =
    let is = sym c.in_ok-next-in-Forward.ensures in
    rw (c.in-Both.is, c.in-FollowedBy.is, c.in-Forward.is)
    (followed_by_far_end Forward _ _ (stands_by c.args.text.now.lists.now c.args.text.now.frame.start)
    c.args.text.now.frame.len c.args.place
    c.in_ok-end-in-Forward.end c.in_ok-next-in-Forward.next c.far_end-in-Forward-2.result
    (rw (c.in-Forward.is, c.deref-in-Forward.ensures) at c.in_ok-end-in-Forward.ensures.found)
    (rw c.in-Forward.is at is)
    (rw (c.in-Forward.is, c.deref-in-Forward-2.ensures) at c.far_end-in-Forward-2.ensures.found))

pub far_end-returns-in_err-start-in-Backward-clause-found : goal.far_end-returns-in_err-start-in-Backward-clause-found
far_end-returns-in_err-start-in-Backward-clause-found t c =
    rw (c.from_residual-in_err-start-in-Backward.ensures, c.in-Both.is, c.in-FollowedBy.is, c.in-Backward.is)
    (followed_by_none_first Backward _ _ (stands_by c.args.text.now.lists.now c.args.text.now.frame.start)
    c.args.text.now.frame.len c.args.place
    (rw (c.in-Backward.is, c.deref-in-Backward.ensures) at c.in_err-start-in-Backward.ensures.found))

pub far_end-returns-in_err-next-in-Backward-clause-found : goal.far_end-returns-in_err-next-in-Backward-clause-found
far_end-returns-in_err-next-in-Backward-clause-found t c =
    let is = sym c.in_err-next-in-Backward.ensures in
    rw (c.from_residual-in_err-next-in-Backward.ensures, c.in-Both.is, c.in-FollowedBy.is, c.in-Backward.is)
    (followed_by_none_behind Backward _ _ (stands_by c.args.text.now.lists.now c.args.text.now.frame.start)
    c.args.text.now.frame.len c.args.place
    c.in_ok-start-in-Backward.start
    (rw (c.in-Backward.is, c.deref-in-Backward.ensures) at c.in_ok-start-in-Backward.ensures.found)
    (rw c.in-Backward.is at is))

pub far_end-returns-in_ok-next-in-Backward-clause-found : goal.far_end-returns-in_ok-next-in-Backward-clause-found
far_end-returns-in_ok-next-in-Backward-clause-found t c =
    let is = sym c.in_ok-next-in-Backward.ensures in
    rw (c.in-Both.is, c.in-FollowedBy.is, c.in-Backward.is)
    (followed_by_far_end Backward _ _ (stands_by c.args.text.now.lists.now c.args.text.now.frame.start)
    c.args.text.now.frame.len c.args.place
    c.in_ok-start-in-Backward.start c.in_ok-next-in-Backward.next c.far_end-in-Backward-2.result
    (rw (c.in-Backward.is, c.deref-in-Backward.ensures) at c.in_ok-start-in-Backward.ensures.found)
    (rw c.in-Backward.is at is)
    (rw (c.in-Backward.is, c.deref-in-Backward-3.ensures) at c.far_end-in-Backward-2.ensures.found))

pub holds_one-returns-in-Some-clause-found : goal.holds_one-returns-in-Some-clause-found
holds_one-returns-in-Some-clause-found t c =
    let set = set_in (region_of c.args.expr.now) c.args.text.now.lists.now c.args.text.now.frame in
    holds_by_end c.args.text.now.frame.len set c.args.extent c.in-Some.end c.in-Some.ensures.found

pub holds_one-returns-in-None-clause-found : goal.holds_one-returns-in-None-clause-found
holds_one-returns-in-None-clause-found t c =
    let set = set_in (region_of c.args.expr.now) c.args.text.now.lists.now c.args.text.now.frame in
    holds_none c.args.text.now.frame.len set c.args.extent c.in-None.ensures.found

pub is_held-returns-in-Some-clause-found : goal.is_held-returns-in-Some-clause-found
is_held-returns-in-Some-clause-found t c =
    let set = set_in (region_of c.args.expr.now) c.args.text.now.lists.now c.args.text.now.frame in
    held_by_first c.args.text.now.frame.len set c.args.extent c.in-Some.holder c.in-Some.ensures.found

pub is_held-returns-in-None-clause-found : goal.is_held-returns-in-None-clause-found
is_held-returns-in-None-clause-found t c =
    let set = set_in (region_of c.args.expr.now) c.args.text.now.lists.now c.args.text.now.frame in
    held_by_none c.args.text.now.frame.len set c.args.extent c.in-None.ensures.found

pub first_ending-returns-in-Some-clause-found : goal.first_ending-returns-in-Some-clause-found
first_ending-returns-in-Some-clause-found t c =
    let set = set_in (region_of c.args.expr.now) c.args.text.now.lists.now c.args.text.now.frame in
    let flat = region_flat (region_of c.args.expr.now) (stands_by c.args.text.now.lists.now c.args.text.now.frame.start)
    c.args.text.now.frame.len in
    ending_from c.args.text.now.frame.len set c.args.from c.in-Some.start flat (omega arith)
    c.in-Some.ensures.found c.nearest-in-Some.result
    c.nearest-in-Some.ensures.found

pub sought-returns-in_err-extent-clause-found : goal.sought-returns-in_err-extent-clause-found
sought-returns-in_err-extent-clause-found t c =
    let n = c.args.text.now.frame.len in
    let all = set_in (region_of c.args.expr.now) c.args.text.now.lists.now c.args.text.now.frame in
    let left = set_in (region_of c.in-Both.left.value) c.args.text.now.lists.now c.args.text.now.frame in
    let keep = keeps c.in-Both.op n (set_in (region_of c.in-Both.right.value) c.args.text.now.lists.now c.args.text.now.frame) in
    let kept = kept_of (region_of c.args.expr.now) (region_of c.in-Both.left.value) (region_of c.in-Both.right.value) c.in-Both.op
    (stands_by c.args.text.now.lists.now c.args.text.now.frame.start) c.args.text.now.frame.len
    (rw c.in-Both.is refl) c.requires.containment in
    rw c.from_residual.ensures
    (none_kept n left keep all kept c.args.direction c.args.place c.loop-known.from c.loop-known.invariant.passed
    (rw c.deref-in-loop-known.ensures at c.in_err-extent.ensures.found))

pub sought-returns-then-is_kept-clause-found : goal.sought-returns-then-is_kept-clause-found
sought-returns-then-is_kept-clause-found t c =
    let n = c.args.text.now.frame.len in
    let all = set_in (region_of c.args.expr.now) c.args.text.now.lists.now c.args.text.now.frame in
    let left = set_in (region_of c.in-Both.left.value) c.args.text.now.lists.now c.args.text.now.frame in
    let keep = keeps c.in-Both.op n (set_in (region_of c.in-Both.right.value) c.args.text.now.lists.now c.args.text.now.frame) in
    let kept = kept_of (region_of c.args.expr.now) (region_of c.in-Both.left.value) (region_of c.in-Both.right.value) c.in-Both.op
    (stands_by c.args.text.now.lists.now c.args.text.now.frame.start) c.args.text.now.frame.len
    (rw c.in-Both.is refl) c.requires.containment in
    let test : c.is_kept.result ≡ keep c.in_ok-extent.extent = rw c.deref-in-loop-known-2.ensures at c.is_kept.ensures.found in
    nearest_kept n left keep all kept c.args.direction c.args.place c.loop-known.from c.loop-known.invariant.passed
    c.in_ok-extent.extent c.loop-known.invariant.on (rw c.deref-in-loop-known.ensures at c.in_ok-extent.ensures.found)
    (sym test ∙ c.if-is_kept.true)

pub sought-returns-in_err-from-clause-found : goal.sought-returns-in_err-from-clause-found
sought-returns-in_err-from-clause-found t c =
    let n = c.args.text.now.frame.len in
    let all = set_in (region_of c.args.expr.now) c.args.text.now.lists.now c.args.text.now.frame in
    let left = set_in (region_of c.in-Both.left.value) c.args.text.now.lists.now c.args.text.now.frame in
    let keep = keeps c.in-Both.op n (set_in (region_of c.in-Both.right.value) c.args.text.now.lists.now c.args.text.now.frame) in
    let kept = kept_of (region_of c.args.expr.now) (region_of c.in-Both.left.value) (region_of c.in-Both.right.value) c.in-Both.op
    (stands_by c.args.text.now.lists.now c.args.text.now.frame.start) c.args.text.now.frame.len
    (rw c.in-Both.is refl) c.requires.containment in
    let flat = region_flat (region_of c.in-Both.left.value) (stands_by c.args.text.now.lists.now c.args.text.now.frame.start)
    c.args.text.now.frame.len in
    let test : c.is_kept.result ≡ keep c.in_ok-extent.extent = rw c.deref-in-loop-known-2.ensures at c.is_kept.ensures.found in
    let is = sym c.in_err-from.ensures in
    rw c.from_residual-in_err-from.ensures
    (none_behind n left keep all kept c.args.direction c.args.place c.loop-known.from c.loop-known.invariant.passed
    c.in_ok-extent.extent flat (rw c.deref-in-loop-known.ensures at c.in_ok-extent.ensures.found) (sym test ∙ c.if-is_kept.false)
    (rw c.near.ensures at is))

pub sought-loop-known-preserved : goal.sought-loop-known-preserved
sought-loop-known-preserved t c =
    let n = c.args.text.now.frame.len in
    let all = set_in (region_of c.args.expr.now) c.args.text.now.lists.now c.args.text.now.frame in
    let left = set_in (region_of c.in-Both.left.value) c.args.text.now.lists.now c.args.text.now.frame in
    let keep = keeps c.in-Both.op n (set_in (region_of c.in-Both.right.value) c.args.text.now.lists.now c.args.text.now.frame) in
    let kept = kept_of (region_of c.args.expr.now) (region_of c.in-Both.left.value) (region_of c.in-Both.right.value) c.in-Both.op
    (stands_by c.args.text.now.lists.now c.args.text.now.frame.start) c.args.text.now.frame.len
    (rw c.in-Both.is refl) c.requires.containment in
    let flat = region_flat (region_of c.in-Both.left.value) (stands_by c.args.text.now.lists.now c.args.text.now.frame.start)
    c.args.text.now.frame.len in
    let test : c.is_kept.result ≡ keep c.in_ok-extent.extent = rw c.deref-in-loop-known-2.ensures at c.is_kept.ensures.found in
    let is = sym c.in_ok-from.ensures in
    let next : next_place c.args.direction (near c.args.direction c.in_ok-extent.extent) ≡ Some c.in_ok-from.from =
    rw c.near.ensures at is in
    record {
      memory = c.is_kept.ensures.memory;
      on = through c.args.direction c.args.place (near c.args.direction c.in_ok-extent.extent) c.in_ok-from.from
          (through c.args.direction c.args.place c.loop-known.from _ c.loop-known.invariant.on c.in_ok-extent.ensures.found.reached)
          (next_on c.args.direction _ _ next);
      passed = next_passed n left keep all kept c.args.direction c.args.place c.loop-known.from c.loop-known.invariant.passed
          c.in_ok-extent.extent flat (rw c.deref-in-loop-known.ensures at c.in_ok-extent.ensures.found) (sym test ∙ c.if-is_kept.false)
          c.in_ok-from.from next;
    }
