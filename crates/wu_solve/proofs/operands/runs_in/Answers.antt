use Rattle.std.proofs.Common.{◌≡◌, ◌++◌, ◌∙◌, ℕ, ◌+◌, ◌-◌, ◌<◌, ◌≤◌, List, length, get_or, filter, take, drop, map, nat_le, nat_lt, refl}
use Rattle.std.proofs.Common.{sym, ap, subst, arith, append-nil, append_assoc, length-drop}
use Rattle.std.proofs.lemmas.Grind.{common_steps}
use Rattle.std.proofs.lemmas.List.Kept.{IsStrictlyIncreasing-filter}
use Rattle.wu_base.specs.declared.addresses.Extent.{Extent}
use Rattle.wu_base.specs.declared.addresses.Range.{Range}
use Rattle.wu_solve.specs.Frames.{lies_in_one, EndsAfter}
use Rattle.wu_solve.specs.Operands.{run_around}
use Rattle.wu_solve.proofs.Numbers.{kept_from, kept_all_from, fewer_kept, increasing_dropped, from_behind}
use Rattle.wu_solve.proofs.AddressesInFrames.{gap_passed, front_tested, none_left}
use Rattle.wu_solve.proofs.operands.runs_in.Goals as goal

pub loop-address-init : goal.loop-address-init
loop-address-init c =
    rw c.addresses_from-rest.ensures (record {
      up = IsStrictlyIncreasing-filter (λ a. nat_le c.args.before a) c.args.addresses.now c.requires.ascending;
      from = kept_from c.args.before c.args.addresses.now;
      same = rw c.new-found.ensures.items refl;
    })

pub loop-address-smaller-then-start-frame : goal.loop-address-smaller-then-start-frame
loop-address-smaller-then-start-frame c =
    let d : Range = record { start = 0; len = 0 } in
    let rest = c.loop-address.rest.now in
    let bound = (get_or c.args.frames.now c.frame_at-place.result d).start + c.args.before in
    let some : 0 < length rest = grind (arith, common_steps) in
    let first : c.in-Some.address.now ≡ get_or rest 0 0 = grind (arith, common_steps) in
    let room : c.args.before ≤ get_or rest 0 0 = c.loop-address.invariant.from 0 some in
    let low : get_or rest 0 0 < bound = omega (arith, first, room, c.if-start-frame.true) in
    let fewer = fewer_kept bound rest some low in
    let long : length c.addresses_from-rest-then-start-frame.result.now ≡ length (filter (λ a. nat_le bound a) rest) =
    ap length c.addresses_from-rest-then-start-frame.ensures in
    let small : length c.addresses_from-rest-then-start-frame.result.now < length rest = omega (arith, long, fewer) in
    small

pub loop-address-preserved-then-start-frame : goal.loop-address-preserved-then-start-frame
loop-address-preserved-then-start-frame c =
    let d : Range = record { start = 0; len = 0 } in
    let rest = c.loop-address.rest.now in
    let frames = c.args.frames.now in
    let before = c.args.before in
    let place = c.frame_at-place.result in
    let bound = (get_or frames place d).start + before in
    let first : c.in-Some.address.now ≡ get_or rest 0 0 = grind (arith, common_steps) in
    let ends = subst (λ (a : ℕ). EndsAfter frames (a - before) place) first c.frame_at-place.ensures in
    let inv = c.loop-address.invariant in
    rw c.addresses_from-rest-then-start-frame.ensures (record {
      up = IsStrictlyIncreasing-filter (λ a. nat_le bound a) rest inv.up;
      from = kept_all_from before bound rest inv.from;
      same = ap (λ (xs : List Extent). c.loop-address.found.items ++ xs)
          (gap_passed frames before c.args.after c.requires.apart rest place d inv.up inv.from ends) ∙ inv.same;
    })

pub put_around-requires-clause-some : goal.put_around-requires-clause-some
put_around-requires-clause-some c = grind (arith, common_steps)

pub put_around-requires-clause-first : goal.put_around-requires-clause-first
put_around-requires-clause-first c =
    let d : Range = record { start = 0; len = 0 } in
    let rest = c.loop-address.rest.now in
    let first : c.in-Some.address.now ≡ get_or rest 0 0 = grind (arith, common_steps) in
    let inside = c.frame_at-place.ensures.within in
    let behind = c.frame_at-place.ensures.after c.frame_at-place.result d (omega arith) (omega (arith, inside)) in
    omega (arith, first, behind, c.end_of.ensures)

pub put_around-requires-clause-room : goal.put_around-requires-clause-room
put_around-requires-clause-room c = c.loop-address.invariant.from

pub loop-address-smaller : goal.loop-address-smaller
loop-address-smaller c =
    let rest = c.loop-address.rest.now in
    let count = c.in_ok-count.count in
    let long = length-drop count rest in
    let same : length c.behind-rest.result.now ≡ length (drop count rest) = ap length c.behind-rest.ensures in
    omega (arith, long, same, c.in_ok-count.ensures.some, c.in_ok-count.ensures.within)

pub loop-address-preserved : goal.loop-address-preserved
loop-address-preserved c =
    let d : Range = record { start = 0; len = 0 } in
    let rest = c.loop-address.rest.now in
    let frames = c.args.frames.now in
    let before = c.args.before in
    let place = c.frame_at-place.result in
    let count = c.in_ok-count.count in
    let first : c.in-Some.address.now ≡ get_or rest 0 0 = grind (arith, common_steps) in
    let inside : place < length frames = omega (arith, c.frame_at-place.ensures.within) in
    let low : (get_or frames place d).start ≤ get_or rest 0 0 - before = omega (arith, first, c.if-start-frame.false) in
    let inv = c.loop-address.invariant in
    let end = (get_or frames place d).start + (get_or frames place d).len in
    let kept = filter (λ x. nat_lt x.end end) (map (run_around before c.args.after) (take count rest)) in
    let behind = filter (lies_in_one frames) (map (run_around before c.args.after) (drop count rest)) in
    let tested = front_tested frames before c.args.after c.requires.apart rest count place d inv.up c.in_ok-count.ensures.within inside low
    (rw c.end_of.ensures at c.in_ok-count.ensures.inside) in
    rw (c.behind-rest.ensures, c.in_ok-count.ensures.put, c.end_of.ensures) (record {
      up = increasing_dropped count rest inv.up;
      from = from_behind before count rest inv.from;
      same = append_assoc c.loop-address.found.items kept behind
          ∙ ap (λ (xs : List Extent). c.loop-address.found.items ++ xs) (sym tested) ∙ inv.same;
    })

pub returns-then-place-frames : goal.returns-then-place-frames
returns-then-place-frames c =
    let rest = c.loop-address.rest.now in
    let frames = c.args.frames.now in
    let before = c.args.before in
    let place = c.frame_at-place.result in
    let first : c.in-Some.address.now ≡ get_or rest 0 0 = grind (arith, common_steps) in
    let ends = subst (λ (a : ℕ). EndsAfter frames (a - before) place) first c.frame_at-place.ensures in
    let inv = c.loop-address.invariant in
    sym (append-nil c.loop-address.found.items)
    ∙ ap (λ (xs : List Extent). c.loop-address.found.items ++ xs)
    (sym (none_left frames before c.args.after c.requires.apart rest place inv.up ends (omega arith) inv.from))
    ∙ inv.same
