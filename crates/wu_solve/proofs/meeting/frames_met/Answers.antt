use Rattle.std.proofs.Common.{◌≡◌, ◌++◌, ◌∷◌, [], ◌∙◌, ℕ, ◌+◌, ◌<◌, ◌≤◌, List, length, get_or, nat_le, sym, ap, subst, arith, append-nil}
use Rattle.std.proofs.Common.{append_assoc}
use Rattle.std.specs.Prelude.{filter}
use Rattle.std.proofs.lemmas.Grind.{common_steps}
use Rattle.std.proofs.lemmas.List.Kept.{IsStrictlyIncreasing-filter}
use Rattle.wu_base.specs.declared.addresses.Range.{Range}
use Rattle.wu_solve.specs.Frames.{EndsAfter, has_one_of}
use Rattle.wu_solve.proofs.FramesMet.{met_here, met_later, met_no_more, met_by_none}
use Rattle.wu_solve.proofs.Numbers.{fewer_kept}
use Rattle.wu_solve.proofs.meeting.frames_met.Goals as goal

pub returns-then-place-frames : goal.returns-then-place-frames
returns-then-place-frames c =
    let d : Range = record { start = 0; len = 0 } in
    let rest = c.loop-address.rest.now in
    let frames = c.args.frames.now in
    let place = c.frame_at-place.result in
    let first : c.in-Some.address.now ≡ get_or rest 0 0 = grind (arith, common_steps) in
    let ends = subst (λ (a : ℕ). EndsAfter frames a place) first c.frame_at-place.ensures in
    let inv = c.loop-address.invariant in
    sym (append-nil c.loop-address.met.items)
    ∙ ap (λ (fs : List Range). c.loop-address.met.items ++ fs) (sym (met_no_more rest frames place inv.up ends (omega arith))) ∙ inv.same

pub returns : goal.returns
returns c =
    let rest = c.loop-address.rest.now in
    let none : length rest ≡ 0 = grind (arith, common_steps) in
    sym (append-nil c.loop-address.met.items)
    ∙ ap (λ (fs : List Range). c.loop-address.met.items ++ fs) (sym (met_by_none rest c.args.frames.now none))
    ∙ c.loop-address.invariant.same

pub loop-address-smaller-then-address-frame : goal.loop-address-smaller-then-address-frame
loop-address-smaller-then-address-frame c =
    let d : Range = record { start = 0; len = 0 } in
    let rest = c.loop-address.rest.now in
    let frames = c.args.frames.now in
    let place = c.frame_at-place.result in
    let first : c.in-Some.address.now ≡ get_or rest 0 0 = grind (arith, common_steps) in
    let ends = subst (λ (a : ℕ). EndsAfter frames a place) first c.frame_at-place.ensures in
    let inv = c.loop-address.invariant in
    let some : 0 < length rest = grind (arith, common_steps) in
    let bound = (get_or frames place d).start in
    let fewer = fewer_kept bound rest some (omega (arith, first, c.if-address-frame.true)) in
    let long : length c.addresses_from-rest.result.now ≡ length (filter (λ a. nat_le bound a) rest) =
    ap length c.addresses_from-rest.ensures in
    let small : length c.addresses_from-rest.result.now < length rest = omega (arith, long, fewer) in
    small

pub loop-address-preserved-then-address-frame : goal.loop-address-preserved-then-address-frame
loop-address-preserved-then-address-frame c =
    let d : Range = record { start = 0; len = 0 } in
    let rest = c.loop-address.rest.now in
    let frames = c.args.frames.now in
    let place = c.frame_at-place.result in
    let first : c.in-Some.address.now ≡ get_or rest 0 0 = grind (arith, common_steps) in
    let ends = subst (λ (a : ℕ). EndsAfter frames a place) first c.frame_at-place.ensures in
    let inv = c.loop-address.invariant in
    let some : 0 < length rest = grind (arith, common_steps) in
    let inside : place < length frames = omega (arith, c.frame_at-place.ensures.within) in
    rw c.addresses_from-rest.ensures (record {
      up = IsStrictlyIncreasing-filter (λ a. nat_le (get_or frames place d).start a) rest inv.up;
      same = ap (λ (fs : List Range). c.loop-address.met.items ++ fs)
          (met_later rest frames place d c.requires.apart inv.up some ends inside)
          ∙ inv.same;
    })

pub loop-address-smaller : goal.loop-address-smaller
loop-address-smaller c =
    let d : Range = record { start = 0; len = 0 } in
    let rest = c.loop-address.rest.now in
    let frames = c.args.frames.now in
    let place = c.frame_at-place.result in
    let first : c.in-Some.address.now ≡ get_or rest 0 0 = grind (arith, common_steps) in
    let ends = subst (λ (a : ℕ). EndsAfter frames a place) first c.frame_at-place.ensures in
    let inv = c.loop-address.invariant in
    let some : 0 < length rest = grind (arith, common_steps) in
    let inside : place < length frames = omega (arith, c.frame_at-place.ensures.within) in
    let behind = ends.after place d (omega arith) inside in
    let bound = c.end_of.result in
    let fewer = fewer_kept bound rest some (omega (arith, behind, c.end_of.ensures)) in
    let long : length c.addresses_from-rest-else-address-frame.result.now ≡ length (filter (λ a. nat_le bound a) rest) =
    ap length c.addresses_from-rest-else-address-frame.ensures in
    let small : length c.addresses_from-rest-else-address-frame.result.now < length rest = omega (arith, long, fewer) in
    small

pub loop-address-preserved : goal.loop-address-preserved
loop-address-preserved c =
    let d : Range = record { start = 0; len = 0 } in
    let rest = c.loop-address.rest.now in
    let frames = c.args.frames.now in
    let place = c.frame_at-place.result in
    let first : c.in-Some.address.now ≡ get_or rest 0 0 = grind (arith, common_steps) in
    let ends = subst (λ (a : ℕ). EndsAfter frames a place) first c.frame_at-place.ensures in
    let inv = c.loop-address.invariant in
    let some : 0 < length rest = grind (arith, common_steps) in
    let inside : place < length frames = omega (arith, c.frame_at-place.ensures.within) in
    let f = get_or frames place d in
    let behind = filter (λ a. nat_le (f.start + f.len) a) rest in
    let low : f.start ≤ get_or rest 0 0 = omega (arith, first, c.if-address-frame.false) in
    let pushed : c.push.new.self.items ≡ c.loop-address.met.items ++ f ∷ [] = c.in_ok-push.ensures.items in
    rw (c.addresses_from-rest-else-address-frame.ensures, c.end_of.ensures, pushed) (record {
      up = IsStrictlyIncreasing-filter (λ a. nat_le (f.start + f.len) a) rest inv.up;
      same = append_assoc c.loop-address.met.items (f ∷ []) (filter (has_one_of behind) frames)
          ∙ ap (λ (fs : List Range). c.loop-address.met.items ++ fs)
          (sym (met_here rest frames place d c.requires.apart inv.up some ends inside low)) ∙ inv.same;
    })
