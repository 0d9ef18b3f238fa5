use Rattle.std.proofs.Common.{◌≡◌, ℕ, ◌+◌, ◌<◌, ◌≤◌, length, get_or, nat_le, ap, subst, arith}
use Rattle.std.specs.Prelude.{filter}
use Rattle.std.proofs.lemmas.Grind.{common_steps}
use Rattle.std.proofs.lemmas.List.Kept.{IsStrictlyIncreasing-filter}
use Rattle.std.proofs.lemmas.List.Sums.{length-filter, count_by-le-length}
use Rattle.wu_base.specs.declared.addresses.Range.{Range}
use Rattle.wu_solve.specs.Frames.{EndsAfter}
use Rattle.wu_solve.proofs.FramesMet.{all_from_first, met_here, met_later, met_no_more, met_by_none}
use Rattle.wu_solve.proofs.AddressesInFrames.{address_gap_passed, no_address_left}
use Rattle.wu_solve.proofs.Numbers.{fewer_kept}
use Rattle.wu_solve.proofs.OneTerm.{counted_in_frame}
use Rattle.wu_solve.proofs.counting.count_term.Goals as goal

pub returns-then-place-frames-clause-hits : goal.returns-then-place-frames-clause-hits
returns-then-place-frames-clause-hits c =
    let d : Range = record { start = 0; len = 0 } in
    let rest = c.loop-address.rest.now in
    let frames = c.args.frames.now in
    let place = c.frame_at-place.result in
    let first : c.in-Some.address.now ≡ get_or rest 0 0 = grind (arith, common_steps) in
    let ends = subst (λ (a : ℕ). EndsAfter frames a place) first c.frame_at-place.ensures in
    let inv = c.loop-address.invariant in
    let none = ap length (no_address_left frames rest place c.requires.apart inv.up ends (omega arith)) in
    omega (arith, none, inv.hits)

pub returns-then-place-frames-clause-files : goal.returns-then-place-frames-clause-files
returns-then-place-frames-clause-files c =
    let d : Range = record { start = 0; len = 0 } in
    let rest = c.loop-address.rest.now in
    let frames = c.args.frames.now in
    let place = c.frame_at-place.result in
    let first : c.in-Some.address.now ≡ get_or rest 0 0 = grind (arith, common_steps) in
    let ends = subst (λ (a : ℕ). EndsAfter frames a place) first c.frame_at-place.ensures in
    let inv = c.loop-address.invariant in
    let none = ap length (met_no_more rest frames place inv.up ends (omega arith)) in
    omega (arith, none, inv.files)

pub returns-clause-files : goal.returns-clause-files
returns-clause-files c =
    let rest = c.loop-address.rest.now in
    let empty : length rest ≡ 0 = grind (arith, common_steps) in
    let none = ap length (met_by_none rest c.args.frames.now empty) in
    omega (arith, none, c.loop-address.invariant.files)

pub loop-address-smaller-then-address-frame : goal.loop-address-smaller-then-address-frame
loop-address-smaller-then-address-frame c =
    let d : Range = record { start = 0; len = 0 } in
    let rest = c.loop-address.rest.now in
    let frames = c.args.frames.now in
    let place = c.frame_at-place.result in
    let first : c.in-Some.address.now ≡ get_or rest 0 0 = grind (arith, common_steps) in
    let ends = subst (λ (a : ℕ). EndsAfter frames a place) first c.frame_at-place.ensures in
    let inv = c.loop-address.invariant in
    let some : 0 < length rest = grind (arith, common_steps) in
    let bound = (get_or frames place d).start in
    let fewer = fewer_kept bound rest some (omega (arith, first, c.if-address-frame.true)) in
    let long : length c.addresses_from-rest.result.now ≡ length (filter (λ a. nat_le bound a) rest) =
    ap length c.addresses_from-rest.ensures in
    let small : length c.addresses_from-rest.result.now < length rest = omega (arith, long, fewer) in
    small

pub loop-address-preserved-then-address-frame : goal.loop-address-preserved-then-address-frame
loop-address-preserved-then-address-frame c =
    let d : Range = record { start = 0; len = 0 } in
    let rest = c.loop-address.rest.now in
    let frames = c.args.frames.now in
    let place = c.frame_at-place.result in
    let first : c.in-Some.address.now ≡ get_or rest 0 0 = grind (arith, common_steps) in
    let ends = subst (λ (a : ℕ). EndsAfter frames a place) first c.frame_at-place.ensures in
    let inv = c.loop-address.invariant in
    let some : 0 < length rest = grind (arith, common_steps) in
    let inside : place < length frames = omega (arith, c.frame_at-place.ensures.within) in
    let bound = (get_or frames place d).start in
    let fewer = fewer_kept bound rest some (omega (arith, first, c.if-address-frame.true)) in
    let hits = ap length (address_gap_passed frames rest place d c.requires.apart inv.up ends) in
    let files = ap length (met_later rest frames place d c.requires.apart inv.up some ends inside) in
    rw c.addresses_from-rest.ensures (record {
      up = IsStrictlyIncreasing-filter (λ a. nat_le bound a) rest inv.up;
      room = omega (arith, fewer, inv.room);
      few = omega (arith, fewer, inv.few);
      hits = omega (arith, hits, inv.hits);
      files = omega (arith, files, inv.files);
    })

pub overflow_sub-hits : goal.overflow_sub-hits
overflow_sub-hits c =
    let rest = c.loop-address.rest.now in
    let bound = c.end_of.result in
    let long : length c.addresses_from-behind.result.now ≡ length (filter (λ a. nat_le bound a) rest) =
    ap length c.addresses_from-behind.ensures in
    let counted = length-filter (λ a. nat_le bound a) rest in
    let few = count_by-le-length (λ a. nat_le bound a) rest in
    omega (arith, long, counted, few)

pub loop-address-smaller : goal.loop-address-smaller
loop-address-smaller c =
    let d : Range = record { start = 0; len = 0 } in
    let rest = c.loop-address.rest.now in
    let frames = c.args.frames.now in
    let place = c.frame_at-place.result in
    let first : c.in-Some.address.now ≡ get_or rest 0 0 = grind (arith, common_steps) in
    let ends = subst (λ (a : ℕ). EndsAfter frames a place) first c.frame_at-place.ensures in
    let inv = c.loop-address.invariant in
    let some : 0 < length rest = grind (arith, common_steps) in
    let inside : place < length frames = omega (arith, c.frame_at-place.ensures.within) in
    let over = ends.after place d (omega arith) inside in
    let bound = c.end_of.result in
    let fewer = fewer_kept bound rest some (omega (arith, over, c.end_of.ensures)) in
    let long : length c.addresses_from-behind.result.now ≡ length (filter (λ a. nat_le bound a) rest) =
    ap length c.addresses_from-behind.ensures in
    let small : length c.addresses_from-behind.result.now < length rest = omega (arith, long, fewer) in
    small

pub loop-address-preserved : goal.loop-address-preserved
loop-address-preserved c =
    let d : Range = record { start = 0; len = 0 } in
    let rest = c.loop-address.rest.now in
    let frames = c.args.frames.now in
    let place = c.frame_at-place.result in
    let first : c.in-Some.address.now ≡ get_or rest 0 0 = grind (arith, common_steps) in
    let ends = subst (λ (a : ℕ). EndsAfter frames a place) first c.frame_at-place.ensures in
    let inv = c.loop-address.invariant in
    let some : 0 < length rest = grind (arith, common_steps) in
    let inside : place < length frames = omega (arith, c.frame_at-place.ensures.within) in
    let f = get_or frames place d in
    let low : f.start ≤ get_or rest 0 0 = omega (arith, first, c.if-address-frame.false) in
    let over = ends.after place d (omega arith) inside in
    let bound = f.start + f.len in
    let fewer = fewer_kept bound rest some (omega (arith, over)) in
    let from : (k : ℕ) → k < length rest → f.start ≤ get_or rest k 0 = λ k within.
    let least = all_from_first rest inv.up k within in omega (arith, least, low) in
    let hits = counted_in_frame frames place d rest inside from in
    let files = ap length (met_here rest frames place d c.requires.apart inv.up some ends inside low) in
    rw (c.addresses_from-behind.ensures, c.end_of.ensures) (record {
      up = IsStrictlyIncreasing-filter (λ a. nat_le bound a) rest inv.up;
      room = omega (arith, fewer, inv.room);
      few = omega (arith, fewer, inv.few);
      hits = omega (arith, hits, fewer, inv.hits);
      files = omega (arith, files, inv.files);
    })
