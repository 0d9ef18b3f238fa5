use Rattle.std.proofs.Common.{◌≡◌, List, map, ◌∙◌, ap, sym, subst, arith}
use Rattle.std.specs.Prelude.{IsPermutation}
use Rattle.std.specs.List.Sorted.{IsNonDecreasingBy}
use Rattle.wu_base.specs.declared.addresses.Range.{Range}
use Rattle.wu_frames.specs.declared.Frame.{Frame}
use Rattle.wu_frames.specs.UserFrames.{frames_in, length_of}
use Rattle.wu_frames.proofs.Views.{IsOnce, view_of-once}
use Rattle.wu_frames.proofs.ViewFrames.{frames-from_parts, length-fits}
use Rattle.wu_frames.proofs.making.made.Goals as goal

pub by_address-requires : goal.by_address-requires
by_address-requires c = subst IsOnce (sym c.in_ok-seen.ensures) (view_of-once c.args.tree.now c.args.uid)

pub length-total-requires : goal.length-total-requires
length-total-requires c =
    let fits = length-fits c.args.tree.now c.args.space.now c.args.uid c.in_ok-seen.seen c.in_ok-by_address.by_address.items
    c.keeps_the_rules.ensures c.in_ok-seen.ensures c.in_ok-by_address.ensures.frames c.in_ok-by_address.ensures.order in
    let r : c.as_slice-2.result.now ≡ map (λ (x : Frame). x.range) c.in_ok-by_address.by_address.items =
    c.as_slice-2.ensures.value ∙ c.in_ok-ranges.ensures
    ∙ ap (λ (l : List Frame). map (λ (x : Frame). x.range) l) c.as_slice.ensures.value in
    omega (arith, fits, c.keeps_the_rules.ensures.small, ap (λ (l : List Range). length_of l) r)

pub returns-clause-right : goal.returns-clause-right
returns-clause-right c =
    let seen = c.in_ok-seen.seen in
    let m : IsPermutation (frames_in c.args.space.now.ranges seen) c.from.result =
    rw c.from.ensures c.in_ok-by_address.ensures.frames in
    let up : IsNonDecreasingBy (λ (x : Frame). x.range.start) c.from.result = rw c.from.ensures c.in_ok-by_address.ensures.order in
    let r : c.from-2.result ≡ map (λ (x : Frame). x.range) c.from.result =
    c.from-2.ensures ∙ c.in_ok-ranges.ensures
    ∙ ap (λ (l : List Frame). map (λ (x : Frame). x.range) l) (c.as_slice.ensures.value ∙ sym c.from.ensures) in
    let t = c.length-total.ensures ∙ ap (λ (l : List Range). length_of l) (c.as_slice-2.ensures.value ∙ sym c.from-2.ensures) in
    frames-from_parts c.args.tree.now c.args.space.now c.args.uid seen c.from.result c.from-2.result c.length-total.result
    c.keeps_the_rules.ensures c.in_ok-seen.ensures m up r t
