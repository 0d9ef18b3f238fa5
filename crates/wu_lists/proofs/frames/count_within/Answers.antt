use Rattle.std.proofs.Common.{◌-◌, ◌^◌, ◌≡◌, ℕ, ◌+◌, ◌<◌, List, ◌++◌, filter, drop, get_or, ap, sym, ◌∙◌, arith, refl}
use Rattle.std.proofs.lemmas.List.{take_rest}
use Rattle.wu_base.specs.declared.addresses.Range.{Range}
use Rattle.wu_layout.specs.Postings.{is_live}
use Rattle.wu_lists.specs.declared.tallies.Tally.{Tally}
use Rattle.wu_lists.proofs.Ascending.{ascend-lower, first_end, first_start}
use Rattle.wu_lists.specs.Gaining.{tally_on, with_frame}
use Rattle.wu_lists.proofs.Cutting.{all_weaker, cut_first, none_left}
use Rattle.wu_lists.proofs.Tallying.{counted_first}
use Rattle.wu_lists.proofs.frames.count_within.Goals as goal

pub split_below-requires-clause-limit : goal.split_below-requires-clause-limit
split_below-requires-clause-limit c =
    first_start 0 (2 ^ 64 - 1) c.loop-left.left.now (record { start = 0; len = 0 }) (omega arith) c.loop-left.invariant.order

pub overflow_add-frame : goal.overflow_add-frame
overflow_add-frame c =
    let e = first_end 0 (2 ^ 64 - 1) c.loop-left.left.now (record { start = 0; len = 0 }) (omega arith) c.loop-left.invariant.order in
    omega arith

pub split_below-requires-in-len1-up-clause-ascend : goal.split_below-requires-in-len1-up-clause-ascend
split_below-requires-in-len1-up-clause-ascend c =
    ascend-lower 0 (get_or c.loop-left.left.now 0 (record { start = 0; len = 0 })).start (2 ^ 64 - 1) c.split_below.result.1.now
    (omega arith)
    c.split_below.ensures.others

pub split_below-requires-in-len1-up-clause-limit : goal.split_below-requires-in-len1-up-clause-limit
split_below-requires-in-len1-up-clause-limit c =
    first_end 0 (2 ^ 64 - 1) c.loop-left.left.now (record { start = 0; len = 0 }) (omega arith) c.loop-left.invariant.order

pub count-requires : goal.count-requires
count-requires c =
    let d : Range = record { start = 0; len = 0 } in
    let f : Range = get_or c.loop-left.left.now 0 d in
    let end = first_end 0 (2 ^ 64 - 1) c.loop-left.left.now d (omega arith) c.loop-left.invariant.order in
    all_weaker (λ (x : ℕ). x < f.start + f.len) (λ (x : ℕ). x < 2 ^ 64 - 1) c.split_below-in-len1-up.result.0.now
    (λ x l. omega arith) c.split_below-in-len1-up.ensures.below

pub frames_for-left-requires-clause-ascend : goal.frames_for-left-requires-clause-ascend
frames_for-left-requires-clause-ascend c =
    let f : Range = get_or c.loop-left.left.now 0 (record { start = 0; len = 0 }) in
    ascend-lower 0 (f.start + f.len) (2 ^ 64 - 1) c.split_below-in-len1-up.result.1.now (omega arith)
    c.split_below-in-len1-up.ensures.others

pub loop-left-preserved : goal.loop-left-preserved
loop-left-preserved c =
    let d : Range = record { start = 0; len = 0 } in
    let left : List Range = c.loop-left.left.now in
    let f : Range = get_or left 0 d in
    let inside : List ℕ = c.split_below-in-len1-up.result.0.now in
    let after : List ℕ = c.split_below-in-len1-up.result.1.now in
    let before : Tally = c.loop-left.tally in
    let step : filter (is_live left) c.loop-left.rest.now ≡ inside ++ filter (is_live (drop 1 left)) after =
    cut_first (2 ^ 64 - 1) left (drop 1 left) d c.loop-left.rest.now c.split_below.result.0.now c.split_below.result.1.now inside after
    (omega arith) refl c.loop-left.invariant.order c.split_below.ensures.whole c.split_below-in-len1-up.ensures.whole
    c.split_below.ensures.below c.split_below.ensures.others
    c.split_below-in-len1-up.ensures.below c.split_below-in-len1-up.ensures.others in
    let first : tally_on left before (inside ++ filter (is_live (drop 1 left)) after)
    ≡ tally_on (drop 1 left) (with_frame f.start before inside) (filter (is_live (drop 1 left)) after) =
    counted_first (2 ^ 64 - 1) left d before c.split_below.result.1.now inside after (omega arith) c.loop-left.invariant.order
    c.split_below-in-len1-up.ensures.whole c.split_below.ensures.others c.split_below-in-len1-up.ensures.below c.split_below-in-len1-up.ensures.others in
    record {
      counted =
          c.frames_for-left.ensures.counted c.count.new.self
          ∙ ap (λ (l : List Range). tally_on l c.count.new.self (filter (is_live l) after)) (take_rest left 1)
          ∙ ap (λ (t : Tally). tally_on (drop 1 left) t (filter (is_live (drop 1 left)) after)) c.count.ensures
          ∙ sym first
          ∙ ap (tally_on left before) (sym step)
          ∙ c.loop-left.invariant.counted;
      ascend = ascend-lower 0 (f.start + f.len) (2 ^ 64 - 1) after (omega arith) c.split_below-in-len1-up.ensures.others;
      order = c.frames_for-left.ensures.order;
    }

pub returns : goal.returns
returns c =
    ap (tally_on c.loop-left.left.now c.loop-left.tally) (sym (none_left c.loop-left.left.now c.loop-left.rest.now (omega arith)))
    ∙ c.loop-left.invariant.counted
