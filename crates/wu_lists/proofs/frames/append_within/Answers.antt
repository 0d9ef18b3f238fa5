use Rattle.std.proofs.Common.{◌-◌, ◌^◌, ◌≡◌, ℕ, ◌+◌, List, [], ◌++◌, filter, drop, get_or, ap, sym, ◌∙◌, arith, append-nil, append_assoc}
use Rattle.std.proofs.Common.{refl}
use Rattle.std.proofs.lemmas.List.{take_rest}
use Rattle.wu_base.specs.declared.addresses.Range.{Range}
use Rattle.wu_base.proofs.Results.{on_err}
use Rattle.wu_layout.specs.Postings.{is_live}
use Rattle.wu_lists.proofs.Ascending.{ascend-lower, first_end, first_start}
use Rattle.wu_lists.proofs.Cutting.{cut_first, none_left}
use Rattle.wu_lists.proofs.frames.append_within.Goals as goal

pub split_below-requires-clause-limit : goal.split_below-requires-clause-limit
split_below-requires-clause-limit c =
    first_start 0 (2 ^ 64 - 1) c.loop-left.left.now (record { start = 0; len = 0 }) (omega arith) c.loop-left.invariant.order

pub overflow_add-frame : goal.overflow_add-frame
overflow_add-frame c =
    let e = first_end 0 (2 ^ 64 - 1) c.loop-left.left.now (record { start = 0; len = 0 }) (omega arith) c.loop-left.invariant.order in
    omega arith

pub split_inside-requires-clause-ascend : goal.split_inside-requires-clause-ascend
split_inside-requires-clause-ascend c =
    ascend-lower 0 (get_or c.loop-left.left.now 0 (record { start = 0; len = 0 })).start (2 ^ 64 - 1) c.split_below.result.1.now
    (omega arith)
    c.split_below.ensures.others

pub split_inside-requires-clause-limit : goal.split_inside-requires-clause-limit
split_inside-requires-clause-limit c =
    first_end 0 (2 ^ 64 - 1) c.loop-left.left.now (record { start = 0; len = 0 }) (omega arith) c.loop-left.invariant.order

pub frames_for-left-requires-clause-ascend : goal.frames_for-left-requires-clause-ascend
frames_for-left-requires-clause-ascend c =
    let f : Range = get_or c.loop-left.left.now 0 (record { start = 0; len = 0 }) in
    ascend-lower 0 (f.start + f.len) (2 ^ 64 - 1) c.split_inside.result.1.now (omega arith)
    c.split_inside.ensures.others

pub loop-left-init : goal.loop-left-init
loop-left-init c = record {
  made = refl;
  front = ([], sym (append-nil c.args.found.now.items));
  ascend = c.requires.ascend;
  order = c.requires.order;
}

pub loop-left-preserved : goal.loop-left-preserved
loop-left-preserved c =
    let d : Range = record { start = 0; len = 0 } in
    let left : List Range = c.loop-left.left.now in
    let f : Range = get_or left 0 d in
    let after : List ℕ = c.split_inside.result.1.now in
    let inside : List ℕ = c.split_inside.result.0.now in
    let step : filter (is_live left) c.loop-left.rest.now ≡ inside ++ filter (is_live (drop 1 left)) after =
    cut_first (2 ^ 64 - 1) left (drop 1 left) d c.loop-left.rest.now c.split_below.result.0.now c.split_below.result.1.now inside after
    (omega arith) refl c.loop-left.invariant.order c.split_below.ensures.whole c.split_inside.ensures.whole
    c.split_below.ensures.below c.split_below.ensures.others
    c.split_inside.ensures.below c.split_inside.ensures.others in
    let same : filter (is_live c.frames_for-left.result.now) after ≡ filter (is_live (drop 1 left)) after =
    c.frames_for-left.ensures.same ∙ ap (λ (l : List Range). filter (is_live l) after) (take_rest left 1) in
    record {
      made =
          ap (λ (l : List ℕ). l ++ filter (is_live c.frames_for-left.result.now) after) c.in_ok-extend_from_slice.ensures.items
          ∙ append_assoc c.loop-left.found.items inside (filter (is_live c.frames_for-left.result.now) after)
          ∙ ap (λ (l : List ℕ). c.loop-left.found.items ++ (inside ++ l)) same
          ∙ ap (λ (l : List ℕ). c.loop-left.found.items ++ l) (sym step)
          ∙ c.loop-left.invariant.made;
      front = (
        c.loop-left.invariant.front.0 ++ inside,
        c.in_ok-extend_from_slice.ensures.items
            ∙ ap (λ (l : List ℕ). l ++ inside) c.loop-left.invariant.front.1
            ∙ append_assoc c.args.found.now.items c.loop-left.invariant.front.0 inside,
      );
      ascend = ascend-lower 0 (f.start + f.len) (2 ^ 64 - 1) after (omega arith) c.split_inside.ensures.others;
      order = c.frames_for-left.ensures.order;
    }

pub returns-in_err-extend_from_slice-clause-front : goal.returns-in_err-extend_from_slice-clause-front
returns-in_err-extend_from_slice-clause-front c =
    let front = c.loop-left.invariant.front in
    on_err c.from_residual.result (front.0, c.in_err-extend_from_slice.ensures.items ∙ front.1)

pub returns-clause-ok : goal.returns-clause-ok
returns-clause-ok c =
    sym (append-nil c.loop-left.found.items)
    ∙ ap (λ (l : List ℕ). c.loop-left.found.items ++ l) (sym (none_left c.loop-left.left.now c.loop-left.rest.now (omega arith)))
    ∙ c.loop-left.invariant.made
