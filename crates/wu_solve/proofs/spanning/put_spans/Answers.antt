use Rattle.std.proofs.Common.{◌≡◌, ◌++◌, ◌∙◌, ◌<◌, ◌≤◌, List, length, get_or, drop, filter, sym, ap, arith, append-nil, append_assoc}
use Rattle.std.proofs.lemmas.Grind.{common_steps}
use Rattle.std.proofs.lemmas.List.Elements.{filter-append}
use Rattle.wu_base.specs.declared.addresses.Extent.{Extent}
use Rattle.wu_solve.specs.Frames.{lies_in_one}
use Rattle.wu_solve.specs.Spanning.{first_span, listed, lying_spans, spans_to}
use Rattle.wu_solve.proofs.Numbers.{increasing_dropped}
use Rattle.wu_solve.proofs.NearSpans.{step_spans, stopped}
use Rattle.wu_solve.proofs.spanning.put_spans.Goals as goal

pub loop-start-preserved : goal.loop-start-preserved
loop-start-preserved c =
    let rest = c.loop-start.rest.now in
    let ends = c.args.ends.now in
    let frames = c.args.frames.now in
    let bound = c.args.bound in
    let old = c.loop-start.found.items in
    let some : 0 < length rest = grind (arith, common_steps) in
    let low : get_or rest 0 0 ≤ bound = grind (arith, common_steps) in
    let inv = c.loop-start.invariant in
    let step = step_spans bound ends rest some low in
    let here = filter (lies_in_one frames) (listed (first_span rest ends)) in
    let more = filter (lies_in_one frames) (spans_to bound (drop 1 rest) ends) in
    let split : lying_spans frames bound rest ends ≡ here ++ more =
    ap (filter (lies_in_one frames)) step.0
    ∙ filter-append (lies_in_one frames) (listed (first_span rest ends)) (spans_to bound (drop 1 rest) ends) in
    rw (c.behind-rest.ensures, c.in_ok-put_first.ensures) (record {
      up = increasing_dropped 1 rest inv.up;
      left = sym step.1 ∙ inv.left;
      same = append_assoc old here more ∙ ap (λ (xs : List Extent). old ++ xs) (sym split) ∙ inv.same;
    })

pub returns-then-bound-start : goal.returns-then-bound-start
returns-then-bound-start c =
    let rest = c.loop-start.rest.now in
    let frames = c.args.frames.now in
    let inv = c.loop-start.invariant in
    let over : 0 < length rest → c.args.bound < get_or rest 0 0 = λ some. grind (arith, common_steps) in
    let s = stopped c.args.bound c.args.ends.now rest over in
    record {
      rest = sym s.1 ∙ inv.left;
      put = sym (append-nil c.loop-start.found.items)
          ∙ ap (λ (xs : List Extent). c.loop-start.found.items ++ filter (lies_in_one frames) xs) (sym s.0) ∙ inv.same;
    }

pub returns : goal.returns
returns c =
    let rest = c.loop-start.rest.now in
    let frames = c.args.frames.now in
    let inv = c.loop-start.invariant in
    let none : length rest ≡ 0 = grind (arith, common_steps) in
    let over : 0 < length rest → c.args.bound < get_or rest 0 0 = λ some. absurd (omega (arith, none, some)) in
    let s = stopped c.args.bound c.args.ends.now rest over in
    record {
      rest = sym s.1 ∙ inv.left;
      put = sym (append-nil c.loop-start.found.items)
          ∙ ap (λ (xs : List Extent). c.loop-start.found.items ++ filter (lies_in_one frames) xs) (sym s.0) ∙ inv.same;
    }
