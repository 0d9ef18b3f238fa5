use Rattle.std.proofs.Common.{◌≡◌, ◌++◌, ◌∙◌, ◌+◌, ◌≤◌, List, drop, get_or, filter, sym, ap, arith, append-nil, append_assoc}
use Rattle.std.proofs.lemmas.List.{at_drop_all, drop_more}
use Rattle.std.proofs.lemmas.List.Elements.{filter-append, recursion_from_All}
use Rattle.wu_base.specs.declared.addresses.Extent.{Extent}
use Rattle.wu_solve.specs.Frames.{lies_in_one}
use Rattle.wu_solve.specs.Spanning.{from_last, lying_spans, spans_to, beyond}
use Rattle.wu_solve.proofs.NearSpans.{near, walked, last_increases, beyond_increases}
use Rattle.wu_solve.proofs.Sets.{all_has}
use Rattle.wu_solve.proofs.spanning.spans_near.Goals as goal

abbrev none : Extent
none = record { start = 0; end = 0 }

pub put_spans-requires-clause-starts : goal.put_spans-requires-clause-starts
put_spans-requires-clause-starts c =
    rw c.from_last-from.ensures
    (last_increases (get_or c.args.extents.now c.loop-extent.extent-index none).start c.loop-extent.rest.now c.loop-extent.invariant.up)

pub loop-extent-preserved : goal.loop-extent-preserved
loop-extent-preserved c =
    let extents = c.args.extents.now in
    let ends = c.args.ends.now in
    let frames = c.args.frames.now in
    let i = c.loop-extent.extent-index in
    let rest = c.loop-extent.rest.now in
    let old = c.loop-extent.found.items in
    let inv = c.loop-extent.invariant in
    let x = get_or extents i none in
    let from = from_last x.start rest in
    let here = lying_spans frames x.end from ends in
    let later = near (drop (i + 1) extents) (beyond x.end from) ends in
    let more = filter (lies_in_one frames) later in
    let split : filter (lies_in_one frames) (near (drop i extents) rest ends) ≡ here ++ more =
    ap (λ (xs : List Extent). filter (lies_in_one frames) (near xs rest ends)) (drop_more extents i none c.loop-extent-test.true)
    ∙ filter-append (lies_in_one frames) (spans_to x.end from ends) later in
    rw (c.in_ok-rest.ensures.rest, c.in_ok-rest.ensures.put, c.from_last-from.ensures) (record {
      up = beyond_increases x.end from (last_increases x.start rest inv.up);
      same = append_assoc old here more ∙ ap (λ (xs : List Extent). old ++ xs) (sym split) ∙ inv.same;
    })

pub returns : goal.returns
returns c =
    let extents = c.args.extents.now in
    let starts = c.args.starts.now in
    let ends = c.args.ends.now in
    let frames = c.args.frames.now in
    let inv = c.loop-extent.invariant in
    let found = c.loop-extent.found.items in
    let whole : found ≡ filter (lies_in_one frames) (near extents starts ends) =
    sym (append-nil found)
    ∙ ap (λ (xs : List Extent). found ++ filter (lies_in_one frames) (near xs c.loop-extent.rest.now ends))
    (sym (at_drop_all (λ (left : List Extent). left) extents c.loop-extent.extent-index (omega arith))) ∙ inv.same in
    rw whole (walked starts ends frames extents c.requires.starts c.requires.ends c.requires.extents
    (λ x has. all_has (λ (e : Extent). e.start ≤ e.end) extents x
    (recursion_from_All (λ (e : Extent). e.start ≤ e.end) extents c.requires.ordered) has))
