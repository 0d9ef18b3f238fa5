use Rattle.std.proofs.Common.{◌+◌, ◌∙◌, ◌++◌, ap, arith, leb-true}
use Rattle.std.specs.Prelude.{nat_le}
use Rattle.wu_gcl.specs.Regions.{region_of}
use Rattle.wu_solve.specs.FirstExtents.{from_start}
use Rattle.wu_solve.specs.Solving.{frames_hits}
use Rattle.wu_solve.proofs.Results.{frames_ascend}
use Rattle.wu_cursor.proofs.InFrames.{found_low}
use Rattle.wu_cursor.proofs.InLists.{put_first, put_none, put_start}
use Rattle.wu_cursor.proofs.lazily.put_extents.Goals as goal

pub loop-extent-init : goal.loop-extent-init
loop-extent-init c =
    put_start c.args.found.now.items (frames_hits (region_of c.args.expr.now) c.args.lists.now c.args.frames.now)

pub overflow_add-place : goal.overflow_add-place
overflow_add-place c =
    let region = region_of c.args.expr.now in
    let hits = frames_hits region c.args.lists.now c.args.frames.now in
    let up = frames_ascend region c.args.lists.now c.args.frames.now c.requires.apart in
    let found = rw (c.new-cursor.ensures.expr, c.new-cursor.ensures.lists, c.new-cursor.ensures.frames) at c.in-Some.ensures in
    let low = found_low region c.args.lists.now c.args.frames.now (λ x. nat_le c.loop-extent.place x.start) c.in-Some.extent c.requires.frames found in
    omega (arith, low.0, low.1)

pub loop-extent-smaller : goal.loop-extent-smaller
loop-extent-smaller c =
    let region = region_of c.args.expr.now in
    let hits = frames_hits region c.args.lists.now c.args.frames.now in
    let up = frames_ascend region c.args.lists.now c.args.frames.now c.requires.apart in
    let found = rw (c.new-cursor.ensures.expr, c.new-cursor.ensures.lists, c.new-cursor.ensures.frames) at c.in-Some.ensures in
    let low = found_low region c.args.lists.now c.args.frames.now (λ x. nat_le c.loop-extent.place x.start) c.in-Some.extent c.requires.frames found in
    omega (arith, low.0, low.1, leb-true c.loop-extent.place c.in-Some.extent.start low.2)

pub loop-extent-preserved : goal.loop-extent-preserved
loop-extent-preserved c =
    let region = region_of c.args.expr.now in
    let hits = frames_hits region c.args.lists.now c.args.frames.now in
    let up = frames_ascend region c.args.lists.now c.args.frames.now c.requires.apart in
    let found = rw (c.new-cursor.ensures.expr, c.new-cursor.ensures.lists, c.new-cursor.ensures.frames) at c.in-Some.ensures in
    ap (λ items. items ++ from_start (c.in-Some.extent.start + 1) hits) c.in_ok-push-in-Some.ensures.items
    ∙ put_first c.loop-extent.found.items hits _ c.loop-extent.place c.in-Some.extent up found c.loop-extent.invariant

pub returns-in-None : goal.returns-in-None
returns-in-None c =
    let region = region_of c.args.expr.now in
    let hits = frames_hits region c.args.lists.now c.args.frames.now in
    let up = frames_ascend region c.args.lists.now c.args.frames.now c.requires.apart in
    let found = rw (c.new-cursor.ensures.expr, c.new-cursor.ensures.lists, c.new-cursor.ensures.frames) at c.in-None.ensures in
    put_none c.loop-extent.found.items hits _ c.loop-extent.place up found c.loop-extent.invariant
