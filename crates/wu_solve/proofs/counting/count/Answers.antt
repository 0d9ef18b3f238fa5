use Rattle.std.proofs.Common.{◌+◌, arith}
use Rattle.wu_base.specs.declared.addresses.Range.{Range}
use Rattle.wu_gcl.specs.Regions.{region_of}
use Rattle.wu_solve.proofs.FrameCounts.{hits_more, hits_taken}
use Rattle.wu_solve.proofs.counting.count.Goals as goal

pub count_apart-requires-in-loop-frame-clause-few : goal.count_apart-requires-in-loop-frame-clause-few
count_apart-requires-in-loop-frame-clause-few c =
    let region = region_of c.args.expr.now in
    let lists = c.args.lists.now in
    let frames = c.args.frames.now in
    let i = c.loop-frame.frame-index in
    let e : Range = record { start = 0; len = 0 } in
    let more = hits_more region lists frames i e c.loop-frame-test.true in
    let all = hits_taken region lists frames (i + 1) in
    omega (arith, more, all, c.requires.few)

pub overflow_add-hits : goal.overflow_add-hits
overflow_add-hits c =
    let region = region_of c.args.expr.now in
    let lists = c.args.lists.now in
    let frames = c.args.frames.now in
    let i = c.loop-frame.frame-index in
    let e : Range = record { start = 0; len = 0 } in
    let more = hits_more region lists frames i e c.loop-frame-test.true in
    let all = hits_taken region lists frames (i + 1) in
    omega (arith, more, all, c.requires.few, c.in_ok-counts.ensures.hits, c.loop-frame.invariant.hits)
