use Rattle.std.proofs.Common.{arith}
use Rattle.wu_engine.proofs.ListedPaths.{counted_all, counted_more}
use Rattle.wu_engine.proofs.listing.count_paths.Goals as goal

pub loop-place-preserved : goal.loop-place-preserved
loop-place-preserved c =
    counted_more c.args.view.now c.loop-place.place c.loop-place.count c.in_ok-count.count
    (omega (arith, c.loop-place-test.true, c.len-place-end.ensures)) c.in_ok-count.ensures c.loop-place.invariant

pub returns : goal.returns
returns c =
    counted_all c.args.view.now c.loop-place.place c.loop-place.count
    (omega (arith, c.loop-place-test.false, c.len-place-end.ensures)) c.loop-place.invariant
