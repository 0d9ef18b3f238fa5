use Rattle.std.proofs.Common.{arith}
use Rattle.wu_query.proofs.FilesAtPlaces.{paths_more}
use Rattle.wu_query.proofs.listing.paths.Goals as goal

pub loop-place-preserved : goal.loop-place-preserved
loop-place-preserved c =
    paths_more c.args.view.now c.loop-place.place c.loop-place.paths.items c.put_paths.new.paths.items
    (omega (arith, c.loop-place-test.true, c.len-place-end.ensures)) c.in_ok-put_paths.ensures c.loop-place.invariant
