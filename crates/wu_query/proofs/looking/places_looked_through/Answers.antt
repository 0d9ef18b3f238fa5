use Rattle.std.proofs.Common.{◌∙◌}
use Rattle.wu_gcl.specs.Regions.{region_of}
use Rattle.wu_query.specs.Near.{lists_found}
use Rattle.wu_query.specs.Units.{AreUnits}
use Rattle.wu_query.proofs.FilesWithExtents.{looked_few}
use Rattle.wu_query.proofs.looking.places_looked_through.Goals as goal

pub returns-clause-files : goal.returns-clause-files
returns-clause-files c =
    let region = region_of c.args.expr.now in
    let lists = lists_found c.args.postings.now in
    let are : AreUnits region c.args.frames.now lists c.in_ok-units.units.items =
    c.in_ok-units.ensures region lists (c.deref.ensures.value ∙ (rw c.as_slice.ensures at c.in_ok-extents.ensures)) in
    looked_few region lists c.args.frames.now c.if-not-few.false (c.deref-2.ensures.value ∙ are.are)
    (rw c.from.ensures c.in_ok-places.ensures.files)
