use Rattle.wu_gcl.specs.declared.expressions.Op.TheVariants.{FollowedBy}
use Rattle.wu_gcl.specs.Regions.{Mark, Both}
use Rattle.wu_solve.specs.Addresses.{stands_by}
use Rattle.wu_cursor.specs.declared.directions.Direction.TheVariants.{Backward}
use Rattle.wu_cursor.specs.Within.{set_in}
use Rattle.wu_cursor.proofs.Flat.{region_flat, nearest_whole}
use Rattle.wu_cursor.proofs.operands.last_between.Goals as goal

pub returns : goal.returns
returns c =
    let region = Both FollowedBy (Mark c.args.first) (Mark c.args.last) in
    nearest_whole Backward c.args.frame.len (set_in region c.args.lists.now c.args.frame) c.args.to c.in_ok-end.end c.in_ok-start.start
    (region_flat region (stands_by c.args.lists.now c.args.frame.start) c.args.frame.len) c.in_ok-start.ensures c.in_ok-end.ensures
