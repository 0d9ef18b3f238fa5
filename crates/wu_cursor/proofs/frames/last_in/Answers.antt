use Rattle.std.proofs.Common.{◌∙◌, ap, arith}
use Rattle.std.specs.Prelude.{Some}
use Rattle.wu_gcl.specs.Regions.{region_of}
use Rattle.wu_cursor.proofs.InFrames.{last_moved, none_moved_back, frame_behind}
use Rattle.wu_cursor.proofs.frames.last_in.Goals as goal

pub moved-requires-clause-fits : goal.moved-requires-clause-fits
moved-requires-clause-fits c = omega (arith, c.in_ok-extent.ensures.member.extent.within, c.requires.frame)

pub moved-requires-clause-ordered : goal.moved-requires-clause-ordered
moved-requires-clause-ordered c = c.in_ok-extent.ensures.member.extent.ordered

pub returns-then-address-frame : goal.returns-then-address-frame
returns-then-address-frame c =
    frame_behind (region_of c.args.expr.now) c.args.lists.now c.args.frame c.args.address (omega arith)

pub returns-in_err-extent : goal.returns-in_err-extent
returns-in_err-extent c =
    rw c.from_residual.ensures
    (none_moved_back (region_of c.args.expr.now) c.args.lists.now c.args.frame c.args.address c.in_err-extent.ensures)

pub returns : goal.returns
returns c =
    ap Some c.moved.ensures
    ∙ last_moved (region_of c.args.expr.now) c.args.lists.now c.args.frame c.args.address c.in_ok-extent.extent (omega arith)
    c.in_ok-extent.ensures
