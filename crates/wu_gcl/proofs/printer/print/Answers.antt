use Rattle.std.proofs.Common.{◌≡◌}
use Rattle.wu_gcl.specs.Regions.{region_of}
use Rattle.wu_gcl.specs.Printing.{printed}
use Rattle.wu_gcl.proofs.Reprint.{printed_again}
use Rattle.wu_gcl.proofs.printer.print.Goals as goal

pub returns-clause-again : goal.returns-clause-again
returns-clause-again c =
    let text : c.put_expr.new.out.items ≡ printed (region_of c.args.expr.now) = rw c.new-out.ensures.items at c.in_ok-put_expr.ensures in
    λ from spells. rw text (printed_again (region_of c.args.expr.now) from spells)
