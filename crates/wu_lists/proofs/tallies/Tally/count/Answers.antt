use Rattle.std.proofs.Common.{◌∙◌, arith}
use Rattle.wu_lists.proofs.Tallying.{counted_frame}
use Rattle.wu_lists.proofs.tallies.Tally.count.Goals as goal

pub returns-in-len1-up : goal.returns-in-len1-up
returns-in-len1-up c = c.count_to.ensures ∙ counted_frame c.args.start c.args.self.now c.args.addresses.now 0 (omega arith)
