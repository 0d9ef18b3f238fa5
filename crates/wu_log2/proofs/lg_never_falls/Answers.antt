use Rattle.std.proofs.Common.{arith}
use Rattle.wu_log2.proofs.Digits.{lg-mono}
use Rattle.wu_log2.proofs.lg_never_falls.Goals as goal

pub returns : goal.returns
returns c = lg-mono c.args.low c.args.high c.requires.positive c.requires.ordered (omega arith)
