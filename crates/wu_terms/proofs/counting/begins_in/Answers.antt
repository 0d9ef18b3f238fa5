use Rattle.std.proofs.Common.{arith}
use Rattle.wu_terms.proofs.InFrames.{some_tell}
use Rattle.wu_terms.proofs.counting.begins_in.Goals as goal

pub returns-in-len1-up : goal.returns-in-len1-up
returns-in-len1-up c = some_tell c.args.frame.now c.args.addresses.now (omega arith) c.requires.ascending c.requires.from
