use Rattle.wu_log2.proofs.Digits.{lg-of_power}
use Rattle.wu_log2.proofs.lg_of_power.Goals as goal

pub returns : goal.returns
returns c = lg-of_power c.args.power c.requires
