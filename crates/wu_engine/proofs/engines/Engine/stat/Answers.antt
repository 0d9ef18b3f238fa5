use Rattle.std.proofs.Common.{Ok, ap, rules}
use Rattle.wu_engine.proofs.Sizes.{stat_told}
use Rattle.wu_engine.proofs.engines.Engine.stat.Goals as goal

pub returns-in-None-clause-stat : goal.returns-in-None-clause-stat
returns-in-None-clause-stat c = λ holds s stands. ap Ok (stat_told c.args.self.now holds s _ (search rules) stands)
