use Rattle.std.proofs.Common.{◌-◌, arith}
use Rattle.wu_solve.proofs.Numbers.{increasing_not_below}
use Rattle.wu_solve.proofs.lookup.passed_over.Goals as goal

pub returns-clause-front : goal.returns-clause-front
returns-clause-front c = λ k less.
    let far = increasing_not_below c.args.addresses.now c.requires k (c.args.remembered - 1) (omega arith) (omega arith) in
    omega (arith, far)
