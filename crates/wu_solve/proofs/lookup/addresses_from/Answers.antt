use Rattle.std.proofs.Common.{◌∙◌}
use Rattle.std.proofs.lemmas.List.{take_rest}
use Rattle.wu_solve.proofs.Numbers.{from_bound}
use Rattle.wu_solve.proofs.lookup.addresses_from.Goals as goal

pub returns : goal.returns
returns c = take_rest c.args.addresses.now c.below.result ∙ from_bound c.args.addresses.now c.args.bound c.below.result c.below.ensures
