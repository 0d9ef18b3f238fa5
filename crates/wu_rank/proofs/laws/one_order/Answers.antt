use Rattle.wu_rank.proofs.Sorting.{in_order-is}
use Rattle.wu_rank.proofs.Orders.{is-in_order}
use Rattle.wu_rank.proofs.laws.one_order.Goals as goal

pub returns-clause-sorted : goal.returns-clause-sorted
returns-clause-sorted c = in_order-is

pub returns-clause-alone : goal.returns-clause-alone
returns-clause-alone c = is-in_order
