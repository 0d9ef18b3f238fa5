use Rattle.std.proofs.Common.{ℕ, List, get_or, ap, ◌∙◌, arith}
use Rattle.wu_rank.specs.declared.results.Unit.{Unit as RankedUnit}
use Rattle.wu_rank.specs.Entries.{entries, times_in}
use Rattle.wu_rank.proofs.Ascending.{all_from_first, units-drop}
use Rattle.wu_rank.proofs.Sparse.{skip_units, no_addresses}
use Rattle.wu_rank.proofs.sweeping.units_for.Goals as goal

pub returns-in-empty-clause-same : goal.returns-in-empty-clause-same
returns-in-empty-clause-same c = λ end. no_addresses c.args.addresses.now end c.args.units.now c.in-empty.len_below

pub returns-in-len1-up-clause-same : goal.returns-in-len1-up-clause-same
returns-in-len1-up-clause-same c = λ end.
    let xs : List ℕ = c.args.addresses.now in
    ap (λ (us : List RankedUnit). entries (times_in xs) end us) c.split_at.ensures.back
    ∙ skip_units (get_or xs 0 0) xs c.count_ended.result end c.args.units.now (all_from_first 0 0 xs (omega arith) c.requires.ascend)
    c.count_ended.ensures.ended

pub returns-in-len1-up-clause-order : goal.returns-in-len1-up-clause-order
returns-in-len1-up-clause-order c = rw c.split_at.ensures.back (units-drop c.count_ended.result c.args.units.now c.requires.order)
