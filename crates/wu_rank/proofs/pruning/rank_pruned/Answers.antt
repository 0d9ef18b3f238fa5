use Rattle.std.proofs.Common.{◌≡◌, ◌<◌, ◌≤◌, List, ◌∙◌, take, ⊎_elim, arith}
use Rattle.std.proofs.lemmas.Bool.{cases_lt}
use Rattle.wu_base.specs.declared.addresses.TermList.{TermList}
use Rattle.wu_rank.specs.declared.results.Unit.{Unit as RankedUnit}
use Rattle.wu_rank.specs.Order.{listed}
use Rattle.wu_rank.specs.Scores.{count_at}
use Rattle.wu_rank.proofs.Bounds.{reaching-some, reaching-none}
use Rattle.wu_rank.proofs.pruning.rank_pruned.Goals as goal

pub returns-clause-weighed : goal.returns-clause-weighed
returns-clause-weighed g c =
    let units : List RankedUnit = c.args.units.now in
    let lists : List TermList = c.args.lists.now in
    let best : c.as_slice-best.result.now ≡ take c.args.k (listed count_at units lists) =
    c.as_slice-best.ensures ∙ c.in_ok-ranking.ensures.top in
    c.from-weighed.ensures
    ∙ ⊎_elim
    (λ (h : 0 < c.args.k).
    c.in_ok-weighed_of.ensures.some h ∙ reaching-some units lists c.args.k c.as_slice-best.result.now h best)
    (λ (h : c.args.k ≤ 0).
    let nothing : c.args.k ≡ 0 = omega arith in
    c.in_ok-weighed_of.ensures.none nothing ∙ reaching-none units lists c.args.k nothing)
    (cases_lt 0 c.args.k)
