use Rattle.std.proofs.Common.{◌≡◌, ◌<◌, List, ◌∙◌, ap, map, subst, sym, length, take, rules}
use Rattle.std.specs.List.{AllByRecursion}
use Rattle.std.proofs.lemmas.List.Elements.{All-from_recursion}
use Rattle.wu_rank.specs.declared.entries.Entry.{Entry}
use Rattle.wu_rank.specs.declared.results.Ranked.{Ranked}
use Rattle.wu_rank.specs.Entries.{ranked_at}
use Rattle.wu_rank.specs.Scores.{count_at, all_listed, score_if_listed}
use Rattle.wu_rank.specs.Order.{in_order, listed}
use Rattle.wu_rank.proofs.Orders.{length-in_order}
use Rattle.wu_rank.proofs.Parts.{length-listed, listed_within, ranked_are}
use Rattle.wu_rank.proofs.scoring.rank.Goals as goal

pub choose-requires : goal.choose-requires
choose-requires g c =
    All-from_recursion (λ (e : Entry). e.unit < length c.args.units.now) c.deref-2.result.now
    (subst (λ (es : List Entry). AllByRecursion (λ (e : Entry). e.unit < length c.args.units.now) es)
    (sym (c.deref-2.ensures.value ∙ c.in_ok-scores.ensures.value))
    (listed_within c.args.units.now (score_if_listed count_at c.args.units.now c.args.lists.now)))

pub returns-clause-listed : goal.returns-clause-listed
unfolding listed
returns-clause-listed g c =
    let e : c.len-listed.result ≡ length c.in_ok-scores.scores.items = search rules in
    e
    ∙ ap length c.in_ok-scores.ensures.value
    ∙ length-listed c.args.units.now c.args.lists.now
    ∙ sym (length-in_order (all_listed count_at c.args.units.now c.args.lists.now))

pub returns-clause-top : goal.returns-clause-top
unfolding listed
returns-clause-top g c =
    c.from-top.ensures
    ∙ c.in_ok-choose.ensures
    ∙ ap (λ (es : List Entry). take c.args.k (in_order (map (ranked_at c.args.units.now) es)))
    (c.deref-2.ensures.value ∙ c.in_ok-scores.ensures.value)
    ∙ ap (λ (xs : List Ranked). take c.args.k (in_order xs)) (ranked_are c.args.units.now c.args.lists.now)
