use Rattle.std.proofs.Common.{◌<◌, List, length, sym, subst, ◌∙◌}
use Rattle.std.specs.List.{AllByRecursion}
use Rattle.std.proofs.lemmas.List.Elements.{All-from_recursion}
use Rattle.wu_rank.specs.declared.entries.Entry.{Entry}
use Rattle.wu_rank.specs.Pruning.{bound_if_listed}
use Rattle.wu_rank.specs.Scores.{count_at}
use Rattle.wu_rank.proofs.Parts.{listed_within}
use Rattle.wu_rank.proofs.pruning.weighed_of.Goals as goal

pub reached-requires : goal.reached-requires
reached-requires c =
    All-from_recursion (λ (e : Entry). e.unit < length c.args.units.now) c.deref-2.result.now
    (subst (λ (es : List Entry). AllByRecursion (λ (e : Entry). e.unit < length c.args.units.now) es)
    (sym (c.deref-2.ensures.value ∙ c.in_ok-bounds.ensures.value))
    (listed_within c.args.units.now (bound_if_listed count_at c.args.units.now c.args.lists.now)))
