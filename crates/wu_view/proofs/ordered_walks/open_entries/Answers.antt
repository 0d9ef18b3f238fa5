use Rattle.std.proofs.Common.{rules, ◌≡◌, ◌∙◌, ap, sym}
use Rattle.std.specs.Prelude.{map}
use Rattle.std.specs.Map.Iter.{deref_pair}
use Rattle.std.proofs.lemmas.Map.Iter.{iter_end}
use Rattle.wu_view.specs.OrderedWalks.{open_entries}
use Rattle.wu_view.proofs.WalkSteps.{by_value, by_reference, shown}
use Rattle.wu_view.proofs.ordered_walks.open_entries.Goals as goal

pub returns : goal.returns
returns c =
    let e : map deref_pair c.loop-name.yielded ≡ c.args.names.now.entries = search (rules, iter_end) in
    let s : map by_reference c.loop-name.yielded ≡ map by_value c.args.names.now.entries = sym (shown c.loop-name.yielded)
    ∙ ap (map by_value) e in
    c.loop-name.invariant ∙ ap (open_entries c.args.walker.now.tree c.args.walker.now.user) s
