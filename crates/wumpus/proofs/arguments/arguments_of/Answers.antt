use Rattle.std.proofs.Common.{ℕ, Ok, refl}
use Rattle.std.specs.Vec.Iter.{into_iter_items}
use Rattle.std.proofs.lemmas.Iterator.{items_from_collect}
use Rattle.std.proofs.lemmas.Iterator.Adapters.{YieldsList-from_vec}
use Rattle.wumpus.proofs.arguments.arguments_of.Goals as goal

-- what was collected are the items that were still to come
pub returns-in-Ok-collect-clause-texts : goal.returns-in-Ok-collect-clause-texts
returns-in-Ok-collect-clause-texts c =
    let args = c.in-Ok.args in
    rw c.in-Ok.is
    (items_from_collect {E = ℕ} (Ok c.in-Ok-collect.arguments) c.in-Ok-collect.ensures.ran
    (YieldsList-from_vec (into_iter_items args) refl args.rest.ok.0))
