use Rattle.std.proofs.Common.{◌≡◌, ◌-◌, ◌<◌, ◌∙◌, ◌++◌, List, ap, arith, sym}
use Rattle.std.specs.List.{flat_map}
use Rattle.std.proofs.lemmas.List.{append-nil, map-id}
use Rattle.std.proofs.lemmas.Iterator.Consumers.{YieldsList-end}
use Rattle.std.proofs.lemmas.Iterator.Adapters.{YieldsList-from_vec}
use Rattle.wu_view.specs.LinkLists.{path_at}
use Rattle.wu_view.specs.declared.ordered_walks.Entry.{Entry}
use Rattle.wu_view.specs.OrderedWalks.{found_by, ordered}
use Rattle.wu_view.specs.Walks.{Found}
use Rattle.wu_view.proofs.WalkSteps.{ordered-suc, ordered-zero}
use Rattle.wu_view.proofs.ordered_walks.+walk.Goals as goal

pub returns-then-depth-eq0-clause-links : goal.returns-then-depth-eq0-clause-links
returns-then-depth-eq0-clause-links t c =
    sym (append-nil c.args.list.now.links)
    ∙ ap (λ (l : List Found). c.args.list.now.links ++ l)
    (sym (ordered-zero c.args.walker.now.tree c.args.walker.now.user c.args.depth c.args.directory
    (path_at c.args.list.now.directories c.args.place) c.if-depth-eq0.true))

pub returns-clause-links : goal.returns-clause-links
returns-clause-links t c =
    let z : 0 < c.args.depth = omega arith in
    let given = c.into_iter-entry-iterator.ensures.into_iter_gives in
    let ended = YieldsList-end
    (YieldsList-from_vec {s = c.into_iter-entry-iterator.result} c.in_ok-entry-items.entry-items.items given.0
    (given.1 ∙ c.in_ok-entry-items.entry-items.ok.0))
    c.loop-entry.yielded c.loop-entry.entry-iterator c.loop-entry.yielded_by c.next.result c.next.new.self c.in-None.is c.next.ensures.steps in
    let e : c.loop-entry.yielded ≡ c.in_ok-entry-items.entry-items.items = sym (map-id c.loop-entry.yielded) ∙ ended.0 in
    c.loop-entry.invariant.links
    ∙ ap
    (λ (l : List Entry). c.args.list.now.links
    ++ flat_map
    (found_by (ordered c.args.walker.now.tree c.args.walker.now.user (c.args.depth - 1)) (path_at c.args.list.now.directories c.args.place)) l)
    (e ∙ c.in_ok-entry-items.ensures)
    ∙ ap (λ (l : List Found). c.args.list.now.links ++ l)
    (sym (ordered-suc c.args.walker.now.tree c.args.walker.now.user c.args.depth c.args.directory
    (path_at c.args.list.now.directories c.args.place) z))
