use Rattle.wu_engine.proofs.ListedPaths.{view_kept}
use Rattle.wu_engine.proofs.OpenedStates.{on_any_ok}
use Rattle.wu_engine.proofs.listing.keep_view.Goals as goal

pub returns-clause-view : goal.returns-clause-view
returns-clause-view c =
    on_any_ok _ c.count_paths.result
    (view_kept c.args.tree.now c.args.space.now.ranges c.args.uid c.prepare.new.self c.in-Some.frames.now c.prepare.ensures.right
    c.in-Some.ensures)
