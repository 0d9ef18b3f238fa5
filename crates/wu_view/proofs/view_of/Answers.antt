use Rattle.std.proofs.Common.{◌∙◌, ap, List}
use Rattle.wu_access.specs.declared.UserRec.{UserRec}
use Rattle.wu_view.specs.Groups.{grouped}
use Rattle.wu_view.specs.Views.{view_for, view_of}
use Rattle.wu_view.specs.OrderedWalks.{ordered_whole}
use Rattle.wu_view.specs.Walks.{Found}
use Rattle.wu_tree.specs.FileSystems.{FileSystem}
use Rattle.wu_view.proofs.FilesInOrder.{grouped_is_the_view}
use Rattle.wu_view.proofs.view_of.Goals as goal

pub returns : goal.returns
unfolding view_of
returns c =
    c.in_ok-kept.ensures
    ∙ ap (λ (l : List Found). grouped l)
    (c.in_ok-links.ensures ∙ ap (λ (fs : FileSystem). ordered_whole fs c.in_ok-walker.walker.user) c.in_ok-walker.ensures.tree)
    ∙ grouped_is_the_view c.args.tree.now c.keeps_the_rules.ensures c.in_ok-walker.walker.user
    ∙ ap (λ (u : UserRec). view_for c.args.tree.now u) c.in_ok-walker.ensures.user
