use Rattle.std.proofs.Common.{◌∙◌, ap}
use Rattle.wu_view.specs.Groups.{grouped}
use Rattle.wu_view.specs.LinkLists.{LinksByPath, paths_of_directories}
use Rattle.wu_view.proofs.views.View.of_links.Goals as goal

pub returns : goal.returns
returns c =
    c.in_ok-files.ensures (paths_of_directories c.into_parts-directories.result.0.items)
    ∙ ap (λ (l : LinksByPath). grouped l.links) c.into_parts-directories.ensures
