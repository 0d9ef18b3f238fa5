use Rattle.std.proofs.Common.{◌∙◌, List, ap}
use Rattle.wu_view.specs.declared.Seen.{Seen}
use Rattle.wu_view.specs.Groups.{with_found}
use Rattle.wu_view.specs.LinkLists.{file_at}
use Rattle.wu_view.proofs.GroupedLinks.{one_link}
use Rattle.wu_view.proofs.views.by_file.Goals as goal

pub loop-found-preserved : goal.loop-found-preserved
loop-found-preserved c = record {
  places = c.in_ok-add_link.ensures.places;
  files = λ paths.
      c.in_ok-add_link.ensures.files paths
      ∙ ap (λ (l : List Seen). with_found l (file_at paths c.in-Some.found)) (c.loop-found.invariant.files paths)
      ∙ one_link paths c.loop-found.yielded c.in-Some.found;
}
