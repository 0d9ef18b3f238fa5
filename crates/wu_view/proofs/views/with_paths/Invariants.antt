use Rattle.std.proofs.Common.{◌≡◌, ◌∷◌, take}
use Rattle.std.specs.Prelude.{map}
use Rattle.wu_view.specs.LinkLists.{link_path, paths_of_directories}
use Rattle.wu_view.proofs.views.with_paths.Given as goal

abbrev pub invariant-loop-link : goal.invariant-loop-link
invariant-loop-link l =
    l.paths.items ≡ map (link_path (paths_of_directories l.directories)) (l.file.first ∷ take l.link-index l.further)
