use Rattle.std.proofs.Common.{◌≡◌, take}
use Rattle.std.specs.Prelude.{map}
use Rattle.wu_view.specs.KeptViews.{kept_file}
use Rattle.wu_view.specs.LinkLists.{paths_of_directories}
use Rattle.wu_view.proofs.views.all_with_paths.Given as goal

abbrev pub invariant-loop-file : goal.invariant-loop-file
invariant-loop-file l = l.all.items ≡ map (kept_file (paths_of_directories l.directories)) (take l.file-index l.files)
