use Rattle.std.proofs.Common.{◌≡◌, take, true, []}
use Rattle.std.specs.List.{list_all}
use Rattle.wu_tree.specs.FileSystems.{is_directory}
use Rattle.wu_tree.specs.Inodes.{file_system}
use Rattle.wu_tree.specs.Lists.{link_of, stand_test}
use Rattle.wu_tree.proofs.rebuild.links_stand.Given as goal

abbrev pub invariant-loop-link : goal.invariant-loop-link
invariant-loop-link l =
    (is_directory (file_system l.inodes.entries [] [] []) l.directory ≡ true)
    × (list_all (λ link. stand_test (file_system l.inodes.entries [] [] []) (link_of link)) (take l.link-index l.links) ≡ true)
