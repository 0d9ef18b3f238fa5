use Rattle.std.proofs.Common.{rules, ◌≡◌, ◌∙◌, List, ap, length}
use Rattle.std.specs.Prelude.{map}
use Rattle.wu_view.specs.declared.links.Directory.{Directory}
use Rattle.wu_view.specs.LinkLists.{LinksByPath, file_at, paths_of_directories}
use Rattle.wu_view.proofs.KeptPaths.{links_stay, place_is}
use Rattle.wu_view.proofs.links.LinkList.add_directory.Goals as goal

pub returns-clause-place : goal.returns-clause-place
returns-clause-place c =
    let n : c.len.result ≡ length c.push.new.self.items = search rules in
    place_is c.self.inside.directories.items c.push.new.self.items _ c.args.self.now.directories c.len.result n
    c.in_ok-push.ensures.items (ap (λ (x : LinksByPath). x.directories) c.self.view_is)

pub returns-clause-links : goal.returns-clause-links
returns-clause-links c =
    ap (λ (l : List Directory). map (file_at (paths_of_directories l)) c.self.inside.links.items) c.in_ok-push.ensures.items
    ∙ links_stay c.self.inside.directories.items _ c.self.inside.links.items c.self.invariant
    ∙ ap (λ (x : LinksByPath). x.links) c.self.view_is
