use Rattle.std.proofs.Common.{◌≤◌, List, ap, length, subst, sym}
use Rattle.std.specs.List.{AllByRecursion}
use Rattle.wu_view.specs.declared.links.FileLink.{FileLink}
use Rattle.wu_view.specs.LinkLists.{LinksByPath}
use Rattle.wu_view.proofs.KeptPaths.{is_there, one_more}
use Rattle.wu_view.proofs.links.LinkList.add_link.Goals as goal

pub invariant_of-self-2 : goal.invariant_of-self-2
invariant_of-self-2 c =
    let there : c.args.directory ≤ length c.self.inside.directories.items =
    is_there c.self.inside.directories.items c.args.self.now.directories c.args.directory
    (ap (λ (x : LinksByPath). x.directories) c.self.view_is) c.requires in
    subst (λ (l : List FileLink). AllByRecursion (λ found. found.link.directory ≤ length c.self.inside.directories.items) l)
    (sym c.in_ok-push.ensures.items)
    (one_more (length c.self.inside.directories.items) c.self.inside.links.items _ c.self.invariant there)
