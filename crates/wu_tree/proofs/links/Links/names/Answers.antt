use Rattle.std.proofs.Common.{sym}
use Rattle.wu_tree.proofs.LinksByDirectory.{entries_some, entries_none}
use Rattle.wu_tree.proofs.links.Links.names.Goals as goal

pub returns-in-Some : goal.returns-in-Some
returns-in-Some c = rw (← c.self.view_is)
    (sym (entries_some (λ k. k.items) c.args.directory c.self.inside.directories.entries _ c.self.invariant (sym c.in-Some.ensures.value)))

pub returns-in-None : goal.returns-in-None
returns-in-None c = rw (← c.self.view_is)
    (entries_none (λ k. k.items) c.args.directory c.self.inside.directories.entries (sym c.in-None.ensures.value))
