use Rattle.std.proofs.Common.{◌∙◌, sym}
use Rattle.wu_tree.proofs.LinksByDirectory.{any_some, any_none, not_empty}
use Rattle.wu_tree.proofs.links.Links.has_entries.Goals as goal

pub returns-in-Some : goal.returns-in-Some
returns-in-Some c =
    rw (← c.self.view_is)
    (not_empty _ _ c.is_empty.ensures ∙ sym (any_some _ c.args.directory _ _ c.self.invariant (sym c.in-Some.ensures.value)))

pub returns-in-None : goal.returns-in-None
returns-in-None c = rw (← c.self.view_is) (sym (any_none _ c.args.directory _ (sym c.in-None.ensures.value)))
