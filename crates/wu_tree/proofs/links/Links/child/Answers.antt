use Rattle.std.proofs.Common.{◌∙◌, sym}
use Rattle.wu_tree.proofs.LinksByDirectory.{lookup_some, lookup_none}
use Rattle.wu_tree.proofs.links.Links.child.Goals as goal

pub returns : goal.returns
returns c =
    rw (← c.self.view_is)
    (c.copied.ensures ∙ c.get-2.ensures.value
    ∙ sym (lookup_some _ c.args.directory c.args.name.now _ _ c.self.invariant (sym c.in_ok-get.ensures.value)))

pub returns-in_err-get : goal.returns-in_err-get
returns-in_err-get c = rw (← c.self.view_is)
    (c.from_residual.ensures ∙ sym (lookup_none _ c.args.directory c.args.name.now _ (sym c.in_err-get.ensures.value)))
