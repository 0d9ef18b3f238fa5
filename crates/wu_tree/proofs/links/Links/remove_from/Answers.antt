use Rattle.std.proofs.Common.{◌∙◌, sym, ap}
use Rattle.wu_tree.specs.Nested.{links_in}
use Rattle.wu_tree.proofs.LinksByDirectory.{remove_some, remove_none}
use Rattle.wu_tree.proofs.links.Links.remove_from.Goals as goal
use Rattle.wu_tree.proofs.links.Links.remove_from.Goals.{in-Some, in_default}

pub returns : goal.returns
returns c =
    elim c.match-get_mut.branch [
      | in-Some w ↦
          rw (w.self-inside-is, ← c.self.view_is)
          (ap (links_in (λ k. k.items)) (c.get_mut.follows.holds w.remove.new.self).0
          ∙ remove_some _ c.args.parent c.args.name.now _ _ _ c.self.invariant (sym w.in-Some.ensures.value) w.remove.ensures.entries)
      | in_default w ↦ let h = c.get_mut.follows.holds-at-none in rw (w.self-inside-is, h, ← c.self.view_is)
          (remove_none (λ k. k.items) c.args.parent c.args.name.now c.self.inside.directories.entries (sym w.in_default.ensures.value))
    ]
