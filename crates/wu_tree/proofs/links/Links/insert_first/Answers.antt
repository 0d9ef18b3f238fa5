use Rattle.std.proofs.Common.{◌≡◌, ◌∙◌, ap, false, refl}
use Rattle.std.specs.BTreeMap.{insert_entry}
use Rattle.std.specs.Ordering.{nat_cmp}
use Rattle.std.specs.Cmp.Lexicographic.{slice_cmp}
use Rattle.wu_tree.specs.Nested.{links_in}
use Rattle.wu_tree.specs.FileSystems.{has_entries}
use Rattle.wu_tree.proofs.LinksByDirectory.{put_new}
use Rattle.wu_tree.proofs.links.Links.insert_first.Goals as goal

pub returns-clause-ok : goal.returns-clause-ok
returns-clause-ok c =
    let none : has_entries (links_in (λ k. k.items) c.self.inside.directories.entries) c.args.parent
    ≡ false = rw c.self.view_is c.requires in
    rw (← c.self.view_is)
    (ap (links_in (λ k. k.items)) c.in_ok-insert-2.ensures.entries
    ∙ put_new _ _ (λ x y. refl) c.args.parent c.args.name c.args.child _ _ c.self.invariant none
    (c.in_ok-insert.ensures.entries
    ∙ ap (λ es. insert_entry (λ x y. slice_cmp nat_cmp x.items y.items) es c.args.name c.args.child) c.new-names.ensures.empty))
