use Rattle.std.proofs.Common.{◌≡◌, ◌∙◌, sym, ap, false}
use Rattle.wu_tree.specs.Nested.{links_in}
use Rattle.wu_tree.specs.FileSystems.{has_entries}
use Rattle.wu_tree.proofs.LinksByDirectory.{drop_empty}
use Rattle.wu_tree.proofs.links.Links.drop_if_empty.Goals as goal
use Rattle.wu_tree.proofs.links.Links.drop_if_empty.Goals.{in-Some-1, in-None-1}

pub returns-then-not-has_entries : goal.returns-then-not-has_entries
returns-then-not-has_entries c =
    let none : has_entries (links_in (λ k. k.items) c.self.inside.directories.entries) c.args.directory
    ≡ false = rw c.self.view_is (sym c.if-not-has_entries.ensures) in
    let same : links_in (λ k. k.items) c.remove.new.self.entries ≡ c.args.self.now =
    ap (links_in (λ k. k.items)) c.remove.ensures.entries
    ∙ drop_empty (λ k. k.items) c.args.directory c.self.inside.directories.entries none ∙ c.self.view_is in
    elim c.match-remove.branch [ in-Some-1 w ↦ w.self-is ∙ same | in-None-1 w ↦ w.self-is ∙ same ]
