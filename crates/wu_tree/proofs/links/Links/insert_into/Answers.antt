use Rattle.std.proofs.Common.{◌≡◌, ◌∙◌, sym, ap, refl, true, false, rules}
use Rattle.wu_tree.specs.Nested.{links_in}
use Rattle.wu_tree.specs.FileSystems.{has_entries}
use Rattle.wu_tree.proofs.LinksByDirectory.{put_some, same_links, any_none}
use Rattle.wu_tree.proofs.links.Links.insert_into.Goals as goal
use Rattle.wu_tree.proofs.links.Links.insert_into.Goals.{in-Some+in_ok-insert, in_default}

pub returns-in_err-insert-clause-err : goal.returns-in_err-insert-clause-err
returns-in_err-insert-clause-err c =
    let same : links_in (λ k. k.items) (c.get_mut.follows.lender c.insert.new.self).entries ≡ c.args.self.now =
    ap (links_in (λ k. k.items)) (c.get_mut.follows.holds c.insert.new.self).0
    ∙ same_links (λ k. k.items) c.args.parent _ _ _ (sym c.in-Some.ensures.value) c.in_err-insert.ensures.err ∙ c.self.view_is in
    search (same, rules)

pub returns-clause-ok : goal.returns-clause-ok
returns-clause-ok c =
    elim c.match-get_mut.branch [
      | in-Some+in_ok-insert w ↦
          rw (w.self-inside-is, ← c.self.view_is)
          (ap (links_in (λ k. k.items)) (c.get_mut.follows.holds w.insert.new.self).0
          ∙ put_some _ _ (λ x y. refl) c.args.parent c.args.name c.args.child _ _ _ c.self.invariant
          (sym w.in-Some.ensures.value) w.in_ok-insert.ensures.entries)
      | in_default w ↦
          let none : has_entries c.args.self.now c.args.parent
          ≡ false = rw (← c.self.view_is)
          (any_none (λ k. k.items) c.args.parent c.self.inside.directories.entries (sym w.in_default.ensures.value)) in
          absurd (let f : true ≡ false = sym c.requires ∙ none in cc)
    ]
