use Rattle.std.proofs.Common.{◌≡◌, ◌∙◌, ℕ, List, [], sym, ap, subst}
use Rattle.std.specs.Prelude.{unwrap_or}
use Rattle.std.specs.Option.{option_map}
use Rattle.std.specs.Ordering.{nat_cmp}
use Rattle.std.specs.List.Sorted.{IsStrictlySortedBy}
use Rattle.std.proofs.lemmas.Map.Made.{lookup-map_values}
use Rattle.wu_tree.specs.FileSystems.{groups_of}
use Rattle.wu_tree.specs.Inodes.{file_system}
use Rattle.wu_tree.proofs.UserGroups.{groups_ascend}
use Rattle.wu_tree.proofs.trees.Tree.groups_of.Goals as goal

pub returns-in-Some : goal.returns-in-Some
returns-in-Some c =
    let groups : c.as_slice.result.now
    ≡ groups_of (file_system c.self.inside.inodes.entries c.self.inside.links c.self.inside.users.entries c.self.inside.acls.entries) c.args.uid =
    c.as_slice.ensures ∙ ap (λ o. unwrap_or (option_map (λ u. u.groups) o) []) c.in-Some.ensures.value
    ∙ ap (λ o. unwrap_or o []) (sym (lookup-map_values (λ u. u.groups) _ c.self.inside.users.entries)) in
    record {
      groups = rw (← c.self.view_is) groups;
      ascend = subst (λ (l : List ℕ). IsStrictlySortedBy nat_cmp l) (sym groups) (groups_ascend _ c.self.invariant.tree c.args.uid);
    }

pub returns-in-None : goal.returns-in-None
returns-in-None c =
    let groups : [] ≡ groups_of (file_system c.self.inside.inodes.entries c.self.inside.links c.self.inside.users.entries c.self.inside.acls.entries) c.args.uid =
    ap (λ o. unwrap_or (option_map (λ u. u.groups) o) []) c.in-None.ensures.value
    ∙ ap (λ o. unwrap_or o []) (sym (lookup-map_values (λ u. u.groups) _ c.self.inside.users.entries)) in
    record {
      groups = rw (← c.self.view_is) groups;
      ascend = subst (λ (l : List ℕ). IsStrictlySortedBy nat_cmp l) (sym groups) (groups_ascend _ c.self.invariant.tree c.args.uid);
    }
