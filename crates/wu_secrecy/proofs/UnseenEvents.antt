-- An event that shows in nothing that a user may search leaves the files of her view, and their paths.
use Rattle.std.proofs.Common.{◌≡◌, ℕ, Bool, true, false, cond, refl, ap, sym, ◌∙◌, subst}
use Rattle.std.specs.Prelude.{Option, None, Some, is_some}
use Rattle.std.specs.Cmp.{nat_cmp_total, eq_by_cmp_equiv}
use Rattle.std.specs.Ordering.{is_eq, nat_cmp}
use Rattle.std.specs.BTreeMap.{is_at}
use Rattle.std.proofs.lemmas.Map.{lookup-set_value}
use Rattle.wu_access.specs.declared.acls.Acl.{Acl}
use Rattle.wu_access.specs.declared.Perm.{Perm}
use Rattle.wu_tree.specs.declared.events.Event.{Event}
use Rattle.wu_tree.specs.declared.events.Event.TheVariants.{User, Mkdir, Create, Text, Link, Unlink, Rmdir, Rename, Chmod, Chown}
use Rattle.wu_tree.specs.declared.events.Event.TheVariants.{Acl as SetAcl}
use Rattle.wu_tree.specs.declared.events.Node.{Node}
use Rattle.wu_tree.specs.FileSystems.{FileSystem, acl_of, is_directory_node, is_file_node, is_there, node_of}
use Rattle.wu_tree.specs.Rules.{IsTree}
use Rattle.wu_tree.specs.Steps.{absent_rules, next, refusal_of, with_acl_set, with_perm}
use Rattle.wu_tree.proofs.EventRules.{none_applies, not_false}
use Rattle.wu_tree.proofs.ParentPaths.{same_number}
use Rattle.wu_view.specs.Views.{view_of}
use Rattle.wu_frames.specs.declared.links.LinkChanges.{LinkChanges}
use Rattle.wu_frames.specs.Links.{IsLinkChange, links_changed, sees_none}
use Rattle.wu_frames.specs.Permissions.{IsPermChange}
use Rattle.wu_frames.proofs.LinkEvents.{links-create, links-link, links-mkdir, links-rename, links-rmdir, links-unlink}
use Rattle.wu_frames.proofs.SeenLinks.{view_of-relinked}
use Rattle.wu_engine.proofs.AclFrames.{list_set}
use Rattle.wu_secrecy.specs.Unseen.{AdmitsAlike, IsUnseen}
use Rattle.wu_secrecy.proofs.ViewsAlike.{view_of-alike}

-- ---- links

-- the same change, the other way round
changed-back : (before after : FileSystem) (links : LinkChanges) → IsTree after → IsLinkChange before links after
    → IsLinkChange after links before
changed-back before after links t c = record {
  rules = t;
  went = c.came;
  came = c.went;
  nodes = λ ino node now h g. let same = c.nodes ino now node g h in (sym same.0, sym same.1);
  users = sym c.users;
}

unseen-links : (before after : FileSystem) (links : LinkChanges) → IsTree after → IsLinkChange before links after → (uid : ℕ)
    → sees_none before links uid ≡ true → view_of after uid ≡ view_of before uid
unseen-links before after links t c uid h =
    sym (view_of-relinked after before c.rules links (changed-back before after links t c) uid h)

-- ---- what a node grants

module _ (before after : FileSystem) (ino : ℕ) (node : Node) (acl : Option Acl) (change : IsPermChange before ino node acl after) where
  node-now : (q : ℕ) → node_of after q ≡ cond (is_eq (nat_cmp ino q)) (Some (record node { perm = change.perm })) (node_of before q)
  node-now q =
      ap (λ (f : FileSystem). node_of f q) change.changed
      ∙ lookup-set_value (eq_by_cmp_equiv nat_cmp_total) (is_at (nat_cmp ino))
      (λ x y h. ap (λ (n : ℕ). is_eq (nat_cmp n y)) (same_number ino x h)) q (record node { perm = change.perm }) before.nodes
      (ap is_some change.there)

  -- each node is of the kind that it was
  kind-same : (P : Option Node → Bool) → P (Some (record node { perm = change.perm })) ≡ P (Some node)
      → (q : ℕ) → P (node_of after q) ≡ P (node_of before q)
  kind-same P same q =
      ap P (node-now q)
      ∙ elim (is_eq (nat_cmp ino q)) as
      (λ b. is_eq (nat_cmp ino q) ≡ b → P (cond b (Some (record node { perm = change.perm })) (node_of before q)) ≡ P (node_of before q)) [
        | true ↦ λ p. same ∙ sym (ap P (subst (λ (n : ℕ). node_of before n ≡ Some node) (same_number ino q p) change.there))
        | false ↦ λ p. refl
      ] refl

  unseen-change : IsTree before → IsTree after → (uid : ℕ) → AdmitsAlike before after uid → view_of after uid ≡ view_of before uid
  unseen-change s t uid alike =
      view_of-alike before after s t (ap (λ (f : FileSystem). f.links) change.changed)
      (kind-same is_file_node refl) (kind-same is_directory_node refl) uid alike

module _ (fs : FileSystem) (s : IsTree fs) (ino uid : ℕ) where
  unseen-perm : (change : Perm → Perm) (o : Option Node) → node_of fs ino ≡ o → IsTree (with_perm change fs ino o)
      → AdmitsAlike fs (with_perm change fs ino o) uid → view_of (with_perm change fs ino o) uid ≡ view_of fs uid
  unseen-perm change None there t alike = refl
  unseen-perm change (Some node) there t alike =
      unseen-change fs (with_perm change fs ino (Some node)) ino node (acl_of fs ino)
      (record { perm = change node.perm; acls = fs.acls; there = there; had = refl; others = λ q n. refl; changed = refl }) s t uid alike

  unseen-acl : (acl : Option Acl) (mask : ℕ) (o : Option Node) → node_of fs ino ≡ o → is_some o ≡ true
      → IsTree (with_acl_set fs ino acl mask) → AdmitsAlike fs (with_acl_set fs ino acl mask) uid
      → view_of (with_acl_set fs ino acl mask) uid ≡ view_of fs uid
  unseen-acl acl mask None there some t alike = absurd cc
  unseen-acl acl mask (Some node) there some t alike =
      unseen-change fs (with_acl_set fs ino acl mask) ino node (acl_of fs ino) (list_set fs ino node there acl mask) s t uid alike

-- ---- an event that is accepted

module _ (fs : FileSystem) (s : IsTree fs) (uid : ℕ) where
  pub unseen-tree : (event : Event) → IsTree (next fs event) → refusal_of fs event ≡ None → IsUnseen fs uid event
      → view_of (next fs event) uid ≡ view_of fs uid
  unseen-tree (User other groups) t h alike =
      view_of-alike fs (next fs (User other groups)) s t refl (λ q. refl) (λ q. refl) uid alike
  unseen-tree (Mkdir ino parent name perm) t h none =
      let links = links_changed fs (Mkdir ino parent name perm) in
      unseen-links fs (next fs (Mkdir ino parent name perm)) links t (links-mkdir fs s ino parent name perm h) uid none
  unseen-tree (Create ino parent name perm) t h none =
      let links = links_changed fs (Create ino parent name perm) in
      unseen-links fs (next fs (Create ino parent name perm)) links t (links-create fs s ino parent name perm h) uid none
  unseen-tree (Text ino) t h none = refl
  unseen-tree (Link ino parent name) t h none =
      let links = links_changed fs (Link ino parent name) in
      unseen-links fs (next fs (Link ino parent name)) links t (links-link fs s ino parent name h) uid none
  unseen-tree (Unlink parent name) t h none =
      let links = links_changed fs (Unlink parent name) in
      unseen-links fs (next fs (Unlink parent name)) links t (links-unlink fs s parent name) uid none
  unseen-tree (Rmdir parent name) t h none =
      let links = links_changed fs (Rmdir parent name) in
      unseen-links fs (next fs (Rmdir parent name)) links t (links-rmdir fs s parent name h) uid none
  unseen-tree (Rename parent name new_parent new_name) t h none =
      let links = links_changed fs (Rename parent name new_parent new_name) in
      unseen-links fs (next fs (Rename parent name new_parent new_name)) links t
      (links-rename fs s parent name new_parent new_name h) uid none
  unseen-tree (Chmod ino mode) t h alike =
      unseen-perm fs s ino uid (λ perm. record perm { mode = mode }) (node_of fs ino) refl t alike
  unseen-tree (Chown ino owner group) t h alike =
      unseen-perm fs s ino uid (λ perm. record perm { uid = owner; gid = group }) (node_of fs ino) refl t alike
  unseen-tree (SetAcl ino acl mask) t h alike =
      unseen-acl fs s ino uid acl mask (node_of fs ino) refl
      (not_false (is_there fs ino) (none_applies (absent_rules fs ino) h).0) t alike
