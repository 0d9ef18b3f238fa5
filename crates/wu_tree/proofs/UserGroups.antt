-- The groups of a tree's users, and other groups of one of them.
use Rattle.std.proofs.Common.{◌≡◌, ℕ, List, [], ◌∷◌, refl, ap, sym, ◌∙◌, subst}
use Rattle.std.specs.Prelude.{Option, None, Some, map, unwrap_or}
use Rattle.std.specs.Option.{option_map}
use Rattle.std.specs.Ordering.{nat_cmp}
use Rattle.std.specs.List.{AllByRecursion}
use Rattle.std.specs.List.Sorted.{IsStrictlySortedBy}
use Rattle.std.specs.Map.{lookup}
use Rattle.std.specs.BTreeMap.{is_at, insert_entry}
use Rattle.std.specs.Cmp.{nat_cmp_total}
use Rattle.std.proofs.lemmas.Map.Lookups.{exact_unsigned}
use Rattle.wu_access.specs.declared.acls.Acl.{Acl}
use Rattle.wu_access.specs.declared.UserRec.{UserRec}
use Rattle.wu_tree.specs.declared.inodes.Inode.{Inode}
use Rattle.wu_tree.specs.Inodes.{users_in, file_system, IsSound}
use Rattle.wu_tree.specs.FileSystems.{FileSystem, Link, groups_of}
use Rattle.wu_tree.specs.Rules.{IsTree, IsLink}
use Rattle.wu_base.proofs.MapEntries.{ascend-insert_entry, insert_entry-read, All-insert_entry, All-map, All-found}

pub groups_ascend : (fs : FileSystem) → IsTree fs → (uid : ℕ) → IsStrictlySortedBy nat_cmp (groups_of fs uid)
unfolding IsStrictlySortedBy
groups_ascend fs t uid =
    elim (lookup (is_at (nat_cmp uid)) fs.users) as
    (λ o. lookup (is_at (nat_cmp uid)) fs.users ≡ o → IsStrictlySortedBy nat_cmp (unwrap_or o [])) [
      | None ↦ λ p. tt
      | Some groups ↦ λ p. (All-found (λ user. IsStrictlySortedBy nat_cmp user.1) (is_at (nat_cmp uid)) fs.users groups t.groups_ascend p).2
    ] refl

-- ---- a user with other groups
module _ (inodes : List (ℕ × Inode)) (links : List Link) (users : List (ℕ × UserRec)) (acls : List (ℕ × Acl)) (s : IsSound inodes links users acls) where
  module _ (uid : ℕ) (groups : List ℕ) where
    abbrev pub user_of : UserRec
    user_of = record { uid = uid; groups = groups }

    users_put : users_in (insert_entry nat_cmp users uid user_of) ≡ insert_entry nat_cmp (users_in users) uid groups
    users_put = sym (insert_entry-read (λ (u : UserRec). u.groups) nat_cmp users uid user_of)

    pub user_view : file_system inodes links (insert_entry nat_cmp users uid user_of) acls
        ≡ record (file_system inodes links users acls) { users = insert_entry nat_cmp (users_in users) uid groups }
    user_view = ap (λ (u : List (ℕ × List ℕ)). record (file_system inodes links users acls) { users = u }) users_put

    pub user_keeps : IsStrictlySortedBy nat_cmp groups
        → IsTree (record (file_system inodes links users acls) { users = insert_entry nat_cmp (users_in users) uid groups })
    user_keeps ascends = record {
      users_ascend = ascend-insert_entry nat_cmp_total (users_in users) uid groups s.tree.users_ascend;
      groups_ascend = All-insert_entry (λ user. IsStrictlySortedBy nat_cmp user.1) nat_cmp (users_in users) uid groups s.tree.groups_ascend
          (λ q e. ascends) ascends;
      nodes_ascend = s.tree.nodes_ascend;
      links_ascend = s.tree.links_ascend;
      acls_ascend = s.tree.acls_ascend;
      numbered = s.tree.numbered;
      root = s.tree.root;
      links =
          All-map (IsLink (file_system inodes links users acls))
          (IsLink (record (file_system inodes links users acls) { users = insert_entry nat_cmp (users_in users) uid groups })) links
          (λ l p. record { parent = p.parent; child = p.child; no_root = p.no_root; name = p.name }) s.tree.links;
      nodes = s.tree.nodes;
      acls = s.tree.acls;
    }

    pub user_sound : IsStrictlySortedBy nat_cmp groups → IsSound inodes links (insert_entry nat_cmp users uid user_of) acls
    user_sound ascends = record {
      tree = subst (λ (u : List (ℕ × List ℕ)). IsTree (record (file_system inodes links users acls) { users = u })) (sym users_put)
          (user_keeps ascends);
      held = s.held;
      keyed = All-insert_entry (λ e. e.1.uid ≡ e.0) nat_cmp users uid user_of s.keyed (λ q e. exact_unsigned uid q e) refl;
      heights = s.heights;
    }

-- ---- users as a walk over the values meets them
pub map_through : {X Y Z : Type 0} (f : X → Y) (g : Y → Z) (o : Option X) → option_map (λ x. g (f x)) o ≡ option_map g (option_map f o)
map_through f g None = refl
map_through f g (Some x) = refl

pub users_by_value : (users : List (ℕ × UserRec)) → AllByRecursion (λ e. e.1.uid ≡ e.0) users
    → map (λ (u : UserRec). (u.uid, u.groups)) (map (λ e. e.1) users) ≡ users_in users
users_by_value [] k = refl
users_by_value (e ∷ es) k = ap (λ (n : ℕ). (n, e.1.groups) ∷ map (λ (u : UserRec). (u.uid, u.groups)) (map (λ e. e.1) es)) k.0
    ∙ ap (λ (l : List (ℕ × List ℕ)). (e.0, e.1.groups) ∷ l) (users_by_value es k.1)
