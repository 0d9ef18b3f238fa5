-- Kinds of events that show in nothing that a user may search.
use Rattle.std.proofs.Common.{◌≡◌, ◌≢◌, ℕ, Bool, true, false, ◌&&◌, ◌||◌, not, List, refl, ap, sym, ◌∙◌, subst}
use Rattle.std.specs.Prelude.{Option, None, Some, option_map}
use Rattle.std.specs.Cmp.{nat_cmp_total}
use Rattle.std.specs.Ordering.{is_eq, nat_cmp}
use Rattle.std.specs.Map.{lookup, remove_entry}
use Rattle.std.specs.BTreeMap.{insert_entry, is_at}
use Rattle.wu_base.specs.SortedOnce.{sorted_once}
use Rattle.wu_base.proofs.MapEntries.{lookup-insert_entry, lookup-remove_other, lookup-set_other, number_itself}
use Rattle.wu_access.specs.declared.acls.Acl.{Acl}
use Rattle.wu_access.specs.declared.Perm.{Perm}
use Rattle.wu_access.specs.Access.{is_allowed}
use Rattle.wu_tree.specs.declared.events.Event.{Event}
use Rattle.wu_tree.specs.declared.events.Event.TheVariants.{User, Mkdir, Create, Text, Link, Unlink, Rmdir, Rename, Chmod, Chown}
use Rattle.wu_tree.specs.declared.events.Event.TheVariants.{Acl as SetAcl}
use Rattle.wu_tree.specs.declared.events.Kind.TheVariants.{File}
use Rattle.wu_tree.specs.declared.events.Node.{Node}
use Rattle.wu_tree.specs.FileSystems.{FileSystem, acl_of, child_of, groups_of, is_directory, node_of}
use Rattle.wu_tree.specs.Steps.{next, with_acl_set, with_mask, with_perm, with_user, without_acl}
use Rattle.wu_tree.proofs.LinkRemovals.{apart_from}
use Rattle.wu_tree.proofs.ParentPaths.{other_number, same_number}
use Rattle.wu_tree.proofs.PathsDown.{no_second}
use Rattle.wu_view.specs.Views.{is_open, user_with}
use Rattle.wu_frames.specs.Links.{is_shown, is_some_shown, link_to_some}
use Rattle.wu_frames.specs.Permissions.{user_in, want_of}
use Rattle.wu_secrecy.specs.Unseen.{AdmitsAlike, IsBelowClosed, IsUnseen, admits, admits_node, is_closed, is_reachable}

-- ---- a directory that is closed to her

not_open : (b : Bool) → not b ≡ true → b ≡ false
not_open true h = absurd cc
not_open false h = refl

none-shown : (a b c : Bool) → a ≡ false → b ≡ false → c ≡ false → not (a || b || c) ≡ true
none-shown a b c p q r = rw (p, q, r) refl

module _ (fs : FileSystem) (uid directory : ℕ) (closed : is_closed fs uid directory ≡ true) where
  -- no link in it is shown to her
  link-closed : (node : Node) (acl : Option Acl)
      → is_shown fs (user_in fs uid) (record { directory = directory; node = node; acl = acl }) ≡ false
  link-closed node acl =
      no_second (is_allowed (user_in fs uid) node.perm acl (want_of node.kind) && is_directory fs directory)
      (is_open fs (user_in fs uid) directory) (not_open (is_open fs (user_in fs uid) directory) closed)

  node-closed : (acl : Option Acl) (o : Option Node)
      → is_some_shown fs (user_in fs uid) (option_map (λ node. record { directory = directory; node = node; acl = acl }) o) ≡ false
  node-closed acl None = refl
  node-closed acl (Some node) = link-closed node acl

  name-closed : (o : Option ℕ) → is_some_shown fs (user_in fs uid) (link_to_some fs directory o) ≡ false
  name-closed None = refl
  name-closed (Some ino) = node-closed (acl_of fs ino) (node_of fs ino)

-- ---- what one node grants

-- every other node is as it was, with its access list, and so are the groups of users
pub record KeepsOthers (before : FileSystem) (ino : ℕ) (after : FileSystem) : Type 0 where
  pub nodes : (q : ℕ) → q ≢ ino → node_of after q ≡ node_of before q
  pub acls : (q : ℕ) → q ≢ ino → acl_of after q ≡ acl_of before q
  pub users : after.users ≡ before.users

pub others-perm : (change : Perm → Perm) (fs : FileSystem) (ino : ℕ) (o : Option Node) → KeepsOthers fs ino (with_perm change fs ino o)
others-perm change fs ino None = record { nodes = λ q n. refl; acls = λ q n. refl; users = refl }
others-perm change fs ino (Some node) = record {
  nodes = λ q n. lookup-set_other (is_at (nat_cmp q)) (is_at (nat_cmp ino)) (λ k p. apart_from ino q k n p) fs.nodes
      (record node { perm = change node.perm });
  acls = λ q n. refl;
  users = refl;
}

module _ (fs : FileSystem) (ino : ℕ) where
  others-lists : (mask : ℕ) (acls : List (ℕ × Acl)) → ((q : ℕ) → q ≢ ino → lookup (is_at (nat_cmp q)) acls ≡ acl_of fs q)
      → KeepsOthers fs ino (with_perm (with_mask mask) (record fs { acls = acls }) ino (node_of fs ino))
  others-lists mask acls same =
      let others = others-perm (with_mask mask) (record fs { acls = acls }) ino (node_of fs ino) in
      record { nodes = others.nodes; acls = λ q n. others.acls q n ∙ same q n; users = others.users }

  others-gone : (had : Option Acl) → KeepsOthers fs ino (without_acl fs ino had)
  others-gone None = record { nodes = λ q n. refl; acls = λ q n. refl; users = refl }
  others-gone (Some acl) =
      others-lists acl.owning (remove_entry (is_at (nat_cmp ino)) fs.acls)
      (λ q n. lookup-remove_other (is_at (nat_cmp q)) (is_at (nat_cmp ino)) (λ k p. apart_from ino q k n p) fs.acls)

  pub others-acl : (acl : Option Acl) (mask : ℕ) → KeepsOthers fs ino (with_acl_set fs ino acl mask)
  others-acl None mask = others-gone (acl_of fs ino)
  others-acl (Some acl) mask =
      others-lists mask (insert_entry nat_cmp fs.acls ino acl)
      (λ q n. lookup-insert_entry nat_cmp_total fs.acls ino acl q ∙ rw (other_number q ino n) refl)

module _ (before after : FileSystem) (uid ino : ℕ) (others : KeepsOthers before ino after) where
  alike-elsewhere : (q : ℕ) → q ≢ ino → admits after uid q ≡ admits before uid q
  alike-elsewhere q apart = λ i.
      admits_node (user_in (record before { users = others.users i }) uid) (others.acls q apart i) (others.nodes q apart i)

  apart-by : (q : ℕ) → is_eq (nat_cmp ino q) ≡ false → q ≢ ino
  apart-by q h e =
      let t : is_eq (nat_cmp ino q) ≡ true = subst (λ (n : ℕ). is_eq (nat_cmp n q) ≡ true) e (number_itself q) in
      let f : true ≡ false = sym t ∙ h in
      cc

  -- where it lets her in as before, all do
  pub alike-at : (is_reachable before uid ino ≡ true → admits after uid ino ≡ admits before uid ino) → AdmitsAlike before after uid
  alike-at alike q reached =
      elim (is_eq (nat_cmp ino q)) as (λ b. is_eq (nat_cmp ino q) ≡ b → admits after uid q ≡ admits before uid q) [
        | true ↦ λ p.
            let same : ino ≡ q = same_number ino q p in
            subst (λ (n : ℕ). admits after uid n ≡ admits before uid n) same
            (alike (subst (λ (n : ℕ). is_reachable before uid n ≡ true) (sym same) reached))
        | false ↦ λ p. alike-elsewhere q (apart-by q p)
      ] refl

  alike-unreached : is_reachable before uid ino ≡ false → AdmitsAlike before after uid
  alike-unreached h = alike-at (λ reached. absurd (let f : true ≡ false = sym reached ∙ h in cc))

-- ---- another user's groups

pub groups-unseen : (fs : FileSystem) (uid other : ℕ) (groups : List ℕ) → uid ≢ other → IsUnseen fs uid (User other groups)
groups-unseen fs uid other groups apart q reached =
    let same : groups_of (with_user fs other groups) uid ≡ groups_of fs uid =
    rw (lookup-insert_entry nat_cmp_total fs.users other (sorted_once nat_cmp groups) uid, other_number uid other apart) refl in
    ap (λ (g : List ℕ). admits_node (user_with uid g) (acl_of fs q) (node_of fs q)) same

-- ---- below a closed directory

pub below-unseen : (fs : FileSystem) (uid : ℕ) (event : Event) → IsBelowClosed fs uid event → IsUnseen fs uid event
below-unseen fs uid (User other groups) below = absurd below
below-unseen fs uid (Mkdir ino parent name perm) below = refl
below-unseen fs uid (Create ino parent name perm) below =
    none-shown _ false false (link-closed fs uid parent below (record { kind = File; perm = perm }) None) refl refl
below-unseen fs uid (Text ino) below = ap (λ (b : Bool). b && admits fs uid ino) below
below-unseen fs uid (Link ino parent name) below =
    none-shown _ false false (node-closed fs uid parent below (acl_of fs ino) (node_of fs ino)) refl refl
below-unseen fs uid (Unlink parent name) below =
    none-shown false _ false refl (name-closed fs uid parent below (child_of fs parent name)) refl
below-unseen fs uid (Rmdir parent name) below = refl
below-unseen fs uid (Rename parent name new_parent new_name) below =
    none-shown _ _ _ (name-closed fs uid new_parent below.1 (child_of fs parent name))
    (name-closed fs uid parent below.0 (child_of fs parent name))
    (name-closed fs uid new_parent below.1 (child_of fs new_parent new_name))
below-unseen fs uid (Chmod ino mode) below =
    alike-unreached fs (next fs (Chmod ino mode)) uid ino
    (others-perm (λ perm. record perm { mode = mode }) fs ino (node_of fs ino)) below
below-unseen fs uid (Chown ino owner group) below =
    alike-unreached fs (next fs (Chown ino owner group)) uid ino
    (others-perm (λ perm. record perm { uid = owner; gid = group }) fs ino (node_of fs ino)) below
below-unseen fs uid (SetAcl ino acl mask) below =
    alike-unreached fs (next fs (SetAcl ino acl mask)) uid ino (others-acl fs ino acl mask) below
