-- A file system that has no other names than another and whose nodes grant no more is a part of it for every user but 0.
use Rattle.std.proofs.Common.{◌≡◌, ◌≢◌, ℕ, List, [], ◌∷◌, ◌++◌, refl, ap, sym, ◌∙◌, subst, Bool, true, false, cond, not, inl, inr}
use Rattle.std.specs.Prelude.{◌⊎◌, ◌&&◌, ◌==◌, Option, None, Some, is_some, unwrap_or, Ok, Result}
use Rattle.std.specs.Ordering.{nat_cmp}
use Rattle.std.specs.Map.{lookup}
use Rattle.std.specs.BTreeMap.{is_at}
use Rattle.std.proofs.lemmas.Bool.{and_parts, and_from}
use borrow.Author.Tests.{eqb-true, eqb-false}
use Rattle.wu_access.specs.declared.acls.Acl.{Acl}
use Rattle.wu_access.specs.declared.Perm.{Perm}
use Rattle.wu_access.specs.declared.UserRec.{UserRec}
use Rattle.wu_access.specs.declared.Want.{Want}
use Rattle.wu_access.specs.declared.Want.TheVariants.{Read, Execute}
use Rattle.wu_access.specs.Access.{IsDecidedByCases, is_allowed}
use Rattle.wu_tree.specs.declared.events.Effect.{Effect}
use Rattle.wu_tree.specs.declared.events.Event.{Event}
use Rattle.wu_tree.specs.declared.events.Kind.TheVariants.{Directory}
use Rattle.wu_tree.specs.declared.events.Node.{Node}
use Rattle.wu_tree.specs.declared.events.Refusal.{Refusal}
use Rattle.wu_tree.specs.FileSystems.{FileSystem, acl_of, node_of, child_of, groups_of, is_file, is_file_node, is_directory_node, is_kind_file, is_there}
use Rattle.wu_tree.specs.Rules.{IsTree}
use Rattle.wu_tree.specs.Steps.{IsEvent, effect_of, next, refusal_of, unless_refused}
use Rattle.wu_tree.proofs.KeptTrees.{step_keeps}
use Rattle.wu_view.specs.Views.{is_granted_node, is_readable, may, user_with}
use Rattle.wu_mirror.specs.declared.batches.Batch.{Batch}
use Rattle.wu_mirror.specs.Searches.{GrantsNoMore, IsPartFor, MaySearch}
use Rattle.wu_mirror.specs.Moments.{FindsNoMore, HasClosed, LeadsTo, node_with}
use Rattle.wu_mirror.proofs.Lookups.{same_some}
use Rattle.wu_mirror.proofs.RightsLess.{moded, nothing_allowed}
use Rattle.wu_mirror.proofs.ViewGrowth.{nothing_shown, view_grows}

-- ---- nodes that let a user in
pub node_there : (o : Option Node) → is_some o ≡ true → (node : Node) × (o ≡ Some node)
node_there None h = absurd cc
node_there (Some node) h = (node, refl)

pub granted_node : (user : UserRec) (want : Want) (acl : Option Acl) (o : Option Node) → is_granted_node user want acl o ≡ true
    → (node : Node) × (o ≡ Some node) × (is_allowed user node.perm acl want ≡ true)
granted_node user want acl None h = absurd cc
granted_node user want acl (Some node) h = (node, refl, h)

node_granted : (user : UserRec) (want : Want) (acl : Option Acl) (o : Option Node) (node : Node) → o ≡ Some node
    → is_allowed user node.perm acl want ≡ true
    → is_granted_node user want acl o ≡ true
node_granted user want acl o node e h = subst (λ p. is_granted_node user want acl p ≡ true) (sym e) h

-- ---- parts
-- no other names but in the closed directory, and nodes that grant no more
pub record IsPartOf (part whole : FileSystem) : Type 0 where
  pub names : (directory : ℕ) (name : List ℕ) (child : ℕ) → directory ≢ 2 → child_of part directory name ≡ Some child
      → child_of whole directory name ≡ Some child
  pub nodes : (ino : ℕ) (node other : Node) → node_of part ino ≡ Some node → node_of whole ino ≡ Some other
      → (node.kind ≡ other.kind) × GrantsNoMore node.perm (acl_of part ino) other.perm (acl_of whole ino)

module _ (part whole : FileSystem) (p : IsPartOf part whole) (c : HasClosed whole) (user : UserRec) (u : user.uid ≢ 0) where
  -- a node that both have lets her in there only where it lets her in here
  lets_in : (want : Want) (ino : ℕ) → is_there whole ino ≡ true → may part user want ino ≡ true
      → (node other : Node) × (node_of part ino ≡ Some node) × (node_of whole ino ≡ Some other) × (node.kind ≡ other.kind)
      × (may whole user want ino ≡ true)
  lets_in want ino there m =
      let g = granted_node user want (acl_of part ino) (node_of part ino) m in
      let w = node_there (node_of whole ino) there in
      let n = p.nodes ino g.0 w.0 g.1 w.1 in
      (g.0, w.0, g.1, w.1, n.0, node_granted user want (acl_of whole ino) (node_of whole ino) w.0 w.1 (n.1 user want u g.2))

  closed_to_her : may part user Execute 2 ≡ true → ⊥
  closed_to_her m =
      let l = lets_in Execute 2 (ap is_some c.node) m in
      let perm : Perm = record { uid = 0; gid = 0; mode = 0 } in
      let g = granted_node user Execute (acl_of whole 2) (node_of whole 2) l.5 in
      let same : g.0 ≡ l.1 = same_some g.0 l.1 (sym g.1 ∙ l.3) in
      let shut : l.1.perm ≡ perm = ap (λ (n : Node). n.perm) (same_some l.1 (node_with Directory perm) (sym l.3 ∙ c.node)) in
      let allowed : is_allowed user perm (acl_of whole 2) Execute ≡ true =
      subst (λ (q : Perm). is_allowed user q (acl_of whole 2) Execute ≡ true) (ap (λ (n : Node). n.perm) same ∙ shut) g.2 in
      let none : is_allowed user perm (acl_of whole 2) Execute ≡ false = nothing_allowed perm (acl_of whole 2) user Execute u in cc

  pub part_for : IsPartFor user part whole
  part_for = record {
    names = λ directory name child m found.
        elim (directory == 2) as (λ b. (directory == 2) ≡ b → child_of whole directory name ≡ Some child) [
          | true ↦ λ e. absurd (closed_to_her (subst (λ x. may part user Execute x ≡ true) (eqb-true directory 2 e) m))
          | false ↦ λ e. p.names directory name child (eqb-false directory 2 e) found
        ] refl;
    passes = λ directory there m. (lets_in Execute directory there m).5;
    reads = λ ino there r.
        let b = and_parts (is_file part ino) (may part user Read ino) r in
        let l = lets_in Read ino there b.1 in
        let file : is_kind_file l.0.kind ≡ true = subst (λ o. is_file_node o ≡ true) l.2 b.0 in
        let whole_file : is_file whole ino ≡ true = subst (λ o. is_file_node o ≡ true) (sym l.3)
        (subst (λ k. is_kind_file k ≡ true) l.4 file) in
        and_from (is_file whole ino) (may whole user Read ino) whole_file l.5;
  }

-- ---- what is shown
pub groups_alike : (fs other : FileSystem) → fs.users ≡ other.users → (uid : ℕ) → groups_of fs uid ≡ groups_of other uid
groups_alike fs other h uid = ap (λ (users : List (ℕ × List ℕ)). unwrap_or (lookup (is_at (nat_cmp uid)) users) []) h

-- the root is shut to all but user 0
abbrev pub RootShut : FileSystem → Type 0
RootShut fs = (node : Node) → node_of fs 1 ≡ Some node → node.perm.mode ≡ 0

module _ (law : IsDecidedByCases) (before after : FileSystem) (tb : IsTree before) (ta : IsTree after) (cb : HasClosed before)
    (ca : HasClosed after) (uid : ℕ) (u : uid ≢ 0) where
  pub shows_before : (fs : FileSystem) → IsTree fs → IsPartOf fs before → fs.users ≡ before.users → FindsNoMore uid fs before
  shows_before fs t p g path ino m =
      view_grows law fs before t tb uid (groups_alike fs before g uid) (part_for fs before p cb (user_with uid (groups_of fs uid)) u) path ino m

  pub shows_after : (fs : FileSystem) → IsTree fs → IsPartOf fs after → fs.users ≡ after.users → FindsNoMore uid fs after
  shows_after fs t p g path ino m =
      view_grows law fs after t ta uid (groups_alike fs after g uid) (part_for fs after p ca (user_with uid (groups_of fs uid)) u) path ino m

  shut_root : (fs : FileSystem) (user : UserRec) → user.uid ≢ 0 → (o : Option Node) → ((node : Node) → o ≡ Some node → node.perm.mode ≡ 0)
      → is_granted_node user Execute (acl_of fs 1) o ≡ false
  shut_root fs user v None s = refl
  shut_root fs user v (Some node) s =
      let e : moded node.perm node.perm.mode ≡ moded node.perm 0 = ap (λ x. moded node.perm x) (s node refl) in
      subst (λ (q : Perm). is_allowed user q (acl_of fs 1) Execute ≡ false) (sym e) (nothing_allowed node.perm (acl_of fs 1) user Execute v)

  pub shows_none : (fs : FileSystem) → IsTree fs → RootShut fs → (other : FileSystem) → FindsNoMore uid fs other
  shows_none fs t s other path ino m =
      absurd (nothing_shown law fs t uid (shut_root fs (user_with uid (groups_of fs uid)) u (node_of fs 1) s) path ino m)

-- ---- an accepted event leaves a tree
pub tree_kept : (fs : FileSystem) → IsTree fs → (event : Event) → IsEvent event → refusal_of fs event ≡ None → IsTree (next fs event)
tree_kept fs t event v h =
    step_keeps fs t event (next fs event) (effect_of fs event) v
    (ap (λ (o : Option Refusal). unless_refused o (next fs event) (effect_of fs event)) h)
