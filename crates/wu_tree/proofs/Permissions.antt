-- A node with other permissions leaves a tree.
use Rattle.std.proofs.Common.{◌≡◌, ℕ, ◌≤◌, List, [], ◌∷◌, refl, ap, sym, ◌∙◌, subst, Bool, true, false, cond}
use Rattle.std.specs.Prelude.{Option, Some, is_some}
use Rattle.std.specs.Ordering.{is_eq, nat_cmp}
use Rattle.std.specs.List.{AllByRecursion}
use Rattle.std.specs.Map.{lookup, set_value}
use Rattle.std.specs.BTreeMap.{is_at}
use Rattle.std.proofs.lemmas.Map.{keys-set_value}
use Rattle.wu_tree.specs.declared.events.Node.{Node}
use Rattle.wu_tree.specs.declared.inodes.Inode.{Inode}
use Rattle.wu_tree.specs.Inodes.{IsHeld}
use Rattle.wu_tree.specs.FileSystems.{FileSystem, Link, is_directory, is_directory_node, is_there, node_of}
use Rattle.wu_tree.specs.Rules.{IsAclOf, IsLink, Hangs, IsNumbered, IsTree}
use Rattle.wu_base.proofs.MapEntries.{All-found, All-map, All-set_value}
use Rattle.wu_tree.proofs.ParentPaths.{same_number}

set_cond : {X : Type 0} (f : Option X → Bool) (b : Bool) (u v w : Option X) → f u ≡ f v → f (cond b u w) ≡ f (cond b v w)
set_cond f true u v w h = h
set_cond f false u v w h = refl

tail_cond : {X : Type 0} (f : Option X → Bool) (b : Bool) (u v w : Option X) → f v ≡ f w → f (cond b u v) ≡ f (cond b u w)
tail_cond f true u v w h = refl
tail_cond f false u v w h = h

-- a test that doesn't tell a value from the one that it replaces
pub set_same : {X : Type 0} (f : Option X → Bool) (s t : ℕ → Bool) (es : List (ℕ × X)) (old v : X) → lookup t es ≡ Some old
    → f (Some v) ≡ f (Some old) → f (lookup s (set_value t es v)) ≡ f (lookup s es)
set_same f s t [] old v h e = refl
set_same f s t (x ∷ es) old v h e =
    elim (t x.0) as
    (λ b. cond b (Some x.1) (lookup t es) ≡ Some old
    → f (lookup s (cond b ((x.0, v) ∷ es) (x ∷ set_value t es v))) ≡ f (lookup s (x ∷ es))) [
      | true ↦ λ q.
          let same : x.1 ≡ old = cc in
          let like : f (Some v) ≡ f (Some x.1) = e ∙ ap (λ y. f (Some y)) (sym same) in
          set_cond f (s x.0) (Some v) (Some x.1) (lookup s es) like
      | false ↦ λ q. tail_cond f (s x.0) (Some x.1) (lookup s (set_value t es v)) (lookup s es) (set_same f s t es old v q e)
    ] h

module _ (fs : FileSystem) (t : IsTree fs) (ino : ℕ) (old node : Node) (found : node_of fs ino ≡ Some old)
    (kind : node.kind ≡ old.kind) where
  abbrev pub permitted : FileSystem
  permitted = record fs { nodes = set_value (is_at (nat_cmp ino)) fs.nodes node }

  same_directory : (q : ℕ) → is_directory permitted q ≡ is_directory fs q
  same_directory q = set_same is_directory_node (is_at (nat_cmp q)) (is_at (nat_cmp ino)) fs.nodes old node found
      (ap (λ k. is_directory_node (Some (record old { kind = k }))) kind)

  same_there : (q : ℕ) → is_there permitted q ≡ is_there fs q
  same_there q = set_same is_some (is_at (nat_cmp q)) (is_at (nat_cmp ino)) fs.nodes old node found refl

  still_link : (l : Link) → IsLink fs l → IsLink permitted l
  still_link l p = record { parent = same_directory l.0.0 ∙ p.parent; child = same_there l.1 ∙ p.child; no_root = p.no_root; name = p.name }

  still_hangs : (q : ℕ) → is_eq (nat_cmp ino q) ≡ true → Hangs fs.links q node.kind
  still_hangs q h =
      let f = All-found (λ e. Hangs fs.links e.0 e.1.kind) (is_at (nat_cmp ino)) fs.nodes old t.nodes found in
      let e : f.0 ≡ q = sym (same_number ino f.0 f.1) ∙ same_number ino q h in
      rw kind (subst (λ x. Hangs fs.links x old.kind) e f.2)

  still_numbered : node.perm.mode ≤ 0xFFF → (q : ℕ) → is_eq (nat_cmp ino q) ≡ true → IsNumbered (q, node)
  still_numbered mode q h =
      let f = All-found IsNumbered (is_at (nat_cmp ino)) fs.nodes old t.numbered found in
      let e : f.0 ≡ q = sym (same_number ino f.0 f.1) ∙ same_number ino q h in
      (subst (λ x. 1 ≤ x) e f.2.0, mode)

  pub perm_keeps : node.perm.mode ≤ 0xFFF → IsTree permitted
  perm_keeps mode = record {
    users_ascend = t.users_ascend;
    groups_ascend = t.groups_ascend;
    nodes_ascend = rw (keys-set_value (is_at (nat_cmp ino)) fs.nodes node) t.nodes_ascend;
    links_ascend = t.links_ascend;
    acls_ascend = t.acls_ascend;
    numbered = All-set_value IsNumbered (is_at (nat_cmp ino)) fs.nodes node t.numbered (still_numbered mode);
    root = same_directory 1 ∙ t.root;
    links = All-map (IsLink fs) (IsLink permitted) fs.links still_link t.links;
    nodes = All-set_value (λ e. Hangs fs.links e.0 e.1.kind) (is_at (nat_cmp ino)) fs.nodes node t.nodes still_hangs;
    acls = All-map (IsAclOf fs) (IsAclOf permitted) fs.acls (λ a p. (same_there a.0 ∙ p.0, p.1)) t.acls;
  }

-- and what ties it to the links stays
pub held_again : (links : List Link) (inodes : List (ℕ × Inode)) (ino : ℕ) (old inode : Inode)
    → AllByRecursion (λ e. IsHeld links e.0 e.1.hold) inodes → lookup (is_at (nat_cmp ino)) inodes ≡ Some old → inode.hold ≡ old.hold
    → AllByRecursion (λ e. IsHeld links e.0 e.1.hold) (set_value (is_at (nat_cmp ino)) inodes inode)
held_again links inodes ino old inode a h e =
    All-set_value (λ x. IsHeld links x.0 x.1.hold) (is_at (nat_cmp ino)) inodes inode a (λ q p.
    let f = All-found (λ x. IsHeld links x.0 x.1.hold) (is_at (nat_cmp ino)) inodes old a h in
    let s : f.0 ≡ q = sym (same_number ino f.0 f.1) ∙ same_number ino q p in
    rw e (subst (λ x. IsHeld links x old.hold) s f.2))
