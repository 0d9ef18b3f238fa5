-- What look-ups find after an event.
use Rattle.std.proofs.Common.{◌≡◌, ◌≢◌, ℕ, List, refl, ap, sym, ◌∙◌, subst, Bool, true, false, cond, inl, inr}
use Rattle.std.specs.Prelude.{◌⊎◌, Option, None, Some, IsSome, is_some}
use Rattle.std.specs.declared.cmp.Ordering.{Ordering}
use Rattle.std.specs.Ordering.{is_eq, nat_cmp}
use Rattle.std.specs.Cmp.{IsTotalOrder, nat_cmp_total, eq_by_cmp_equiv}
use Rattle.std.specs.List.Sorted.{IsStrictlySortedBy}
use Rattle.std.specs.Map.{keys_of, lookup, remove_entry, set_value}
use Rattle.std.specs.BTreeMap.{is_at, insert_entry}
use Rattle.std.proofs.lemmas.Map.{lookup-remove_entry, lookup-set_value}
use Rattle.std.proofs.lemmas.Map.Keys.{IsDistinct-from_sorted}
use Rattle.std.proofs.lemmas.Map.Lookups.{exact_unsigned, CmpEqualImpliesEq}
use Rattle.wu_access.specs.declared.acls.Acl.{Acl}
use Rattle.wu_access.specs.declared.Perm.{Perm}
use Rattle.wu_tree.specs.declared.events.Node.{Node}
use Rattle.wu_tree.specs.FileSystems.{FileSystem, Link, Place, place_cmp, acl_of, node_of, is_there}
use Rattle.wu_tree.specs.Rules.{IsTree, IsAclOf}
use Rattle.wu_tree.specs.Steps.{with_perm, with_acl, without_acl, with_mask, without_link, named_by, is_last_link}
use Rattle.wu_tree.proofs.ParentPaths.{place_total, place_exact, same_number, other_number}
use Rattle.wu_base.proofs.MapEntries.{is_equal, lookup-insert_entry, number_itself, All-found}

-- ---- finite maps
module _ {K : Type 0} {R : K → K → Ordering} (exact : CmpEqualImpliesEq R) where
  one : (k x y : K) → is_at (R k) x ≡ true → is_at (R k) y ≡ is_eq (R x y)
  one k x y h = ap (λ (z : K). is_eq (R z y)) (exact k x (is_equal (R k x) h))

module _ {K X : Type 0} {R : K → K → Ordering} (o : IsTotalOrder R) (exact : CmpEqualImpliesEq R) where
  pub after_removal : (k q : K) (es : List (K × X)) → IsStrictlySortedBy R (keys_of es)
      → lookup (is_at (R q)) (remove_entry (is_at (R k)) es) ≡ cond (is_eq (R k q)) None (lookup (is_at (R q)) es)
  after_removal k q es s = lookup-remove_entry (eq_by_cmp_equiv o) (is_at (R k)) (one exact k) q es (IsDistinct-from_sorted R (keys_of es) s)

  pub after_setting : (k q : K) (v : X) (es : List (K × X)) → IsSome (lookup (is_at (R k)) es)
      → lookup (is_at (R q)) (set_value (is_at (R k)) es v) ≡ cond (is_eq (R k q)) (Some v) (lookup (is_at (R q)) es)
  after_setting k q v es i = lookup-set_value (eq_by_cmp_equiv o) (is_at (R k)) (one exact k) q v es i

pub found_some : {X : Type 0} (o : Option X) (x : X) → o ≡ Some x → IsSome o
found_some o x h = ap is_some h

pub by_test : (b : Bool) (C : Bool → Type 0) → (b ≡ true → C true) → (b ≡ false → C false) → C b
by_test b C t f = elim b as (λ v. b ≡ v → C v) [ true ↦ λ p. t p | false ↦ λ p. f p ] refl

pub same_some : {X : Type 0} (a b : X) → Some a ≡ Some b → a ≡ b
same_some a b h = cc

-- ---- nodes and lists
module _ (fs : FileSystem) (ino : ℕ) (old node : Node) (found : node_of fs ino ≡ Some old) where
  abbrev pub renewed : FileSystem
  renewed = record fs { nodes = set_value (is_at (nat_cmp ino)) fs.nodes node }

  pub node_renewed : (q : ℕ) → node_of renewed q ≡ cond (is_eq (nat_cmp ino q)) (Some node) (node_of fs q)
  node_renewed q = after_setting nat_cmp_total exact_unsigned ino q node fs.nodes (found_some (node_of fs ino) old found)

  pub node_itself : node_of renewed ino ≡ Some node
  node_itself = node_renewed ino ∙ ap (λ b. cond b (Some node) (node_of fs ino)) (number_itself ino)

  pub node_else : (q : ℕ) → q ≢ ino → node_of renewed q ≡ node_of fs q
  node_else q n = node_renewed q
      ∙ ap (λ b. cond b (Some node) (node_of fs q)) (other_number ino q (λ e. n (sym e)))

-- the permissions of one node changed, and no link and no groups
pub record ChangesRights (fs after : FileSystem) (ino : ℕ) (node : Node) (acl : Option Acl) : Type 0 where
  pub links : after.links ≡ fs.links
  pub users : after.users ≡ fs.users
  pub nodes : (q : ℕ) → q ≢ ino → node_of after q ≡ node_of fs q
  pub acls : (q : ℕ) → q ≢ ino → acl_of after q ≡ acl_of fs q
  pub node_is : node_of after ino ≡ Some node
  pub acl_is : acl_of after ino ≡ acl

abbrev pub permitted : Node → Perm → Node
permitted node perm = record node { perm = perm }

module _ (fs : FileSystem) (ino : ℕ) (node : Node) (found : node_of fs ino ≡ Some node) where
  pub perm_changes : (change : Perm → Perm)
      → ChangesRights fs (with_perm change fs ino (node_of fs ino)) ino (permitted node (change node.perm)) (acl_of fs ino)
  perm_changes change =
      subst (λ (o : Option Node). ChangesRights fs (with_perm change fs ino o) ino (permitted node (change node.perm)) (acl_of fs ino)) (sym found)
      (record {
        links = refl;
        users = refl;
        nodes = λ q n. node_else fs ino node (permitted node (change node.perm)) found q n;
        acls = λ q n. refl;
        node_is = node_itself fs ino node (permitted node (change node.perm)) found;
        acl_is = refl;
      })

  pub acl_put : (acl : Acl) (mask : ℕ)
      → ChangesRights fs (with_acl fs ino acl mask) ino (permitted node (with_mask mask node.perm)) (Some acl)
  acl_put acl mask =
      let listed : FileSystem = record fs { acls = insert_entry nat_cmp fs.acls ino acl } in
      let at : (q : ℕ) → acl_of listed q ≡ cond (is_eq (nat_cmp q ino)) (Some acl) (acl_of fs q) = (λ (q : ℕ).
      lookup-insert_entry nat_cmp_total fs.acls ino acl q) in
      subst
      (λ (o : Option Node). ChangesRights fs (with_perm (with_mask mask) listed ino o) ino (permitted node (with_mask mask node.perm)) (Some acl))
      (sym found)
      (record {
        links = refl;
        users = refl;
        nodes = λ q n. node_else fs ino node (permitted node (with_mask mask node.perm)) found q n;
        acls = λ q n. at q ∙ ap (λ b. cond b (Some acl) (acl_of fs q)) (other_number q ino n);
        node_is = node_itself fs ino node (permitted node (with_mask mask node.perm)) found;
        acl_is = at ino ∙ ap (λ b. cond b (Some acl) (acl_of fs ino)) (number_itself ino);
      })

  pub acl_removed : IsTree fs → (acl : Acl) → acl_of fs ino ≡ Some acl
      → ChangesRights fs (without_acl fs ino (acl_of fs ino)) ino (permitted node (with_mask acl.owning node.perm)) None
  acl_removed t acl had =
      let bare : FileSystem = record fs { acls = remove_entry (is_at (nat_cmp ino)) fs.acls } in
      let at : (q : ℕ) → acl_of bare q ≡ cond (is_eq (nat_cmp ino q)) None (acl_of fs q) = (λ (q : ℕ).
      after_removal nat_cmp_total exact_unsigned ino q fs.acls t.acls_ascend) in
      let is : ChangesRights fs (with_perm (with_mask acl.owning) bare ino (node_of fs ino)) ino (permitted node (with_mask acl.owning node.perm))
      None = subst
      (λ (o : Option Node).
      ChangesRights fs (with_perm (with_mask acl.owning) bare ino o) ino (permitted node (with_mask acl.owning node.perm)) None) (sym found)
      (record {
        links = refl;
        users = refl;
        nodes = λ q n. node_else fs ino node (permitted node (with_mask acl.owning node.perm)) found q n;
        acls = λ q n. at q ∙ ap (λ b. cond b None (acl_of fs q)) (other_number ino q (λ e. n (sym e)));
        node_is = node_itself fs ino node (permitted node (with_mask acl.owning node.perm)) found;
        acl_is = at ino ∙ ap (λ b. cond b None (acl_of fs ino)) (number_itself ino);
      }) in
      subst
      (λ (o : Option Acl). ChangesRights fs (without_acl fs ino o) ino (permitted node (with_mask acl.owning node.perm)) None) (sym had) is

-- ---- names
module _ (links : List Link) (parent : ℕ) (name : List ℕ) where
  abbrev linked_to : ℕ → List Link
  linked_to child = insert_entry place_cmp links (parent, name) child

  abbrev child_in : List Link → ℕ → List ℕ → Option ℕ
  child_in ls d n = lookup (is_at (place_cmp (d, n))) ls

  -- a name that is there after a link was put in
  pub put_in : (child d : ℕ) (n : List ℕ) (x : ℕ) → child_in (linked_to child) d n ≡ Some x
      → ((d ≡ parent) × (n ≡ name) × (x ≡ child)) ⊎ (child_in links d n ≡ Some x)
  put_in child d n x h =
      by_test (is_eq (place_cmp (d, n) (parent, name)))
      (λ b. cond b (Some child) (child_in links d n) ≡ Some x → ((d ≡ parent) × (n ≡ name) × (x ≡ child)) ⊎ (child_in links d n ≡ Some x))
      (λ p g.
      let e : (d, n) ≡ (parent, name) = place_exact (d, n) (parent, name) (is_equal _ p) in
      inl (ap (λ (k : Place). k.0) e, ap (λ (k : Place). k.1) e, sym (same_some child x g)))
      (λ p g. inr g)
      (sym (lookup-insert_entry place_total links (parent, name) child (d, n)) ∙ h)

  -- a name that is there after one was taken away
  pub taken_out : IsStrictlySortedBy place_cmp (keys_of links) → (d : ℕ) (n : List ℕ) (x : ℕ)
      → child_in (remove_entry (is_at (place_cmp (parent, name))) links) d n ≡ Some x → child_in links d n ≡ Some x
  taken_out s d n x h =
      by_test (is_eq (place_cmp (parent, name) (d, n))) (λ b. cond b None (child_in links d n) ≡ Some x → child_in links d n ≡ Some x)
      (λ p g. absurd cc) (λ p g. g)
      (sym (after_removal place_total place_exact (parent, name) (d, n) links s) ∙ h)

  -- another name stays
  pub still_in : IsStrictlySortedBy place_cmp (keys_of links) → (d : ℕ) (n : List ℕ) (x : ℕ) → (d ≡ parent → n ≡ name → ⊥)
      → child_in links d n ≡ Some x → child_in (remove_entry (is_at (place_cmp (parent, name))) links) d n ≡ Some x
  still_in s d n x apart h =
      after_removal place_total place_exact (parent, name) (d, n) links s
      ∙ by_test (is_eq (place_cmp (parent, name) (d, n))) (λ b. cond b None (child_in links d n) ≡ Some x)
      (λ p.
      let e : (parent, name) ≡ (d, n) = place_exact (parent, name) (d, n) (is_equal _ p) in
      absurd (apart (ap (λ (k : Place). k.0) (sym e)) (ap (λ (k : Place). k.1) (sym e))))
      (λ p. h)

  -- a name stays where a link is put in, unless it names something else
  pub put_keeps : (child d : ℕ) (n : List ℕ) (x : ℕ) → (d ≡ parent → n ≡ name → x ≡ child) → child_in links d n ≡ Some x
      → child_in (linked_to child) d n ≡ Some x
  put_keeps child d n x same h =
      lookup-insert_entry place_total links (parent, name) child (d, n)
      ∙ by_test (is_eq (place_cmp (d, n) (parent, name))) (λ b. cond b (Some child) (child_in links d n) ≡ Some x)
      (λ p.
      let e : (d, n) ≡ (parent, name) = place_exact (d, n) (parent, name) (is_equal _ p) in
      ap Some (sym (same (ap (λ (k : Place). k.0) e) (ap (λ (k : Place). k.1) e))))
      (λ p. h)

  pub put_itself : (child : ℕ) → child_in (linked_to child) parent name ≡ Some child
  put_itself child =
      lookup-insert_entry place_total links (parent, name) child (parent, name)
      ∙ ap (λ b. cond b (Some child) (child_in links parent name)) ((eq_by_cmp_equiv place_total).refl (parent, name))

  pub taken_itself : IsStrictlySortedBy place_cmp (keys_of links)
      → child_in (remove_entry (is_at (place_cmp (parent, name))) links) parent name ≡ None
  taken_itself s =
      after_removal place_total place_exact (parent, name) (parent, name) links s
      ∙ ap (λ b. cond b None (child_in links parent name)) ((eq_by_cmp_equiv place_total).refl (parent, name))

-- ---- nodes that are left
-- what is left after a removal or a move: nodes with the rights that they had
pub record KeepsNodes (fs after : FileSystem) : Type 0 where
  pub users : after.users ≡ fs.users
  pub nodes : (q : ℕ) (node : Node) → node_of after q ≡ Some node → (node_of fs q ≡ Some node) × (acl_of after q ≡ acl_of fs q)

module _ (fs : FileSystem) (t : IsTree fs) (c : ℕ) where
  left_node : (last : Bool) (q : ℕ) (node : Node) → lookup (is_at (nat_cmp q)) (cond last (remove_entry (is_at (nat_cmp c)) fs.nodes) fs.nodes) ≡ Some node
      → (node_of fs q ≡ Some node)
      × (lookup (is_at (nat_cmp q)) (cond last (remove_entry (is_at (nat_cmp c)) fs.acls) fs.acls) ≡ acl_of fs q)
  left_node true q node h =
      by_test (is_eq (nat_cmp c q))
      (λ b. is_eq (nat_cmp c q) ≡ b → cond b None (node_of fs q) ≡ Some node
      → (node_of fs q ≡ Some node) × (lookup (is_at (nat_cmp q)) (remove_entry (is_at (nat_cmp c)) fs.acls) ≡ acl_of fs q))
      (λ p e g. absurd cc)
      (λ p e g. (g, after_removal nat_cmp_total exact_unsigned c q fs.acls t.acls_ascend ∙ ap (λ b. cond b None (acl_of fs q)) e))
      refl
      (sym (after_removal nat_cmp_total exact_unsigned c q fs.nodes t.nodes_ascend) ∙ h)
  left_node false q node h = (h, refl)

pub link_removed : (fs : FileSystem) → IsTree fs → (parent : ℕ) (name : List ℕ) → KeepsNodes fs (without_link fs parent name)
link_removed fs t parent name = record {
  users = refl;
  nodes = λ q node h. left_node fs t (named_by fs parent name) (is_last_link fs parent name) q node h;
}

-- ---- lists belong to nodes
pub listed_there : (fs : FileSystem) → IsTree fs → (ino : ℕ) → is_there fs ino ≡ false → acl_of fs ino ≡ None
listed_there fs t ino absent =
    elim (acl_of fs ino) as (λ o. acl_of fs ino ≡ o → o ≡ None) [
      | None ↦ λ h. refl
      | Some acl ↦ λ h.
          let f = All-found (IsAclOf fs) (is_at (nat_cmp ino)) fs.acls acl t.acls h in
          let there : is_there fs ino ≡ true = subst (λ x. is_there fs x ≡ true) (sym (same_number ino f.0 f.1)) f.2.0 in
          absurd cc
    ] refl
