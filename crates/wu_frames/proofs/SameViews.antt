-- Views that a change of permissions or of groups leaves as they are.
use Rattle.std.proofs.Common.{◌≡◌, ◌≢◌, ℕ, zero, suc, Bool, true, false, cond, ◌&&◌, not, List, [], ◌∷◌, nat_eq, refl, ap, sym, ◌∙◌, subst}
use Rattle.std.specs.Prelude.{◌==◌, Option, None, Some, is_some, map, filter}
use Rattle.std.specs.Cmp.{nat_cmp_total, nat_eq_equiv, eq_by_cmp_equiv}
use Rattle.std.specs.Ordering.{is_eq, nat_cmp}
use Rattle.std.specs.List.{AllByRecursion, list_all}
use Rattle.std.specs.Map.{keys_of, lookup, set_value}
use Rattle.std.specs.BTreeMap.{is_at}
use Rattle.std.proofs.lemmas.Map.{lookup-set_value, keys-set_value}
use Rattle.wu_base.specs.SortedOnce.{sorted_once}
use Rattle.wu_base.proofs.MapEntries.{lookup-insert_entry}
use Rattle.wu_access.specs.declared.acls.Acl.{Acl}
use Rattle.wu_access.specs.declared.Perm.{Perm}
use Rattle.wu_access.specs.declared.UserRec.{UserRec}
use Rattle.wu_access.specs.declared.Want.TheVariants.{Read, Execute}
use Rattle.wu_access.specs.Access.{is_allowed}
use Rattle.wu_tree.specs.declared.events.Kind.{Kind}
use Rattle.wu_tree.specs.declared.events.Kind.TheVariants.{Directory, File}
use Rattle.wu_tree.specs.declared.events.Node.{Node}
use Rattle.wu_tree.specs.FileSystems.{FileSystem, Link, acl_of, ancestors, above, groups_of, is_directory, is_directory_node, is_file_node}
use Rattle.wu_tree.specs.FileSystems.{is_kind_file, node_of, parent_of, path_up}
use Rattle.wu_tree.specs.Rules.{IsLink, IsTree}
use Rattle.wu_tree.specs.Steps.{with_user}
use Rattle.wu_tree.proofs.ParentPaths.{parent_found, path_is, same_number, other_number}
use Rattle.wu_view.specs.declared.Seen.{Seen}
use Rattle.wu_view.specs.Views.{is_granted_node, is_empty, is_open, is_readable, may, path_cmp, path_of, seen_as, seen_cmp, user_with}
use Rattle.wu_view.specs.Views.{view_for, view_of}
use Rattle.wu_frames.specs.Permissions.{want_of}

-- ---- lists

filter-same : {X : Type 0} (p q : X → Bool) (xs : List X) → AllByRecursion (λ x. p x ≡ q x) xs → filter p xs ≡ filter q xs
filter-same p q [] a = refl
filter-same {X = X} p q (x ∷ xs) a = rw a.0 (ap (λ (l : List X). cond (q x) (x ∷ l) l) (filter-same p q xs a.1))

by-keys : {X Y : Type 0} (h : ℕ → Y) (p : ℕ → Bool) (es : List (ℕ × X))
    → map (λ e. h e.0) (filter (λ e. p e.0) es) ≡ map h (filter p (keys_of es))
by-keys h p [] = refl
by-keys {X = X} {Y = Y} h p (e ∷ es) =
    elim (p e.0) as
    (λ b. map (λ (x : ℕ × X). h x.0) (cond b (e ∷ filter (λ (x : ℕ × X). p x.0) es) (filter (λ (x : ℕ × X). p x.0) es))
    ≡ map h (cond b (e.0 ∷ filter p (keys_of es)) (filter p (keys_of es)))) [
      | true ↦ ap (λ (l : List Y). h e.0 ∷ l) (by-keys h p es)
      | false ↦ by-keys h p es
    ]

-- ---- the ways up

module _ (links : List Link) (f g : ℕ → Bool) (same : AllByRecursion (λ (link : Link). f link.0.0 ≡ g link.0.0) links) where
  ancestors-same : (n directory : ℕ) → f directory ≡ g directory
      → list_all f (ancestors links n directory) ≡ list_all g (ancestors links n directory)
  unfolding ancestors
  ancestors-same zero directory e = refl
  ancestors-same (suc n) directory e =
      let over = λ (h : ℕ → Bool) (o : Option ℕ). list_all h (above (ancestors links n) o) in
      let rest : list_all f (cond (directory == 1) [] (above (ancestors links n) (parent_of links directory)))
      ≡ list_all g (cond (directory == 1) [] (above (ancestors links n) (parent_of links directory))) =
      elim (directory == 1) as
      (λ b. list_all f (cond b [] (above (ancestors links n) (parent_of links directory)))
      ≡ list_all g (cond b [] (above (ancestors links n) (parent_of links directory)))) [
        | true ↦ refl
        | false ↦
            elim (parent_of links directory) as (λ o. parent_of links directory ≡ o → over f o ≡ over g o) [
              | None ↦ λ h. refl
              | Some parent ↦ λ h.
                  ancestors-same n parent (parent_found (λ (link : Link). f link.0.0 ≡ g link.0.0) links directory parent same h).1
            ] refl
      ] in
      rw e (ap (λ (b : Bool). g directory && b) rest)

  way-same : (directory : ℕ) → f directory ≡ g directory → list_all f (path_up links directory) ≡ list_all g (path_up links directory)
  way-same directory e = rw (path_is links directory) (ancestors-same 255 directory e)

-- ---- the view of a user who may read the same files and pass through the same directories

module _ (fs : FileSystem) (nodes : List (ℕ × Node)) (acls : List (ℕ × Acl)) (user : UserRec) where
  abbrev now : FileSystem
  now = record fs { nodes = nodes; acls = acls }

  module _ (numbers : keys_of nodes ≡ keys_of fs.nodes) (files : (ino : ℕ) → is_readable now user ino ≡ is_readable fs user ino)
      (directories : AllByRecursion (λ (link : Link). may now user Execute link.0.0 ≡ may fs user Execute link.0.0) fs.links) where
    opened : (ino : ℕ) (links : List Link)
        → AllByRecursion (λ (link : Link). may now user Execute link.0.0 ≡ may fs user Execute link.0.0) links
        → AllByRecursion
        (λ (link : Link). (link.1 == ino && is_open now user link.0.0) ≡ (link.1 == ino && is_open fs user link.0.0)) links
    opened ino [] a = tt
    opened ino (link ∷ links) a = (
      ap (λ (b : Bool). link.1 == ino && b) (way-same fs.links (may now user Execute) (may fs user Execute) directories link.0.0 a.0),
      opened ino links a.1,
    )

    seen-same : (ino : ℕ) → seen_as now user ino ≡ seen_as fs user ino
    seen-same ino =
        ap (λ (l : List Link). record { paths = sorted_once path_cmp (map (λ (link : Link). path_of fs.links link.0) l); ino = ino })
        (filter-same (λ (link : Link). link.1 == ino && is_open now user link.0.0)
        (λ (link : Link). link.1 == ino && is_open fs user link.0.0) fs.links (opened ino fs.links directories))

    pub view_for-same : view_for now user ≡ view_for fs user
    unfolding view_for
    view_for-same =
        let shown : map (λ (e : ℕ × Node). seen_as now user e.0) (filter (λ (e : ℕ × Node). is_readable now user e.0) nodes)
        ≡ map (λ (e : ℕ × Node). seen_as fs user e.0) (filter (λ (e : ℕ × Node). is_readable fs user e.0) fs.nodes) =
        by-keys (seen_as now user) (is_readable now user) nodes
        ∙ ap (λ (l : List ℕ). map (seen_as now user) (filter (is_readable now user) l)) numbers
        ∙ (λ i. map (λ ino. seen-same ino i) (filter (λ ino. files ino i) (keys_of fs.nodes)))
        ∙ sym (by-keys (seen_as fs user) (is_readable fs user) fs.nodes) in
        ap (λ (l : List Seen). sorted_once seen_cmp (filter (λ (seen : Seen). not (is_empty seen.paths)) l)) shown

-- ---- a node that has other permissions, or another access list

readable-kind : (user : UserRec) (kind : Kind) (old new : Perm) (had has : Option Acl)
    → is_allowed user old had (want_of kind) ≡ is_allowed user new has (want_of kind)
    → (is_kind_file kind && is_allowed user new has Read) ≡ (is_kind_file kind && is_allowed user old had Read)
readable-kind user Directory old new had has h = refl
readable-kind user File old new had has h = sym h

passable-kind : (user : UserRec) (kind : Kind) (old new : Perm) (had has : Option Acl)
    → is_allowed user old had (want_of kind) ≡ is_allowed user new has (want_of kind)
    → not (is_kind_file kind) ≡ true → is_allowed user new has Execute ≡ is_allowed user old had Execute
passable-kind user Directory old new had has h d = sym h
passable-kind user File old new had has h d = absurd cc

module _ (fs : FileSystem) (ino : ℕ) (node : Node) (perm : Perm) (acls : List (ℕ × Acl)) (there : node_of fs ino ≡ Some node)
    (others : (q : ℕ) → q ≢ ino → lookup (is_at (nat_cmp q)) acls ≡ acl_of fs q) where
  abbrev permitted : List (ℕ × Node)
  permitted = set_value (is_at (nat_cmp ino)) fs.nodes (record node { perm = perm })

  abbrev changed : FileSystem
  changed = record fs { nodes = permitted; acls = acls }

  node_of-permitted : (q : ℕ) → node_of changed q
      ≡ cond (is_eq (nat_cmp ino q)) (Some (record node { perm = perm })) (node_of fs q)
  node_of-permitted q =
      lookup-set_value (eq_by_cmp_equiv nat_cmp_total) (is_at (nat_cmp ino))
      (λ x y h. ap (λ (n : ℕ). is_eq (nat_cmp n y)) (same_number ino x h)) q (record node { perm = perm }) fs.nodes (ap is_some there)

  found : (q : ℕ) → is_eq (nat_cmp ino q) ≡ true → node_of fs q ≡ Some node
  found q h = subst (λ (n : ℕ). node_of fs n ≡ Some node) (same_number ino q h) there

  -- the node now
  pub node_of-here : node_of changed ino ≡ Some (record node { perm = perm })
  node_of-here = rw (node_of-permitted ino, (eq_by_cmp_equiv nat_cmp_total).refl ino) refl

  elsewhere : (q : ℕ) → is_eq (nat_cmp ino q) ≡ false → acl_of changed q ≡ acl_of fs q
  elsewhere q h =
      others q
      (λ e.
      let f : is_eq (nat_cmp ino q) ≡ true = subst (λ (n : ℕ). is_eq (nat_cmp n q) ≡ true) e ((eq_by_cmp_equiv nat_cmp_total).refl q) in
      absurd cc)

  module _ (user : UserRec)
      (same : is_allowed user node.perm (acl_of fs ino) (want_of node.kind) ≡ is_allowed user perm (acl_of changed ino) (want_of node.kind))
    where
      same-at : (q : ℕ) → is_eq (nat_cmp ino q) ≡ true
          → is_allowed user node.perm (acl_of fs q) (want_of node.kind) ≡ is_allowed user perm (acl_of changed q) (want_of node.kind)
      same-at q p =
          subst
          (λ (n : ℕ). is_allowed user node.perm (acl_of fs n) (want_of node.kind)
          ≡ is_allowed user perm (acl_of changed n) (want_of node.kind))
          (same_number ino q p) same

      files-same : (q : ℕ) → is_readable changed user q ≡ is_readable fs user q
      files-same q =
          rw (node_of-permitted q)
          (elim (is_eq (nat_cmp ino q)) as
          (λ b. is_eq (nat_cmp ino q) ≡ b
          → (is_file_node (cond b (Some (record node { perm = perm })) (node_of fs q))
          && is_granted_node user Read (acl_of changed q) (cond b (Some (record node { perm = perm })) (node_of fs q)))
          ≡ is_readable fs user q) [
            | true ↦ λ p. rw (found q p) (readable-kind user node.kind node.perm perm (acl_of fs q) (acl_of changed q) (same-at q p))
            | false ↦ λ p. ap (λ (a : Option Acl). is_file_node (node_of fs q) && is_granted_node user Read a (node_of fs q)) (elsewhere q p)
          ] refl)

      directory-same : (q : ℕ) → is_directory changed q ≡ true
          → may changed user Execute q ≡ may fs user Execute q
      directory-same q =
          rw (node_of-permitted q)
          (elim (is_eq (nat_cmp ino q)) as
          (λ b. is_eq (nat_cmp ino q) ≡ b
          → is_directory_node (cond b (Some (record node { perm = perm })) (node_of fs q)) ≡ true
          → is_granted_node user Execute (acl_of changed q) (cond b (Some (record node { perm = perm })) (node_of fs q))
          ≡ may fs user Execute q) [
            | true ↦ λ p d. rw (found q p) (passable-kind user node.kind node.perm perm (acl_of fs q) (acl_of changed q) (same-at q p) d)
            | false ↦ λ p d. ap (λ (a : Option Acl). is_granted_node user Execute a (node_of fs q)) (elsewhere q p)
          ] refl)

      directories-same : (links : List Link) → AllByRecursion (IsLink changed) links
          → AllByRecursion (λ (link : Link). may changed user Execute link.0.0 ≡ may fs user Execute link.0.0) links
      directories-same [] a = tt
      directories-same (link ∷ links) a = (directory-same link.0.0 a.0.parent, directories-same links a.1)

      pub view_for-permitted : IsTree changed → view_for changed user ≡ view_for fs user
      view_for-permitted t =
          view_for-same fs permitted acls user (keys-set_value (is_at (nat_cmp ino)) fs.nodes (record node { perm = perm })) files-same
          (directories-same fs.links t.links)

      pub view_of-permitted : IsTree changed → (uid : ℕ)
          → user ≡ user_with uid (groups_of fs uid) → view_of changed uid ≡ view_of fs uid
      unfolding view_of
      view_of-permitted t uid e = rw (← e) (view_for-permitted t)

-- ---- a user who is in other groups

pub view_of-regrouped : (fs : FileSystem) (uid : ℕ) (groups : List ℕ) (other : ℕ) → nat_eq uid other ≡ false
    → view_of (with_user fs uid groups) other ≡ view_of fs other
unfolding view_of view_for
view_of-regrouped fs uid groups other h =
    let apart : other ≢ uid = λ e.
    let t : nat_eq uid other ≡ true = subst (λ (n : ℕ). nat_eq uid n ≡ true) (sym e) (nat_eq_equiv.refl uid) in cc in
    let same : groups_of (with_user fs uid groups) other ≡ groups_of fs other =
    rw (lookup-insert_entry nat_cmp_total fs.users uid (sorted_once nat_cmp groups) other, other_number other uid apart) refl in
    ap (λ (g : List ℕ). view_for fs (user_with other g)) same
