-- A view grows with names and rights.
use Rattle.std.proofs.Common.{◌≡◌, ℕ, List, [], ◌∷◌, refl, ap, sym, ◌∙◌, subst, Bool, true, false, not}
use Rattle.std.specs.Prelude.{Option, None, Some, is_some}
use Rattle.std.specs.List.{Contains}
use Rattle.std.proofs.lemmas.Bool.{and_parts}
use Rattle.std.proofs.lemmas.Cmp.{nat_list_cmp_total}
use Rattle.std.proofs.lemmas.Map.Lookups.{exact_bytes}
use Rattle.std.proofs.lemmas.Map.Views.{Contains-from_lookup, tells_apart}
use Rattle.wu_access.specs.declared.UserRec.{UserRec}
use Rattle.wu_access.specs.declared.Want.TheVariants.{Read, Execute}
use Rattle.wu_access.specs.Access.{IsDecidedByCases}
use Rattle.wu_tree.specs.declared.events.Node.{Node}
use Rattle.wu_tree.specs.FileSystems.{FileSystem, child_of, is_directory_node, is_file, is_file_node, is_there, node_of, acl_of, groups_of}
use Rattle.wu_tree.specs.Rules.{IsTree}
use Rattle.wu_tree.proofs.ParentPaths.{place_exact}
use Rattle.wu_view.specs.declared.Seen.{Seen}
use Rattle.wu_view.specs.Views.{may, is_readable, is_granted_node, GrantsNode, Leads, IsPath, IsOpenWay, IsOpenPath, open_paths}
use Rattle.wu_view.specs.Views.{seen_as, user_with, view_for, view_of}
use Rattle.wu_base.proofs.Members.{Has, Has-from_Contains, Contains-from_Has}
use Rattle.wu_base.proofs.SortedLists.{has-sorted_once, sorted_once_has}
use Rattle.wu_view.proofs.LinkPaths.{link_facts}
use Rattle.wu_view.proofs.ShownFiles.{seen_exact, seen_total, unsorted, seen_has, has_seen, opened_paths}
use Rattle.wu_view.proofs.PathResolution.{open_paths_lead}
use Rattle.wu_mirror.specs.Searches.{IsPartFor, MaySearch}

-- ---- what a node grants, as a test and case by case
module _ (law : IsDecidedByCases) (fs : FileSystem) (user : UserRec) where
  granted : (o : Option Node) (ino : ℕ) → GrantsNode user Execute (acl_of fs ino) o → is_granted_node user Execute (acl_of fs ino) o ≡ true
  granted None ino g = absurd g
  granted (Some node) ino g = (law user node.perm (acl_of fs ino) Execute).1 g

  grants : (o : Option Node) (ino : ℕ) → is_granted_node user Execute (acl_of fs ino) o ≡ true → GrantsNode user Execute (acl_of fs ino) o
  grants None ino g = absurd cc
  grants (Some node) ino g = (law user node.perm (acl_of fs ino) Execute).0 g

pub link_found : (fs : FileSystem) (directory : ℕ) (name : List ℕ) (child : ℕ) → child_of fs directory name ≡ Some child
    → Has ((directory, name), child) fs.links
link_found fs directory name child h =
    Has-from_Contains ((directory, name), child) fs.links (Contains-from_lookup (tells_apart place_exact) (directory, name) child fs.links h)

pub directory_there : (o : Option Node) → is_directory_node o ≡ true → is_some o ≡ true
directory_there None h = absurd cc
directory_there (Some node) h = refl

-- ---- a way that is open in a part is open in the whole
module _ (law : IsDecidedByCases) (part whole : FileSystem) (t : IsTree whole) (user : UserRec) (p : IsPartFor user part whole) where
  way_grows : (directory ino : ℕ) (names : List (List ℕ)) → is_there whole directory ≡ true → Leads part directory names ino
      → IsOpenWay part user directory names
      → Leads whole directory names ino × IsOpenWay whole user directory names × (is_there whole ino ≡ true)
  way_grows directory ino [] there l o = (l, tt, subst (λ x. is_there whole x ≡ true) l there)
  way_grows directory ino (name ∷ names) there l o =
      let child = l.0 in
      let passes : may part user Execute directory ≡ true = granted law part user (node_of part directory) directory o.0 in
      let found : child_of whole directory name ≡ Some child = p.names directory name child passes l.1 in
      let facts = link_facts whole t ((directory, name), child) (link_found whole directory name child found) in
      let r = way_grows child ino names facts.child l.2 (o.1 child l.1) in (
        (child, found, r.0),
        (
          grants law whole user (node_of whole directory) directory (p.passes directory there passes),
          λ c h. let e : child ≡ c = cc (found, h) in subst (λ x. IsOpenWay whole user x names) e r.1,
        ),
        r.2,
      )

  pub path_grows : (path : List ℕ) (ino : ℕ) → IsOpenPath part user path ino → IsOpenPath whole user path ino × (is_there whole ino ≡ true)
  path_grows path ino n =
      let there : is_there whole 1 ≡ true = directory_there (node_of whole 1) t.root in
      let w = way_grows 1 ino n.0 there n.1 n.2 in
      ((n.0, w.0, w.1, n.3), w.2)

-- ---- what is in a view
module _ (law : IsDecidedByCases) (fs : FileSystem) (t : IsTree fs) (uid : ℕ) where
  abbrev me : UserRec
  me = user_with uid (groups_of fs uid)

  pub search_path : (path : List ℕ) (ino : ℕ) → MaySearch fs uid path ino → (is_readable fs me ino ≡ true) × IsOpenPath fs me path ino
  unfolding view_of view_for
  search_path path ino m =
      let h = has_seen fs t me m.seen
      (sorted_once_has seen_total seen_exact m.seen (unsorted fs t me) (Has-from_Contains m.seen (view_of fs uid) m.in_view)) in
      let q = h.0 in
      let same : q ≡ ino = ap (λ (s : Seen). s.ino) h.4 ∙ m.is_file in
      let within : Contains (open_paths fs me q) path = subst (λ (s : Seen). Contains s.paths path) (sym h.4) m.by_path in
      let file : is_file fs q ≡ true = (and_parts (is_file fs q) (may fs me Read q) h.2).0 in (
        subst (λ x. is_readable fs me x ≡ true) same h.2,
        subst (λ x. IsOpenPath fs me path x) same ((open_paths_lead law fs t me q path file).0 within),
      )

  pub path_search : (path : List ℕ) (ino : ℕ) → is_readable fs me ino ≡ true → IsOpenPath fs me path ino → MaySearch fs uid path ino
  unfolding view_of view_for
  path_search path ino r n =
      let file : is_file fs ino ≡ true = (and_parts (is_file fs ino) (may fs me Read ino) r).0 in
      let within : Contains (open_paths fs me ino) path = (open_paths_lead law fs t me ino path file).1 n in
      let opened : Has path (opened_paths fs t me ino) = sorted_once_has nat_list_cmp_total exact_bytes path (opened_paths fs t me ino)
      (Has-from_Contains path (open_paths fs me ino) within) in
      record {
        seen = seen_as fs me ino;
        in_view = Contains-from_Has (seen_as fs me ino) (view_of fs uid)
            (has-sorted_once seen_total seen_exact (seen_as fs me ino) (unsorted fs t me) (seen_has fs t me ino path r opened));
        by_path = within;
        is_file = refl;
      }

-- a view grows with names and rights
pub view_grows : (law : IsDecidedByCases) (part whole : FileSystem) → IsTree part → IsTree whole → (uid : ℕ)
    → groups_of part uid ≡ groups_of whole uid → IsPartFor (user_with uid (groups_of part uid)) part whole
    → (path : List ℕ) (ino : ℕ) → MaySearch part uid path ino → MaySearch whole uid path ino
view_grows law part whole tp tw uid g p path ino m =
    let s = search_path law part tp uid path ino m in
    let w = path_grows law part whole tw (user_with uid (groups_of part uid)) p path ino s.1 in
    path_search law whole tw uid path ino
    (subst (λ (l : List ℕ). is_readable whole (user_with uid l) ino ≡ true) g (p.reads ino w.1 s.0))
    (subst (λ (l : List ℕ). IsOpenPath whole (user_with uid l) path ino) g w.0)

-- a root that is shut shows nothing
no_file_root : (o : Option Node) → is_directory_node o ≡ true → is_file_node o ≡ true → ⊥
no_file_root None d f = cc
no_file_root (Some node) d f = let e : not true ≡ true = subst (λ b. not b ≡ true) f d in cc

never_both : (b : Bool) → b ≡ true → b ≡ false → ⊥
never_both b t f = cc

pub nothing_shown : (law : IsDecidedByCases) (fs : FileSystem) → IsTree fs → (uid : ℕ)
    → may fs (user_with uid (groups_of fs uid)) Execute 1 ≡ false → (path : List ℕ) (ino : ℕ) → MaySearch fs uid path ino → ⊥
nothing_shown law fs t uid shut path ino m =
    let user : UserRec = user_with uid (groups_of fs uid) in
    let s = search_path law fs t uid path ino m in
    let n = s.1 in
    elim n.0 as (λ names. IsPath fs names ino → IsOpenWay fs user 1 names → ⊥) [
      | [] ↦ λ l o.
          no_file_root (node_of fs 1) t.root
          (and_parts (is_file fs 1) (may fs user Read 1) (subst (λ x. is_readable fs user x ≡ true) (sym l) s.0)).0
      | name ∷ names ↦ λ l o. never_both (may fs user Execute 1) (granted law fs user (node_of fs 1) 1 o.0) shut
    ] n.1 n.2
