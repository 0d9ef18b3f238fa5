-- The open paths of a file, found from its links upwards, are those that lead to it from the root.
use Rattle.std.proofs.Common.{◌≡◌, ℕ, zero, suc, ◌≤◌, List, [], ◌∷◌, ◌++◌, refl, ap, sym, ◌∙◌, subst, Bool, true, false, not, ◌&&◌, arith}
use Rattle.std.specs.Prelude.{◌↔◌, ◌==◌, IsTrue, Option, None, Some, filter}
use Rattle.std.specs.List.{Contains, list_all}
use Rattle.std.specs.Cmp.{eq_by_cmp_equiv}
use Rattle.std.proofs.lemmas.Cmp.{nat_list_cmp_total}
use Rattle.std.proofs.lemmas.List.{append-nil, append_assoc}
use Rattle.std.proofs.lemmas.Map.Keys.{IsDistinct-from_sorted}
use Rattle.std.proofs.lemmas.Map.Lookups.{exact_bytes}
use Rattle.std.proofs.lemmas.Map.Views.{Contains-from_lookup, lookup-from_Contains, tells_apart}
use borrow.Author.Tests.{eqb-true, eq-eqb}
use Rattle.std.proofs.lemmas.Bool.{and_parts, and_from}
use Rattle.wu_access.specs.declared.acls.Acl.{Acl}
use Rattle.wu_access.specs.declared.UserRec.{UserRec}
use Rattle.wu_access.specs.declared.Want.{Want}
use Rattle.wu_access.specs.declared.Want.TheVariants.{Read, Execute}
use Rattle.wu_access.specs.Access.{IsDecidedByCases}
use Rattle.wu_tree.specs.declared.events.Node.{Node}
use Rattle.wu_tree.specs.FileSystems.{FileSystem, Link, place_cmp, child_of, is_directory, is_directory_node, is_file, is_file_node}
use Rattle.wu_tree.specs.FileSystems.{acl_of, node_of, depth, ancestors}
use Rattle.wu_tree.specs.Rules.{IsTree}
use Rattle.wu_tree.proofs.ParentPaths.{place_total, place_exact, path_is}
use Rattle.wu_view.specs.Views.{directory_path, path_of, may, is_open, open_paths, Leads, IsOpenWay, joined, IsOpenPath, is_readable}
use Rattle.wu_view.specs.Views.{is_granted_node, Grants, GrantsNode}
use Rattle.wu_base.proofs.Members.{Has, Has-from_Contains, Contains-from_Has, Has-map, map_has, Has-filter, filter_has}
use Rattle.wu_base.proofs.SortedLists.{has-sorted_once, sorted_once_has}
use Rattle.wu_view.proofs.LinkPaths.{link_facts, depth_range, depth_below, path_below_is, open_below, root_path, root_open}
use Rattle.wu_view.proofs.ShownFiles.{opened_paths}
use Rattle.wu_view.proofs.LeastPaths.{link_to, not_one}

joined-push : (names : List (List ℕ)) (name : List ℕ) → joined (names ++ name ∷ []) ≡ joined names ++ 47 ∷ name
joined-push [] name = ap (λ (l : List ℕ). 47 ∷ l) (append-nil name)
joined-push (n ∷ names) name = ap (λ (l : List ℕ). 47 ∷ (n ++ l)) (joined-push names name)
    ∙ ap (λ (l : List ℕ). 47 ∷ l) (sym (append_assoc n (joined names) (47 ∷ name)))

-- a directory is no file
never_both : (o : Option Node) → is_directory_node o ≡ true → is_file_node o ≡ true → ⊥
never_both None d f = cc
never_both (Some node) d f = let e : not true ≡ true = subst (λ b. not b ≡ true) f d in cc

first_on_way : (links : List Link) (n d : ℕ) (p : ℕ → Bool) → list_all p (ancestors links (suc n) d) ≡ true → p d ≡ true
unfolding ancestors
first_on_way links n d p h = (and_parts (p d) _ h).0

-- ---- what a node grants, as a test and case by case
module _ (law : IsDecidedByCases) (user : UserRec) (want : Want) (acl : Option Acl) where
  node_granted : (o : Option Node) → is_granted_node user want acl o ≡ true → GrantsNode user want acl o
  node_granted None h = absurd cc
  node_granted (Some node) h = (law user node.perm acl want).0 h

  granted_node : (o : Option Node) → GrantsNode user want acl o → is_granted_node user want acl o ≡ true
  granted_node None h = absurd h
  granted_node (Some node) h = (law user node.perm acl want).1 h

pub readable_by_cases : (law : IsDecidedByCases) (fs : FileSystem) (user : UserRec) (ino : ℕ)
    → IsTrue (is_readable fs user ino) ↔ (IsTrue (is_file fs ino) × Grants fs user Read ino)
readable_by_cases law fs user ino = (
  λ h. let b = and_parts (is_file fs ino) (may fs user Read ino) h in (b.0, node_granted law user Read (acl_of fs ino) (node_of fs ino) b.1),
  λ g. and_from (is_file fs ino) (may fs user Read ino) g.0 (granted_node law user Read (acl_of fs ino) (node_of fs ino) g.1),
)

pub child_found : (fs : FileSystem) → IsTree fs → (link : Link) → Has link fs.links → child_of fs link.0.0 link.0.1 ≡ Some link.1
child_found fs t link h = lookup-from_Contains (eq_by_cmp_equiv place_total) link.0 link.1 fs.links
    (IsDistinct-from_sorted place_cmp _ t.links_ascend) (Contains-from_Has link fs.links h)

module _ (law : IsDecidedByCases) (fs : FileSystem) (t : IsTree fs) (user : UserRec) where
  open_itself : (d : ℕ) → is_open fs user d ≡ true → may fs user Execute d ≡ true
  open_itself d h = first_on_way fs.links 254 d (may fs user Execute)
      (subst (λ (l : List ℕ). list_all (may fs user Execute) l ≡ true) (path_is fs.links d) h)

  found_child : (d c : ℕ) (name : List ℕ) → child_of fs d name ≡ Some c → Has ((d, name), c) fs.links
  found_child d c name h = Has-from_Contains ((d, name), c) fs.links (Contains-from_lookup (tells_apart place_exact) (d, name) c fs.links h)

  -- links lead by the names to the node, and each directory on the way grants execute
  abbrev LeadsOpen : ℕ → List (List ℕ) → ℕ → Type 0
  LeadsOpen d [] ino = d ≡ ino
  LeadsOpen d (name ∷ names) ino = (may fs user Execute d ≡ true)
      × ((child : ℕ) × (child_of fs d name ≡ Some child) × LeadsOpen child names ino)

  leads_by : (d : ℕ) (names : List (List ℕ)) (ino : ℕ) → LeadsOpen d names ino → Leads fs d names ino
  leads_by d [] ino l = l
  leads_by d (name ∷ names) ino l = (l.1.0, l.1.1, leads_by l.1.0 names ino l.1.2)

  open_by : (d : ℕ) (names : List (List ℕ)) (ino : ℕ) → LeadsOpen d names ino → IsOpenWay fs user d names
  open_by d [] ino l = tt
  open_by d (name ∷ names) ino l = (
    node_granted law user Execute (acl_of fs d) (node_of fs d) l.0,
    λ child h. let e : l.1.0
        ≡ child = cc (l.1.1, h) in subst (λ c. IsOpenWay fs user c names) e (open_by l.1.0 names ino l.1.2),
  )

  both_lead : (d : ℕ) (names : List (List ℕ)) (ino : ℕ) → Leads fs d names ino → IsOpenWay fs user d names → LeadsOpen d names ino
  both_lead d [] ino l o = l
  both_lead d (name ∷ names) ino l o =
      (granted_node law user Execute (acl_of fs d) (node_of fs d) o.0, (l.0, l.1, both_lead l.0 names ino l.2 (o.1 l.0 l.1)))

  leads-push : (a d c : ℕ) (names : List (List ℕ)) (name : List ℕ) → LeadsOpen a names d → may fs user Execute d ≡ true
      → child_of fs d name ≡ Some c → LeadsOpen a (names ++ name ∷ []) c
  leads-push a d c [] name l m h =
      (subst (λ x. may fs user Execute x ≡ true) (sym l) m, (c, subst (λ x. child_of fs x name ≡ Some c) (sym l) h, refl))
  leads-push a d c (n ∷ names) name l m h = (l.0, (l.1.0, l.1.1, leads-push l.1.0 d c names name l.1.2 m h))

  -- names lead to each open directory
  led : (n d : ℕ) → depth fs.links d ≤ n → is_directory fs d ≡ true → is_open fs user d ≡ true
      → (names : List (List ℕ)) × LeadsOpen 1 names d × (joined names ≡ directory_path fs.links d)
  led zero d l h o = let r : 1 ≤ depth fs.links d = (depth_range fs.links d).0 in absurd (omega arith)
  led (suc n) d l h o =
      elim (d == 1) as (λ b. (d == 1) ≡ b → (names : List (List ℕ)) × LeadsOpen 1 names d × (joined names ≡ directory_path fs.links d)) [
        | true ↦ λ a. let e : d ≡ 1 = eqb-true d 1 a in ([], sym e, sym (ap (directory_path fs.links) e ∙ root_path fs t))
        | false ↦ λ a.
            let r = link_to fs t d h (not_one fs t d a) in
            let link = r.0 in
            let dir : is_directory fs link.1 ≡ true = subst (λ x. is_directory fs x ≡ true) (sym r.1.1) h in
            let op : (may fs user Execute link.1 && is_open fs user link.0.0) ≡ true = sym (open_below fs t user link r.1.0 dir)
            ∙ subst (λ x. is_open fs user x ≡ true) (sym r.1.1) o in
            let up : is_open fs user link.0.0 ≡ true = (and_parts (may fs user Execute link.1) (is_open fs user link.0.0) op).1 in
            let low : depth fs.links link.0.0 ≤ n =
            (let b = depth_below fs t link r.1.0 dir in let c : depth fs.links link.1
            ≡ depth fs.links d = ap (depth fs.links) r.1.1 in omega arith) in
            let i = led n link.0.0 low (link_facts fs t link r.1.0).parent up in
            let c : child_of fs link.0.0 link.0.1 ≡ Some d = child_found fs t link r.1.0 ∙ ap Some r.1.1 in
            let p : path_of fs.links link.0 ≡ directory_path fs.links d = sym (path_below_is fs t link r.1.0 dir)
            ∙ ap (directory_path fs.links) r.1.1 in (
              i.0 ++ link.0.1 ∷ [],
              leads-push 1 link.0.0 d i.0 link.0.1 i.1 (open_itself link.0.0 up) c,
              joined-push i.0 link.0.1
                  ∙ ap (λ (l : List ℕ). l ++ 47 ∷ link.0.1) i.2 ∙ p,
            )
      ] refl

  to_names : (ino : ℕ) (path : List ℕ) → Has path (opened_paths fs t user ino) → IsOpenPath fs user path ino
  to_names ino path h =
      let m = map_has (λ (link : Link). path_of fs.links link.0) path
      (filter (λ link. link.1 == ino && is_open fs user link.0.0) fs.links) h in
      let link = m.0 in
      let f = filter_has (λ link. link.1 == ino && is_open fs user link.0.0) link fs.links m.1.0 in
      let b = and_parts (link.1 == ino) (is_open fs user link.0.0) f.1 in
      let i = led 255 link.0.0 (depth_range fs.links link.0.0).1 (link_facts fs t link f.0).parent b.1 in
      let c : child_of fs link.0.0 link.0.1 ≡ Some ino = child_found fs t link f.0 ∙ ap Some (eqb-true link.1 ino b.0) in
      let l : LeadsOpen 1 (i.0 ++ link.0.1 ∷ []) ino = leads-push 1 link.0.0 ino i.0 link.0.1 i.1 (open_itself link.0.0 b.1) c in (
        i.0 ++ link.0.1 ∷ [],
        leads_by 1 (i.0 ++ link.0.1 ∷ []) ino l,
        open_by 1 (i.0 ++ link.0.1 ∷ []) ino l,
        joined-push i.0 link.0.1
            ∙ ap (λ (l : List ℕ). l ++ 47 ∷ link.0.1) i.2 ∙ m.1.1,
      )

  -- a directory that is open if it grants execute
  from_names : (ino d : ℕ) (names : List (List ℕ)) → is_file fs ino ≡ true → is_directory fs d ≡ true
      → (may fs user Execute d ≡ true → is_open fs user d ≡ true) → LeadsOpen d names ino
      → Has (directory_path fs.links d ++ joined names) (opened_paths fs t user ino)
  from_names ino d [] f h o l = absurd (never_both (node_of fs ino) (subst (λ x. is_directory fs x ≡ true) l h) f)
  from_names ino d (name ∷ []) f h o l =
      let link : Link = ((d, name), l.1.0) in
      let within : Has link fs.links = found_child d l.1.0 name l.1.1 in
      subst (λ (p : List ℕ). Has p (opened_paths fs t user ino))
      (ap (λ (p : List ℕ). directory_path fs.links d ++ 47 ∷ p) (sym (append-nil name)))
      (Has-map (λ (link : Link). path_of fs.links link.0) link (filter (λ link. link.1 == ino && is_open fs user link.0.0) fs.links)
      (Has-filter (λ link. link.1 == ino && is_open fs user link.0.0) link fs.links within
      (and_from (link.1 == ino) (is_open fs user d) (eq-eqb link.1 ino l.1.2) (o l.0))))
  from_names ino d (name ∷ next ∷ names) f h o l =
      let link : Link = ((d, name), l.1.0) in
      let within : Has link fs.links = found_child d l.1.0 name l.1.1 in
      let below : LeadsOpen l.1.0 (next ∷ names) ino = l.1.2 in
      let dir : is_directory fs l.1.0
      ≡ true = (link_facts fs t ((l.1.0, next), below.1.0) (found_child l.1.0 below.1.0 next below.1.1)).parent in
      let i = from_names ino l.1.0 (next ∷ names) f dir
      (λ m. open_below fs t user link within dir ∙ and_from (may fs user Execute l.1.0) (is_open fs user d) m (o l.0)) below in
      subst (λ (p : List ℕ). Has p (opened_paths fs t user ino))
      (ap (λ (p : List ℕ). p ++ joined (next ∷ names)) (path_below_is fs t link within dir)
      ∙ append_assoc (directory_path fs.links d) (47 ∷ name) (joined (next ∷ names)))
      i

  pub open_paths_lead : (ino : ℕ) (path : List ℕ) → is_file fs ino ≡ true
      → Contains (open_paths fs user ino) path ↔ IsOpenPath fs user path ino
  open_paths_lead ino path f = (
    λ h. to_names ino path
        (sorted_once_has nat_list_cmp_total exact_bytes path (opened_paths fs t user ino)
        (Has-from_Contains path (open_paths fs user ino) h)),
    λ n. Contains-from_Has path (open_paths fs user ino) (has-sorted_once nat_list_cmp_total exact_bytes path (opened_paths fs t user ino)
        (subst (λ (p : List ℕ). Has p (opened_paths fs t user ino)) (ap (λ (p : List ℕ). p ++ joined n.0) (root_path fs t) ∙ n.3)
        (from_names ino 1 n.0 f t.root (root_open fs t user) (both_lead 1 n.0 ino n.1 n.2)))),
  )
