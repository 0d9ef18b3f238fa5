-- What a walk from the root finds: the files that grant the user read, by the paths that are open for her.
use Rattle.std.proofs.Common.{◌≡◌, ◌≢◌, ℕ, zero, suc, ◌+◌, ◌-◌, ◌<◌, ◌≤◌, List, [], ◌∷◌, ◌++◌, refl, ap, sym, ◌∙◌, subst, true, false, cond}
use Rattle.std.proofs.Common.{not, ◌&&◌, arith, inl, ⊎_elim}
use Rattle.std.specs.Prelude.{Option, None, Some, ◌==◌, filter}
use borrow.Author.Tests.{eqb-true, eq-eqb}
use Rattle.std.proofs.lemmas.Bool.{and_parts, and_from}
use Rattle.wu_access.specs.declared.acls.Acl.{Acl}
use Rattle.wu_access.specs.declared.UserRec.{UserRec}
use Rattle.wu_access.specs.declared.Want.TheVariants.{Read, Execute}
use Rattle.wu_access.specs.Access.{is_allowed}
use Rattle.wu_tree.specs.declared.events.Kind.TheVariants.{Directory, File}
use Rattle.wu_tree.specs.declared.events.Node.{Node}
use Rattle.wu_tree.specs.FileSystems.{FileSystem, Link, is_directory, is_directory_node, is_file_node, is_kind_file, link_count, acl_of}
use Rattle.wu_tree.specs.FileSystems.{node_of}
use Rattle.wu_tree.specs.FileSystems.{entries_of, depth}
use Rattle.wu_tree.specs.Rules.{IsTree}
use Rattle.wu_view.specs.declared.walkers.Met.TheVariants.{Readable, Passable, Closed}
use Rattle.wu_view.specs.Views.{directory_path, path_of, may, is_granted_node, is_open, is_readable}
use Rattle.wu_view.specs.Walks.{Found, met_as, met_node, met_at, found_at, if_passable, walked, walked_whole}
use Rattle.wu_base.proofs.Members.{Has, Has-map, map_has, Has-filter, filter_has, Has-flat_map, flat_map_has}
use Rattle.wu_view.proofs.LinkPaths.{some_link, linked_once, link_facts, depth_range, depth_below, path_below_is, open_below, root_path}
use Rattle.wu_view.proofs.LinkPaths.{root_open, root_depth, open_root}

-- ---- what the user meets
module _ (user : UserRec) (acl : Option Acl) where
  readable_met : (o : Option Node) → met_node user acl o ≡ Readable → (is_file_node o && is_granted_node user Read acl o) ≡ true
  readable_met None h = absurd cc
  readable_met (Some node) h =
      elim node.kind as
      (λ k. met_as k (is_allowed user node.perm acl Read) (is_allowed user node.perm acl Execute) ≡ Readable
      → (is_kind_file k && is_allowed user node.perm acl Read) ≡ true) [
        | File ↦ λ g. elim (is_allowed user node.perm acl Read) as
            (λ b. cond b Readable Closed ≡ Readable → b ≡ true) [ true ↦ λ e. refl | false ↦ λ e. absurd cc ] g
        | Directory ↦ λ g. elim (is_allowed user node.perm acl Execute) as
            (λ b. cond b Passable Closed ≡ Readable → false ≡ true) [ true ↦ λ e. absurd cc | false ↦ λ e. absurd cc ] g
      ] h

  met_readable : (o : Option Node) → (is_file_node o && is_granted_node user Read acl o) ≡ true → met_node user acl o ≡ Readable
  met_readable None h = absurd cc
  met_readable (Some node) h =
      elim node.kind as
      (λ k. (is_kind_file k && is_allowed user node.perm acl Read) ≡ true
      → met_as k (is_allowed user node.perm acl Read) (is_allowed user node.perm acl Execute) ≡ Readable) [
        | File ↦ λ g. rw g refl
        | Directory ↦ λ g. absurd cc
      ] h

  passable_met : (o : Option Node) → met_node user acl o ≡ Passable → (is_directory_node o && is_granted_node user Execute acl o) ≡ true
  passable_met None h = absurd cc
  passable_met (Some node) h =
      elim node.kind as
      (λ k. met_as k (is_allowed user node.perm acl Read) (is_allowed user node.perm acl Execute) ≡ Passable
      → (not (is_kind_file k) && is_allowed user node.perm acl Execute) ≡ true) [
        | File ↦ λ g. elim (is_allowed user node.perm acl Read) as
            (λ b. cond b Readable Closed ≡ Passable → false ≡ true) [ true ↦ λ e. absurd cc | false ↦ λ e. absurd cc ] g
        | Directory ↦ λ g. elim (is_allowed user node.perm acl Execute) as
            (λ b. cond b Passable Closed ≡ Passable → b ≡ true) [ true ↦ λ e. refl | false ↦ λ e. absurd cc ] g
      ] h

  met_passable : (o : Option Node) → (is_directory_node o && is_granted_node user Execute acl o) ≡ true → met_node user acl o ≡ Passable
  met_passable None h = absurd cc
  met_passable (Some node) h =
      elim node.kind as
      (λ k. (not (is_kind_file k) && is_allowed user node.perm acl Execute) ≡ true
      → met_as k (is_allowed user node.perm acl Read) (is_allowed user node.perm acl Execute) ≡ Passable) [
        | File ↦ λ g. absurd cc
        | Directory ↦ λ g. rw g refl
      ] h

-- ---- the entries of a directory
link_is : (link : Link) (directory : ℕ) (name : List ℕ) (child : ℕ) → link.0.0 ≡ directory → link.0.1 ≡ name → link.1 ≡ child
    → link ≡ ((directory, name), child)
link_is link directory name child d n c =
    let a : link ≡ ((directory, link.0.1), link.1) = ap (λ (x : ℕ). ((x, link.0.1), link.1)) d in
    let b : ((directory, link.0.1), link.1) ≡ ((directory, name), link.1) = ap (λ (x : List ℕ). ((directory, x), link.1)) n in
    a ∙ b ∙ ap (λ (x : ℕ). ((directory, name), x)) c

pub found_is : (ino : ℕ) (path : List ℕ) (found : Found) → ino ≡ found.0 → path ≡ found.1 → (ino, path) ≡ found
found_is ino path found e p =
    let a : (ino, path) ≡ (found.0, path) = ap (λ (x : ℕ). (x, path)) e in
    a ∙ ap (λ (x : List ℕ). (found.0, x)) p

has_entry : (link : Link) (links : List Link) → Has link links → Has (link.0.1, link.1) (entries_of links link.0.0)
has_entry link links h = Has-map (λ (l : Link). (l.0.1, l.1)) link (filter (λ l. l.0.0 == link.0.0) links)
    (Has-filter (λ l. l.0.0 == link.0.0) link links h (eq-eqb link.0.0 link.0.0 refl))

pub entry_has : (entry : List ℕ × ℕ) (links : List Link) (directory : ℕ) → Has entry (entries_of links directory)
    → Has ((directory, entry.0), entry.1) links
entry_has entry links directory h =
    let r = map_has (λ (l : Link). (l.0.1, l.1)) entry (filter (λ l. l.0.0 == directory) links) h in
    let f = filter_has (λ l. l.0.0 == directory) r.0 links r.1.0 in
    let d : r.0.0.0 ≡ directory = eqb-true r.0.0.0 directory f.1 in
    let e : r.0
    ≡ ((directory, entry.0), entry.1) =
    (let n : r.0.0.1 ≡ entry.0 = ap (λ (x : List ℕ × ℕ). x.0) r.1.1 in let c : r.0.1
    ≡ entry.1 = ap (λ (x : List ℕ × ℕ). x.1) r.1.1 in link_is r.0 directory entry.0 entry.1 d n c) in
    subst (λ (l : Link). Has l links) e f.0

-- ---- the links that are open
-- a link by which a file that grants the user read is found at a path
pub record IsOpened (fs : FileSystem) (user : UserRec) (found : Found) (link : Link) : Type 0 where
  pub within : Has link fs.links
  pub file : link.1 ≡ found.0
  pub readable : is_readable fs user found.0 ≡ true
  pub opened : is_open fs user link.0.0 ≡ true
  pub path : path_of fs.links link.0 ≡ found.1

abbrev pub Opened : FileSystem → UserRec → Found → Type 0
Opened fs user found = (link : Link) × IsOpened fs user found link

module _ (fs : FileSystem) (t : IsTree fs) (user : UserRec) where
  -- what is found is open
  sound : (n directory : ℕ) (path : List ℕ) → is_open fs user directory ≡ true → directory_path fs.links directory ≡ path → (found : Found)
      → Has found (walked fs user n directory path) → Opened fs user found
  unfolding walked
  sound zero directory path o p found h = absurd h
  sound (suc n) directory path o p found h =
      let r = flat_map_has
      (λ (e : List ℕ × ℕ). found_at (met_at fs user e.1) (e.1, path ++ 47 ∷ e.0) (walked fs user n e.1 (path ++ 47 ∷ e.0))) found
      (entries_of fs.links directory) h in
      let entry = r.0 in
      let link : Link = ((directory, entry.0), entry.1) in
      let within : Has link fs.links = entry_has entry fs.links directory r.1.0 in
      let spelled : path_of fs.links link.0 ≡ path ++ 47 ∷ entry.0 = ap (λ (l : List ℕ). l ++ 47 ∷ entry.0) p in
      elim (met_at fs user entry.1) as
      (λ m. met_at fs user entry.1 ≡ m
      → Has found (found_at m (entry.1, path ++ 47 ∷ entry.0) (walked fs user n entry.1 (path ++ 47 ∷ entry.0)))
      → Opened fs user found) [
        | Readable ↦ λ e g.
            ⊎_elim
            (λ i. (
              link,
              record {
                within = within;
                file = ap (λ (x : Found). x.0) i;
                readable = subst (λ (x : Found). is_readable fs user x.0 ≡ true) i (readable_met user (acl_of fs entry.1) (node_of fs entry.1) e);
                opened = o;
                path = spelled ∙ ap (λ (x : Found). x.1) i;
              },
            ))
            (λ i. absurd i)
            g
        | Passable ↦ λ e g.
            let b = and_parts (is_directory fs entry.1) (may fs user Execute entry.1) (passable_met user (acl_of fs entry.1) (node_of fs entry.1) e) in
            sound n entry.1 (path ++ 47 ∷ entry.0)
            (open_below fs t user link within b.0 ∙ and_from (may fs user Execute entry.1) (is_open fs user directory) b.1 o)
            (path_below_is fs t link within b.0 ∙ spelled) found g
        | Closed ↦ λ e g. absurd g
      ] refl r.1.1

  only_root : (directory : ℕ) → is_directory fs directory ≡ true → depth fs.links directory ≡ 1 → directory ≡ 1
  only_root directory d z =
      elim (directory == 1) as (λ b. (directory == 1) ≡ b → directory ≡ 1) [
        | true ↦ λ p. eqb-true directory 1 p
        | false ↦ λ p.
            let n : directory ≢ 1 = (λ e. let q : (directory == 1) ≡ true = eq-eqb directory 1 e in cc) in
            let one : link_count fs.links directory ≡ 1 = linked_once fs t directory d n in
            let r = some_link directory fs.links (omega arith) in
            let dir : is_directory fs r.0.1 ≡ true = subst (λ x. is_directory fs x ≡ true) (sym r.1.1) d in
            let f : depth fs.links r.0.1 ≡ 1 = subst (λ x. depth fs.links x ≡ 1) (sym r.1.1) z in
            let g : depth fs.links r.0.1 ≡ suc (depth fs.links r.0.0.0) = depth_below fs t r.0 r.1.0 dir in
            let low : 1 ≤ depth fs.links r.0.0.0 = (depth_range fs.links r.0.0.0).0 in
            absurd (omega arith)
      ] refl

  -- what is found in a directory is found in its parent
  enter : (m : ℕ) (link : Link) → Has link fs.links → met_at fs user link.1 ≡ Passable → (found : Found)
      → Has found (walked fs user m link.1 (path_of fs.links link.0))
      → Has found (walked fs user (suc m) link.0.0 (directory_path fs.links link.0.0))
  unfolding walked
  enter m link h e found g =
      let path : List ℕ = directory_path fs.links link.0.0 in
      Has-flat_map
      (λ (entry : List ℕ × ℕ). found_at (met_at fs user entry.1) (entry.1, path ++ 47 ∷ entry.0)
      (walked fs user m entry.1 (path ++ 47 ∷ entry.0))) found (link.0.1, link.1) (entries_of fs.links link.0.0)
      (has_entry link fs.links h)
      (subst (λ v. Has found (found_at v (link.1, path ++ 47 ∷ link.0.1) (walked fs user m link.1 (path ++ 47 ∷ link.0.1)))) (sym e) g)

  -- a file that grants read is found in its directory
  read : (m : ℕ) (link : Link) → Has link fs.links → 0 < m → (found : Found) → link.1 ≡ found.0 → is_readable fs user found.0 ≡ true
      → path_of fs.links link.0 ≡ found.1
      → Has found (walked fs user m link.0.0 (directory_path fs.links link.0.0))
  unfolding walked
  read zero link h l found f r p = absurd (omega arith)
  read (suc m) link h l found f r p =
      let path : List ℕ = directory_path fs.links link.0.0 in
      let e : met_at fs user link.1
      ≡ Readable = met_readable user (acl_of fs link.1) (node_of fs link.1) (subst (λ x. is_readable fs user x ≡ true) (sym f) r) in
      Has-flat_map
      (λ (entry : List ℕ × ℕ). found_at (met_at fs user entry.1) (entry.1, path ++ 47 ∷ entry.0)
      (walked fs user m entry.1 (path ++ 47 ∷ entry.0))) found (link.0.1, link.1) (entries_of fs.links link.0.0)
      (has_entry link fs.links h)
      (subst (λ v. Has found (found_at v (link.1, path ++ 47 ∷ link.0.1) (walked fs user m link.1 (path ++ 47 ∷ link.0.1)))) (sym e)
      (inl (found_is link.1 (path ++ 47 ∷ link.0.1) found f p)))

  -- what is found in an open directory is found from the root on
  reach : (k m directory : ℕ) → m + k ≡ 255 → is_directory fs directory ≡ true → is_open fs user directory ≡ true
      → depth fs.links directory ≡ suc k
      → (found : Found) → Has found (walked fs user m directory (directory_path fs.links directory)) → Has found (walked fs user 255 1 [])
  reach zero m directory s d o z found h =
      let e : directory ≡ 1 = only_root directory d z in
      let l : m ≡ 255 = omega arith in
      subst (λ (p : List ℕ). Has found (walked fs user 255 1 p)) (root_path fs t)
      (subst (λ x. Has found (walked fs user 255 x (directory_path fs.links x))) e
      (subst (λ x. Has found (walked fs user x directory (directory_path fs.links directory))) l h))
  reach (suc k) m directory s d o z found h =
      let n : directory ≢ 1 =
      (λ e. let f : depth fs.links directory ≡ 1 = ap (depth fs.links) e ∙ root_depth fs t in absurd (omega arith)) in
      let one : link_count fs.links directory ≡ 1 = linked_once fs t directory d n in
      let r = some_link directory fs.links (omega arith) in
      let link = r.0 in
      let dir : is_directory fs link.1 ≡ true = subst (λ x. is_directory fs x ≡ true) (sym r.1.1) d in
      let op : (may fs user Execute link.1 && is_open fs user link.0.0) ≡ true = sym (open_below fs t user link r.1.0 dir)
      ∙ subst (λ x. is_open fs user x ≡ true) (sym r.1.1) o in
      let b = and_parts (may fs user Execute link.1) (is_open fs user link.0.0) op in
      let dep : depth fs.links link.0.0
      ≡ suc k =
      (let f : depth fs.links link.1
      ≡ suc (suc k) = subst (λ x. depth fs.links x ≡ suc (suc k))
      (sym r.1.1) z in let g = depth_below fs t link r.1.0 dir in omega arith) in
      reach k (suc m) link.0.0 (omega arith) (link_facts fs t link r.1.0).parent b.1 dep found
      (enter m link r.1.0
      (met_passable user (acl_of fs link.1) (node_of fs link.1) (and_from (is_directory fs link.1) (may fs user Execute link.1) dir b.0)) found
      (subst (λ (p : List ℕ). Has found (walked fs user m link.1 p)) (path_below_is fs t link r.1.0 dir)
      (subst (λ x. Has found (walked fs user m x (directory_path fs.links x))) (sym r.1.1) h)))

  complete : (found : Found) → Opened fs user found → Has found (walked fs user 255 1 [])
  complete found (link, i) =
      let range = depth_range fs.links link.0.0 in
      let s : (255 - (depth fs.links link.0.0 - 1)) + (depth fs.links link.0.0 - 1) ≡ 255 = omega arith in
      let z : depth fs.links link.0.0 ≡ suc (depth fs.links link.0.0 - 1) = omega arith in
      let l : 0 < 255 - (depth fs.links link.0.0 - 1) = omega arith in
      reach (depth fs.links link.0.0 - 1) (255 - (depth fs.links link.0.0 - 1)) link.0.0 s
      (link_facts fs t link i.within).parent i.opened z found
      (read (255 - (depth fs.links link.0.0 - 1)) link i.within l found i.file i.readable i.path)

  pub opened_found : (found : Found) → Has found (walked_whole fs user) → Opened fs user found
  opened_found found h =
      elim (met_at fs user 1) as (λ m. met_at fs user 1 ≡ m → Has found (if_passable m (walked fs user 255 1 [])) → Opened fs user found) [
        | Readable ↦ λ e g. absurd g
        | Passable ↦ λ e g.
            let b = and_parts (is_directory fs 1) (may fs user Execute 1) (passable_met user (acl_of fs 1) (node_of fs 1) e) in
            sound 255 1 [] (root_open fs t user b.1) (root_path fs t) found g
        | Closed ↦ λ e g. absurd g
      ] refl h

  pub found_opened : (found : Found) → Opened fs user found → Has found (walked_whole fs user)
  found_opened found (link, i) =
      let o : may fs user Execute 1 ≡ true = open_root fs t user link.0.0 (link_facts fs t link i.within).parent i.opened in
      let e : met_at fs user 1
      ≡ Passable = met_passable user (acl_of fs 1) (node_of fs 1) (and_from (is_directory fs 1) (may fs user Execute 1) t.root o) in
      subst (λ m. Has found (if_passable m (walked fs user 255 1 []))) (sym e) (complete found (link, i))
