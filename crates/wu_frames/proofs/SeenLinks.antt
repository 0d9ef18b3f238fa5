-- A view depends on the links that lead to readable files from directories that are open.
use Rattle.std.proofs.Common.{◌≡◌, ℕ, zero, suc, ◌≤◌, Bool, true, false, ◌&&◌, ◌||◌, not, List, [], ◌∷◌, ◌++◌, refl, ap, sym, ◌∙◌, subst}
use Rattle.std.proofs.Common.{⊎_elim, arith}
use Rattle.std.specs.Prelude.{◌==◌, Option, None, Some, IfSome, is_some, unwrap_or}
use Rattle.std.specs.Ordering.{nat_cmp}
use Rattle.std.specs.List.{AllByRecursion}
use Rattle.std.specs.Map.{lookup}
use Rattle.std.specs.BTreeMap.{is_at}
use Rattle.std.proofs.lemmas.Bool.{and_from, and_parts, eq-eqb, eqb-true, eqb-false}
use Rattle.std.proofs.lemmas.Cmp.{nat_list_cmp_total}
use Rattle.std.proofs.lemmas.Map.Lookups.{exact_bytes}
use Rattle.wu_base.proofs.Members.{Has, Has-from_Contains, all_has, has_any}
use Rattle.wu_base.proofs.SortedLists.{same-sorted_once, sorted_once_has}
use Rattle.wu_access.specs.declared.UserRec.{UserRec}
use Rattle.wu_access.specs.declared.Want.{Want}
use Rattle.wu_access.specs.declared.Want.TheVariants.{Read, Execute}
use Rattle.wu_access.specs.Access.{is_allowed}
use Rattle.wu_tree.specs.declared.events.Kind.{Kind}
use Rattle.wu_tree.specs.declared.events.Kind.TheVariants.{Directory, File}
use Rattle.wu_tree.specs.declared.events.Node.{Node}
use Rattle.wu_tree.specs.FileSystems.{FileSystem, Link, acl_of, depth, groups_of, has_entries, is_directory, is_directory_node, is_file}
use Rattle.wu_tree.specs.FileSystems.{is_file_node, is_kind_file, is_there, node_of}
use Rattle.wu_tree.specs.Rules.{IsTree}
use Rattle.wu_tree.proofs.ParentPaths.{directory_found}
use Rattle.wu_view.specs.declared.Seen.{Seen}
use Rattle.wu_view.specs.Views.{directory_path, is_granted_node, is_open, is_readable, may, path_of, seen_as, user_with, view_for, view_of}
use Rattle.wu_view.proofs.LinkPaths.{depth_below, depth_range, link_facts, linked_once, open_below, open_root, path_below_is, root_open}
use Rattle.wu_view.proofs.LinkPaths.{root_path, some_link}
use Rattle.wu_view.proofs.ShownFiles.{has_opened, has_seen, opened_has, opened_paths, seen_exact, seen_has, seen_total, unsorted}
use Rattle.wu_frames.specs.declared.links.ChangedLink.{ChangedLink}
use Rattle.wu_frames.specs.declared.links.LinkChanges.{LinkChanges}
use Rattle.wu_frames.specs.Permissions.{user_in, want_of}
use Rattle.wu_frames.specs.Links.{Changes, IsAccounted, IsLinkChange, is_shown, is_some_shown, sees_none}

-- ---- nodes

some-there : {X : Type 0} (o : Option X) → is_some o ≡ true → (x : X) × (o ≡ Some x)
some-there None h = absurd cc
some-there (Some x) h = (x, refl)

file-found : (o : Option Node) → is_file_node o ≡ true → (node : Node) × (o ≡ Some node) × (is_kind_file node.kind ≡ true)
file-found None h = absurd cc
file-found (Some node) h = (node, refl, h)

want-of_file : (kind : Kind) → is_kind_file kind ≡ true → want_of kind ≡ Read
want-of_file File h = refl
want-of_file Directory h = absurd cc

want-of_directory : (kind : Kind) → not (is_kind_file kind) ≡ true → want_of kind ≡ Execute
want-of_directory File h = absurd cc
want-of_directory Directory h = refl

-- ---- what a user sees

-- a readable file, by a link whose directory is open
pub record IsSeen (fs : FileSystem) (user : UserRec) (link : Link) : Type 0 where
  pub within : Has link fs.links
  pub readable : is_readable fs user link.1 ≡ true
  pub opened : is_open fs user link.0.0 ≡ true

module _ (fs : FileSystem) (t : IsTree fs) (user : UserRec) where
  file-seen : (file : Seen) → Has file (view_for fs user) → is_file fs file.ino ≡ true
  unfolding view_for
  file-seen file h =
      let r = has_seen fs t user file (sorted_once_has seen_total seen_exact file (unsorted fs t user) h) in
      let same : r.0 ≡ file.ino = ap (λ (x : Seen). x.ino) r.4 in
      subst (λ (n : ℕ). is_file fs n ≡ true) same (and_parts (is_file fs r.0) (may fs user Read r.0) r.2).0

-- what the user sees in one file system she sees in the other, by the same path
abbrev Carries : FileSystem → FileSystem → UserRec → Type 0
Carries a b user = (link : Link) → IsSeen a user link → IsSeen b user link × (path_of a.links link.0 ≡ path_of b.links link.0)

module _ (a b : FileSystem) (s : IsTree a) (t : IsTree b) (user : UserRec) where
  opened-within : Carries a b user → (q : ℕ) (path : List ℕ) → is_readable a user q ≡ true → Has path (opened_paths a s user q)
      → (is_readable b user q ≡ true) × Has path (opened_paths b t user q)
  opened-within there q path r h =
      let o = has_opened a s user q path h in
      let seen : IsSeen a user o.0 =
      record { within = o.1; readable = subst (λ (n : ℕ). is_readable a user n ≡ true) (sym o.2) r; opened = o.3 } in
      let c = there o.0 seen in (
        subst (λ (n : ℕ). is_readable b user n ≡ true) o.2 c.0.readable,
        subst (λ (p : List ℕ). Has p (opened_paths b t user q)) (sym c.1 ∙ o.4)
            (opened_has b t user q o.0 c.0.within o.2 c.0.opened),
      )

module _ (a b : FileSystem) (s : IsTree a) (t : IsTree b) (user : UserRec) (there : Carries a b user) (back : Carries b a user) where
  seen_as-same : (q : ℕ) → is_readable a user q ≡ true → is_readable b user q ≡ true → seen_as a user q ≡ seen_as b user q
  seen_as-same q r u =
      ap (λ (p : List (List ℕ)). record { paths = p; ino = q })
      (same-sorted_once nat_list_cmp_total exact_bytes (opened_paths a s user q) (opened_paths b t user q)
      (λ p h. (opened-within a b s t user there q p r h).1) (λ p h. (opened-within b a t s user back q p u h).1))

  shown-within : (file : Seen) → Has file (unsorted a s user) → Has file (unsorted b t user)
  shown-within file h =
      let r = has_seen a s user file h in
      let o = opened-within a b s t user there r.0 r.1 r.2 r.3 in
      subst (λ (x : Seen). Has x (unsorted b t user)) (sym (seen_as-same r.0 r.2 o.0) ∙ r.4) (seen_has b t user r.0 r.1 o.0 o.1)

view_for-carried : (a b : FileSystem) (s : IsTree a) (t : IsTree b) (user : UserRec) → Carries a b user → Carries b a user
    → view_for a user ≡ view_for b user
unfolding view_for
view_for-carried a b s t user there back =
    same-sorted_once seen_total seen_exact (unsorted a s user) (unsorted b t user) (shown-within a b s t user there back)
    (shown-within b a t s user back there)

-- ---- links that change

abbrev IsReached : FileSystem → UserRec → ℕ → Type 0
IsReached fs user directory = (is_directory fs directory ≡ true) × (is_open fs user directory ≡ true)

has_entry : (link : Link) (links : List Link) → Has link links → has_entries links link.0.0 ≡ true
has_entry link links h = has_any (λ l. l.0.0 == link.0.0) link links h (eq-eqb link.0.0 link.0.0 refl)

module _ (one other : FileSystem) (s : IsTree one) (t : IsTree other) (links : LinkChanges) (user : UserRec)
    (accounted : AllByRecursion (IsAccounted one links other) one.links)
    (nodes : (ino : ℕ) (node now : Node) → node_of one ino ≡ Some node → node_of other ino ≡ Some now
    → (node ≡ now) × (acl_of one ino ≡ acl_of other ino))
    (hidden : (link : ChangedLink) → Changes links link → is_allowed user link.node.perm link.acl (want_of link.node.kind) ≡ true
    → IsReached one user link.directory → IsReached other user link.directory → ⊥) where
  node-same : (q : ℕ) → is_there one q ≡ true → is_there other q ≡ true → node_of one q ≡ node_of other q
  node-same q h g =
      let x = some-there (node_of one q) h in
      let y = some-there (node_of other q) g in
      x.1 ∙ ap Some (nodes q x.0 y.0 x.1 y.1).0 ∙ sym y.1

  acl-same : (q : ℕ) → is_there one q ≡ true → is_there other q ≡ true → acl_of one q ≡ acl_of other q
  acl-same q h g =
      let x = some-there (node_of one q) h in
      let y = some-there (node_of other q) g in
      (nodes q x.0 y.0 x.1 y.1).1

  may-same : (want : Want) (q : ℕ) → is_there one q ≡ true → is_there other q ≡ true → may one user want q ≡ may other user want q
  may-same want q h g = λ i. is_granted_node user want (acl-same q h g i) (node-same q h g i)

  -- the directory is reached in the other too, by the same path
  abbrev IsKept : ℕ → Type 0
  IsKept q = IsReached other user q × (directory_path one.links q ≡ directory_path other.links q)

  -- a link that the user follows isn't among those that change
  not-listed : (link : Link) (node : Node) → node_of one link.1 ≡ Some node
      → is_allowed user node.perm (acl_of one link.1) (want_of node.kind) ≡ true
      → IsReached one user link.0.0 → IsReached other user link.0.0
      → IfSome (node_of one link.1) (λ (n : Node). Changes links (record { directory = link.0.0; node = n; acl = acl_of one link.1 })) → ⊥
  not-listed link node e g r u h =
      hidden (record { directory = link.0.0; node = node; acl = acl_of one link.1 })
      (subst
      (λ (o : Option Node). IfSome o (λ (n : Node). Changes links (record { directory = link.0.0; node = n; acl = acl_of one link.1 }))) e
      h) g r u

  kept-there : (link : Link) → Has link one.links → is_directory one link.1 ≡ true → may one user Execute link.1 ≡ true
      → IsKept link.0.0 → Has link other.links → IsKept link.1
  kept-there link h d m up there =
      let found = directory_found (node_of one link.1) d in
      let here : is_there one link.1 ≡ true = ap is_some found.1 in
      let after : is_there other link.1 ≡ true = (link_facts other t link there).child in
      let same : node_of one link.1 ≡ node_of other link.1 = node-same link.1 here after in
      let directory : is_directory other link.1 ≡ true = ap is_directory_node (sym same) ∙ d in
      let passed : may other user Execute link.1 ≡ true = sym (may-same Execute link.1 here after) ∙ m in (
        (
          directory,
          open_below other t user link there directory
              ∙ and_from (may other user Execute link.1) (is_open other user link.0.0) passed up.0.1,
        ),
        path_below_is one s link h d ∙ ap (λ (p : List ℕ). p ++ 47 ∷ link.0.1) up.1 ∙ sym (path_below_is other t link there directory),
      )

  kept-below : (link : Link) → Has link one.links → is_directory one link.1 ≡ true → has_entries one.links link.1 ≡ true
      → may one user Execute link.1 ≡ true → IsReached one user link.0.0 → IsKept link.0.0 → IsKept link.1
  kept-below link h d e m r up =
      let found = directory_found (node_of one link.1) d in
      let granted : is_allowed user found.0.perm (acl_of one link.1) (want_of found.0.kind) ≡ true =
      ap (λ (w : Want). is_allowed user found.0.perm (acl_of one link.1) w) (want-of_directory found.0.kind found.2)
      ∙ ap (is_granted_node user Execute (acl_of one link.1)) (sym found.1) ∙ m in
      ⊎_elim (λ c. kept-there link h d m up (Has-from_Contains link other.links c))
      (λ i.
      ⊎_elim (λ c. absurd (not-listed link found.0 found.1 granted r up.0 c))
      (λ c. absurd (let f : true ≡ false = sym e ∙ c.1 in cc)) i)
      (all_has (IsAccounted one links other) link one.links accounted h)

  kept-root : may one user Execute 1 ≡ true → IsKept 1
  kept-root m =
      let same : may one user Execute 1 ≡ may other user Execute 1 =
      may-same Execute 1 (ap is_some (directory_found (node_of one 1) s.root).1)
      (ap is_some (directory_found (node_of other 1) t.root).1) in
      let passed : may other user Execute 1 ≡ true = sym same ∙ m in
      ((t.root, root_open other t user passed), root_path one s ∙ sym (root_path other t))

  kept-open : (n q : ℕ) → depth one.links q ≤ n → has_entries one.links q ≡ true → IsReached one user q → IsKept q
  kept-open zero q l e r = absurd (omega (arith, l, (depth_range one.links q).0))
  kept-open (suc n) q l e r =
      elim (q == 1) as (λ b. (q == 1) ≡ b → IsKept q) [
        | true ↦ λ p. subst IsKept (sym (eqb-true q 1 p)) (kept-root (open_root one s user q r.0 r.1))
        | false ↦ λ p.
            let once = linked_once one s q r.0 (eqb-false q 1 p) in
            let k = some_link q one.links (omega (arith, once)) in
            let link : Link = k.0 in
            let within : Has link one.links = k.1.0 in
            let here : q ≡ link.1 = sym k.1.1 in
            let d : is_directory one link.1 ≡ true = subst (λ (x : ℕ). is_directory one x ≡ true) here r.0 in
            let o : is_open one user link.1 ≡ true = subst (λ (x : ℕ). is_open one user x ≡ true) here r.1 in
            let both = and_parts (may one user Execute link.1) (is_open one user link.0.0)
            (sym (open_below one s user link within d) ∙ o) in
            let above : IsReached one user link.0.0 = ((link_facts one s link within).parent, both.1) in
            let less : depth one.links link.0.0 ≤ n =
            omega (arith, l, ap (λ (x : ℕ). depth one.links x) here, depth_below one s link within d) in
            let up : IsKept link.0.0 = kept-open n link.0.0 less (has_entry link one.links within) above in
            subst IsKept k.1.1
            (kept-below link within d (subst (λ (x : ℕ). has_entries one.links x ≡ true) here e) both.0 above up)
      ] refl

  pub carried : Carries one other user
  carried link seen =
      let facts = link_facts one s link seen.within in
      let readable = and_parts (is_file one link.1) (may one user Read link.1) seen.readable in
      let found = file-found (node_of one link.1) readable.0 in
      let granted : is_allowed user found.0.perm (acl_of one link.1) (want_of found.0.kind) ≡ true =
      ap (λ (w : Want). is_allowed user found.0.perm (acl_of one link.1) w) (want-of_file found.0.kind found.2)
      ∙ ap (is_granted_node user Read (acl_of one link.1)) (sym found.1) ∙ readable.1 in
      let above : IsReached one user link.0.0 = (facts.parent, seen.opened) in
      let up : IsKept link.0.0 =
      kept-open (depth one.links link.0.0) link.0.0 (omega arith) (has_entry link one.links seen.within) above in
      ⊎_elim
      (λ c.
      let there : Has link other.links = Has-from_Contains link other.links c in
      let after : is_there other link.1 ≡ true = (link_facts other t link there).child in (
        record {
          within = there;
          readable = (λ i. is_file_node (sym (node-same link.1 facts.child after) i) && sym (may-same Read link.1 facts.child after) i)
              ∙ seen.readable;
          opened = up.0.1;
        },
        ap (λ (p : List ℕ). p ++ 47 ∷ link.0.1) up.1,
      ))
      (λ i.
      ⊎_elim (λ c. absurd (not-listed link found.0 found.1 granted above up.0 c))
      (λ c. absurd (no-file (node_of one link.1) readable.0 c.0)) i)
      (all_has (IsAccounted one links other) link one.links accounted seen.within)
    where
      no-file : (o : Option Node) → is_file_node o ≡ true → is_directory_node o ≡ true → ⊥
      no-file None h g = cc
      no-file (Some node) h g = let f : not true ≡ true = ap not (sym h) ∙ g in cc

-- ---- the view of a user who sees none of them

none-true : (a b c : Bool) → not (a || b || c) ≡ true → (a ≡ false) × (b ≡ false) × (c ≡ false)
none-true true b c h = absurd cc
none-true false true c h = absurd cc
none-true false false true h = absurd cc
none-true false false false h = (refl, refl, refl)

unshown : (fs : FileSystem) (links : LinkChanges) (uid : ℕ) → sees_none fs links uid ≡ true → (link : ChangedLink) → Changes links link
    → is_shown fs (user_in fs uid) link ≡ false
unshown fs links uid h link c =
    let shown = is_some_shown fs (user_in fs uid) in
    let none = none-true (shown links.made) (shown links.removed) (shown links.replaced) h in
    ⊎_elim (λ e. ap shown (sym e) ∙ none.0) (λ i. ⊎_elim (λ e. ap shown (sym e) ∙ none.1) (λ e. ap shown (sym e) ∙ none.2) i) c

module _ (before after : FileSystem) (t : IsTree after) (links : LinkChanges) (c : IsLinkChange before links after) (uid : ℕ)
    (h : sees_none after links uid ≡ true) where
  hidden-after : (link : ChangedLink) → Changes links link
      → is_allowed (user_in after uid) link.node.perm link.acl (want_of link.node.kind) ≡ true
      → IsReached after (user_in after uid) link.directory → ⊥
  hidden-after link l g r =
      let no : is_shown after (user_in after uid) link ≡ false = unshown after links uid h link l in
      let yes : is_shown after (user_in after uid) link ≡ true = rw (g, r.0, r.1) refl in
      let f : true ≡ false = sym yes ∙ no in
      cc

  pub view_of-relinked : view_of after uid ≡ view_of before uid
  unfolding view_of
  view_of-relinked =
      let groups : groups_of after uid ≡ groups_of before uid =
      ap (λ (users : List (ℕ × List ℕ)). unwrap_or (lookup (is_at (nat_cmp uid)) users) []) c.users in
      view_for-carried after before t c.rules (user_in after uid)
      (carried after before t c.rules links (user_in after uid) c.came (λ ino node now a b. let same = c.nodes ino now node b a in (sym same.0, sym same.1))
      (λ link l g r u. hidden-after link l g r))
      (carried before after c.rules t links (user_in after uid) c.went c.nodes (λ link l g r u. hidden-after link l g u))
      ∙ ap (λ (g : List ℕ). view_for before (user_with uid g)) groups

pub file-of_view : (fs : FileSystem) → IsTree fs → (uid : ℕ) (file : Seen) → Has file (view_of fs uid) → is_file fs file.ino ≡ true
unfolding view_of
file-of_view fs t uid file h = file-seen fs t (user_with uid (groups_of fs uid)) file h
