-- A view depends on the nodes that its user can reach, and on whether they let her in.
use Rattle.std.proofs.Common.{◌≡◌, ℕ, zero, suc, ◌≤◌, Bool, true, false, ◌&&◌, not, List, refl, ap, sym, ◌∙◌, subst, arith}
use Rattle.std.specs.Prelude.{◌==◌, Option, None, Some}
use Rattle.std.specs.List.{list_all}
use Rattle.std.proofs.lemmas.Bool.{and_from, and_parts, eq-eqb, eqb-true, eqb-false, or_right}
use Rattle.std.proofs.lemmas.Cmp.{nat_list_cmp_total}
use Rattle.std.proofs.lemmas.Map.Lookups.{exact_bytes}
use Rattle.wu_base.proofs.Members.{Has, has_any}
use Rattle.wu_base.proofs.SortedLists.{same-sorted_once, sorted_once_has}
use Rattle.wu_access.specs.declared.acls.Acl.{Acl}
use Rattle.wu_access.specs.declared.UserRec.{UserRec}
use Rattle.wu_access.specs.declared.Want.{Want}
use Rattle.wu_access.specs.declared.Want.TheVariants.{Read, Execute}
use Rattle.wu_access.specs.Access.{is_allowed}
use Rattle.wu_tree.specs.declared.events.Kind.{Kind}
use Rattle.wu_tree.specs.declared.events.Kind.TheVariants.{Directory, File}
use Rattle.wu_tree.specs.declared.events.Node.{Node}
use Rattle.wu_tree.specs.FileSystems.{FileSystem, Link, acl_of, depth, is_directory, is_directory_node, is_file, is_file_node, is_kind_file}
use Rattle.wu_tree.specs.FileSystems.{node_of}
use Rattle.wu_tree.specs.Rules.{IsTree}
use Rattle.wu_tree.proofs.ParentPaths.{path_of_root}
use Rattle.wu_tree.proofs.PathsDown.{no_second}
use Rattle.wu_view.specs.declared.Seen.{Seen}
use Rattle.wu_view.specs.Views.{is_granted_node, is_open, is_readable, may, path_of, seen_as, view_for, view_of}
use Rattle.wu_view.proofs.LinkPaths.{depth_below, depth_range, link_facts, linked_once, open_below, some_link}
use Rattle.wu_view.proofs.ShownFiles.{has_opened, has_seen, opened_has, opened_paths, seen_exact, seen_has, seen_total, unsorted}
use Rattle.wu_frames.specs.Permissions.{user_in, want_of}
use Rattle.wu_frames.proofs.SeenLinks.{IsSeen}
use Rattle.wu_secrecy.specs.Unseen.{AdmitsAlike, admits, admits_node, is_linked_openly, is_reachable, is_searchable}

-- ---- what one user sees in one file system, and another in another

-- each file that the one sees by a link the other sees by the same, and by the same path
abbrev Carries : FileSystem → UserRec → FileSystem → UserRec → Type 0
Carries a u b v = (link : Link) → IsSeen a u link → IsSeen b v link × (path_of a.links link.0 ≡ path_of b.links link.0)

module _ (a b : FileSystem) (s : IsTree a) (t : IsTree b) (u v : UserRec) where
  opened-within : Carries a u b v → (q : ℕ) (path : List ℕ) → is_readable a u q ≡ true → Has path (opened_paths a s u q)
      → (is_readable b v q ≡ true) × Has path (opened_paths b t v q)
  opened-within there q path r h =
      let o = has_opened a s u q path h in
      let seen : IsSeen a u o.0 =
      record { within = o.1; readable = subst (λ (n : ℕ). is_readable a u n ≡ true) (sym o.2) r; opened = o.3 } in
      let c = there o.0 seen in (
        subst (λ (n : ℕ). is_readable b v n ≡ true) o.2 c.0.readable,
        subst (λ (p : List ℕ). Has p (opened_paths b t v q)) (sym c.1 ∙ o.4) (opened_has b t v q o.0 c.0.within o.2 c.0.opened),
      )

module _ (a b : FileSystem) (s : IsTree a) (t : IsTree b) (u v : UserRec) (there : Carries a u b v) (back : Carries b v a u) where
  seen_as-same : (q : ℕ) → is_readable a u q ≡ true → is_readable b v q ≡ true → seen_as a u q ≡ seen_as b v q
  seen_as-same q r w =
      ap (λ (p : List (List ℕ)). record { paths = p; ino = q })
      (same-sorted_once nat_list_cmp_total exact_bytes (opened_paths a s u q) (opened_paths b t v q)
      (λ p h. (opened-within a b s t u v there q p r h).1) (λ p h. (opened-within b a t s v u back q p w h).1))

  shown-within : (file : Seen) → Has file (unsorted a s u) → Has file (unsorted b t v)
  shown-within file h =
      let r = has_seen a s u file h in
      let o = opened-within a b s t u v there r.0 r.1 r.2 r.3 in
      subst (λ (x : Seen). Has x (unsorted b t v)) (sym (seen_as-same r.0 r.2 o.0) ∙ r.4) (seen_has b t v r.0 r.1 o.0 o.1)

view_for-carried : (a b : FileSystem) (s : IsTree a) (t : IsTree b) (u v : UserRec) → Carries a u b v → Carries b v a u
    → view_for a u ≡ view_for b v
unfolding view_for
view_for-carried a b s t u v there back =
    same-sorted_once seen_total seen_exact (unsorted a s u) (unsorted b t v) (shown-within a b s t u v there back)
    (shown-within b a t s v u back there)

-- ---- what a node is asked

want-of_file : (kind : Kind) → is_kind_file kind ≡ true → want_of kind ≡ Read
want-of_file File h = refl
want-of_file Directory h = absurd cc

want-of_directory : (kind : Kind) → not (is_kind_file kind) ≡ true → want_of kind ≡ Execute
want-of_directory File h = absurd cc
want-of_directory Directory h = refl

admits-file : (user : UserRec) (acl : Option Acl) (o : Option Node) → is_file_node o ≡ true
    → admits_node user acl o ≡ is_granted_node user Read acl o
admits-file user acl None h = refl
admits-file user acl (Some node) h = ap (λ (w : Want). is_allowed user node.perm acl w) (want-of_file node.kind h)

admits-directory : (user : UserRec) (acl : Option Acl) (o : Option Node) → is_directory_node o ≡ true
    → admits_node user acl o ≡ is_granted_node user Execute acl o
admits-directory user acl None h = refl
admits-directory user acl (Some node) h = ap (λ (w : Want). is_allowed user node.perm acl w) (want-of_directory node.kind h)

-- whether the node lets the user in
abbrev lets_in : FileSystem → UserRec → ℕ → Bool
lets_in fs user q = admits_node user (acl_of fs q) (node_of fs q)

-- ---- the same links

module _ (a b : FileSystem) (s : IsTree a) (t : IsTree b) (u v : UserRec) (links : b.links ≡ a.links)
    (files : (q : ℕ) → is_file b q ≡ is_file a q) (directories : (q : ℕ) → is_directory b q ≡ is_directory a q)
    (root : lets_in b v 1 ≡ lets_in a u 1)
    (alike : (link : Link) → Has link a.links → is_open a u link.0.0 ≡ true → lets_in b v link.1 ≡ lets_in a u link.1) where
  passed : (q : ℕ) → is_directory a q ≡ true → lets_in b v q ≡ lets_in a u q → may b v Execute q ≡ may a u Execute q
  passed q d e =
      sym (admits-directory v (acl_of b q) (node_of b q) (directories q ∙ d)) ∙ e ∙ admits-directory u (acl_of a q) (node_of a q) d

  readable : (q : ℕ) → lets_in b v q ≡ lets_in a u q → is_readable b v q ≡ is_readable a u q
  readable q e =
      elim (is_file a q) as (λ f. is_file a q ≡ f → is_readable b v q ≡ is_readable a u q) [
        | true ↦ λ h.
            let r : may b v Read q ≡ may a u Read q =
            sym (admits-file v (acl_of b q) (node_of b q) (files q ∙ h)) ∙ e ∙ admits-file u (acl_of a q) (node_of a q) h in
            λ i. files q i && r i
        | false ↦ λ h. ap (λ (f : Bool). f && may b v Read q) (files q ∙ h) ∙ sym (ap (λ (f : Bool). f && may a u Read q) h)
      ] refl

  open-root : is_open b v 1 ≡ is_open a u 1
  open-root =
      ap (list_all (may b v Execute)) (path_of_root b.links) ∙ ap (λ (m : Bool). m && true) (passed 1 s.root root)
      ∙ sym (ap (list_all (may a u Execute)) (path_of_root a.links))

  open-below : (link : Link) → Has link a.links → is_directory a link.1 ≡ true → is_open b v link.0.0 ≡ is_open a u link.0.0
      → (may b v Execute link.1 && is_open b v link.0.0) ≡ (may a u Execute link.1 && is_open a u link.0.0)
  open-below link h d up =
      elim (is_open a u link.0.0) as
      (λ o. is_open a u link.0.0 ≡ o
      → (may b v Execute link.1 && is_open b v link.0.0) ≡ (may a u Execute link.1 && is_open a u link.0.0)) [
        | true ↦ λ p. let m = passed link.1 d (alike link h p) in λ i. m i && up i
        | false ↦ λ p.
            no_second (may b v Execute link.1) (is_open b v link.0.0) (up ∙ p)
            ∙ sym (no_second (may a u Execute link.1) (is_open a u link.0.0) p)
      ] refl

  open-within : (n q : ℕ) → depth a.links q ≤ n → is_directory a q ≡ true → is_open b v q ≡ is_open a u q
  open-within zero q l d = absurd (omega (arith, l, (depth_range a.links q).0))
  open-within (suc n) q l d =
      elim (q == 1) as (λ e. (q == 1) ≡ e → is_open b v q ≡ is_open a u q) [
        | true ↦ λ p. subst (λ (x : ℕ). is_open b v x ≡ is_open a u x) (sym (eqb-true q 1 p)) open-root
        | false ↦ λ p.
            let once = linked_once a s q d (eqb-false q 1 p) in
            let k = some_link q a.links (omega (arith, once)) in
            let link : Link = k.0 in
            let within : Has link a.links = k.1.0 in
            let here : q ≡ link.1 = sym k.1.1 in
            let directory : is_directory a link.1 ≡ true = subst (λ (x : ℕ). is_directory a x ≡ true) here d in
            let less : depth a.links link.0.0 ≤ n =
            omega (arith, l, ap (λ (x : ℕ). depth a.links x) here, depth_below a s link within directory) in
            let up : is_open b v link.0.0 ≡ is_open a u link.0.0 =
            open-within n link.0.0 less (link_facts a s link within).parent in
            subst (λ (x : ℕ). is_open b v x ≡ is_open a u x) k.1.1
            (open_below b t v link (subst (λ (l : List Link). Has link l) (sym links) within) (directories link.1 ∙ directory)
            ∙ open-below link within directory up ∙ sym (open_below a s u link within directory))
      ] refl

  open-same : (link : Link) → Has link a.links → is_open b v link.0.0 ≡ is_open a u link.0.0
  open-same link h = open-within (depth a.links link.0.0) link.0.0 (omega arith) (link_facts a s link h).parent

  there : Carries a u b v
  there link seen = (
    record {
      within = subst (λ (l : List Link). Has link l) (sym links) seen.within;
      readable = readable link.1 (alike link seen.within seen.opened) ∙ seen.readable;
      opened = open-same link seen.within ∙ seen.opened;
    },
    ap (λ (l : List Link). path_of l link.0) (sym links),
  )

  back : Carries b v a u
  back link seen =
      let within : Has link a.links = subst (λ (l : List Link). Has link l) links seen.within in
      let opened : is_open a u link.0.0 ≡ true = sym (open-same link within) ∙ seen.opened in (
        record { within = within; readable = sym (readable link.1 (alike link within opened)) ∙ seen.readable; opened = opened },
        ap (λ (l : List Link). path_of l link.0) links,
      )

  view_for-alike : view_for b v ≡ view_for a u
  view_for-alike = view_for-carried b a t s v u back there

-- ---- a user who is let in alike

reached-by : (fs : FileSystem) (uid : ℕ) (link : Link) → Has link fs.links → is_open fs (user_in fs uid) link.0.0 ≡ true
    → is_reachable fs uid link.1 ≡ true
reached-by fs uid link h o =
    or_right (link.1 == 1) (is_linked_openly fs uid link.1)
    (has_any (λ (l : Link). l.1 == link.1 && is_open fs (user_in fs uid) l.0.0) link fs.links h
    (and_from (link.1 == link.1) (is_open fs (user_in fs uid) link.0.0) (eq-eqb link.1 link.1 refl) o))

module _ (before after : FileSystem) (s : IsTree before) (t : IsTree after) (links : after.links ≡ before.links)
    (files : (q : ℕ) → is_file after q ≡ is_file before q) (directories : (q : ℕ) → is_directory after q ≡ is_directory before q)
    (uid : ℕ) (alike : AdmitsAlike before after uid) where
  pub view_of-alike : view_of after uid ≡ view_of before uid
  unfolding view_of
  view_of-alike =
      view_for-alike before after s t (user_in before uid) (user_in after uid) links files directories (alike 1 refl)
      (λ link h o. alike link.1 (reached-by before uid link h o))

-- ---- a file of a view can be searched

module _ (fs : FileSystem) (s : IsTree fs) (uid : ℕ) where
  file-reached : (file : Seen) → Has file (view_for fs (user_in fs uid)) → is_searchable fs uid file.ino ≡ true
  unfolding view_for
  file-reached file h =
      let u = user_in fs uid in
      let r = has_seen fs s u file (sorted_once_has seen_total seen_exact file (unsorted fs s u) h) in
      let same : r.0 ≡ file.ino = ap (λ (x : Seen). x.ino) r.4 in
      let o = has_opened fs s u r.0 r.1 r.3 in
      let parts = and_parts (is_file fs r.0) (may fs u Read r.0) r.2 in
      let reached : is_reachable fs uid r.0 ≡ true =
      subst (λ (n : ℕ). is_reachable fs uid n ≡ true) o.2 (reached-by fs uid o.0 o.1 o.3) in
      subst (λ (n : ℕ). is_searchable fs uid n ≡ true) same
      (and_from (is_reachable fs uid r.0) (admits fs uid r.0) reached (admits-file u (acl_of fs r.0) (node_of fs r.0) parts.0 ∙ parts.1))

  pub view-searchable : (file : Seen) → Has file (view_of fs uid) → is_searchable fs uid file.ino ≡ true
  unfolding view_of
  view-searchable file h = file-reached file h
