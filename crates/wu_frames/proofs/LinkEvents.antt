-- An event that makes, removes or moves links changes those that are told of it, and no others.
use Rattle.std.proofs.Common.{◌≡◌, ◌≢◌, ℕ, Bool, true, false, cond, ◌||◌, List, [], ◌∷◌, refl, ap, sym, ◌∙◌, subst, inl, inr}
use Rattle.std.specs.Prelude.{Option, None, Some, IfSome, is_some, option_map}
use Rattle.std.specs.Cmp.{nat_cmp_total}
use Rattle.std.specs.Ordering.{is_eq, nat_cmp}
use Rattle.std.specs.List.{AllByRecursion, Contains}
use Rattle.std.specs.Map.{lookup, remove_entry}
use Rattle.std.specs.BTreeMap.{insert_entry, is_at}
use Rattle.std.proofs.lemmas.Bool.{ne_eqb, or_parts}
use Rattle.std.proofs.lemmas.Map.{lookup-none}
use Rattle.std.proofs.lemmas.Map.Views.{Contains-from_lookup, tells_apart}
use Rattle.wu_base.proofs.MapEntries.{All-found, All-insert_entry, All-remove_entry, is_equal, lookup-insert_entry, lookup-remove_other}
use Rattle.wu_base.proofs.MapEntries.{none_left, number_itself}
use Rattle.wu_base.proofs.Members.{Contains-from_Has, Has, all_from_has, all_has}
use Rattle.wu_view.proofs.PathResolution.{child_found}
use Rattle.wu_access.specs.declared.acls.Acl.{Acl}
use Rattle.wu_access.specs.declared.Perm.{Perm}
use Rattle.wu_tree.specs.declared.events.Event.TheVariants.{Mkdir, Create, Link as AddLink, Unlink, Rmdir, Rename}
use Rattle.wu_tree.specs.declared.events.Kind.TheVariants.{Directory, File}
use Rattle.wu_tree.specs.declared.events.Node.{Node}
use Rattle.wu_tree.specs.FileSystems.{FileSystem, Link, Place, acl_of, child_of, has_entries, is_directory, is_directory_node, is_file}
use Rattle.wu_tree.specs.FileSystems.{is_there, is_used, node_of, place_cmp}
use Rattle.wu_tree.specs.Rules.{IsAclOf, IsLink, IsTree}
use Rattle.wu_tree.specs.Steps.{create_rules, is_same_node, link_rules, mkdir_rules, named, named_by, next, refusal_of, rename_rules}
use Rattle.wu_tree.specs.Steps.{rmdir_rules, with_link, with_link_moved, with_node, without_link}
use Rattle.wu_tree.proofs.EventRules.{absent, kind_directory, none_applies, not_false, place, present}
use Rattle.wu_tree.proofs.LinkRemovals.{apart_from}
use Rattle.wu_tree.proofs.ParentPaths.{absent_directory, place_exact, place_total, same_number}
use Rattle.wu_tree.proofs.TreeInvariant.{not_passed}
use Rattle.wu_frames.specs.declared.links.LinkChanges.{LinkChanges}
use Rattle.wu_frames.specs.Links.{Changes, IsAccounted, IsLinkChange, link_at, link_to, link_to_some, links_changed, no_links}

same-node : (a b : Node) → Some a ≡ Some b → a ≡ b
same-node a b h = cc

if-some : (P : Node → Type 0) (o : Option Node) → ((node : Node) → o ≡ Some node → P node) → IfSome o P
if-some P None f = tt
if-some P (Some node) f = f node refl

-- the link in that directory to that node
linked-to : (fs : FileSystem) (directory ino : ℕ) (node : Node) → node_of fs ino ≡ Some node
    → link_to fs directory ino ≡ Some (record { directory = directory; node = node; acl = acl_of fs ino })
linked-to fs directory ino node e =
    ap (option_map (λ (n : Node). record { directory = directory; node = n; acl = acl_of fs ino })) e

same-place : (k l : Place) → is_eq (place_cmp k l) ≡ true → k ≡ l
same-place k l h = place_exact k l (is_equal _ h)

no-entries : (links : List Link) (q : ℕ) → AllByRecursion (λ (l : Link). l.0.0 ≢ q) links → has_entries links q ≡ false
no-entries [] q a = refl
no-entries (l ∷ links) q a = rw (ne_eqb l.0.0 q a.0) (no-entries links q a.1)

-- a link that a look-up finds in another file system
kept : (other : FileSystem) (link : Link) → child_of other link.0.0 link.0.1 ≡ Some link.1 → Contains other.links link
kept other link h = Contains-from_lookup (tells_apart place_exact) link.0 link.1 other.links h

-- a node that isn't there has no access list
acl-absent : (fs : FileSystem) → IsTree fs → (ino : ℕ) → node_of fs ino ≡ None → acl_of fs ino ≡ None
acl-absent fs t ino h =
    elim (acl_of fs ino) as (λ o. acl_of fs ino ≡ o → o ≡ None) [
      | None ↦ λ e. refl
      | Some acl ↦ λ e.
          let f = All-found (IsAclOf fs) (is_at (nat_cmp ino)) fs.acls acl t.acls e in
          let there : is_there fs ino ≡ true = subst (λ (q : ℕ). is_there fs q ≡ true) (sym (same_number ino f.0 f.1)) f.2.0 in
          let none : is_there fs ino ≡ false = ap is_some h in
          absurd (let g : true ≡ false = sym there ∙ none in cc)
    ] refl

module _ (fs : FileSystem) (t : IsTree fs) where
  went-by : (links : LinkChanges) (after : FileSystem)
      → ((link : Link) → Has link fs.links → child_of fs link.0.0 link.0.1 ≡ Some link.1 → IsAccounted fs links after link)
      → AllByRecursion (IsAccounted fs links after) fs.links
  went-by links after f = all_from_has (IsAccounted fs links after) fs.links (λ link h. f link h (child_found fs t link h))

  -- links that were there before
  old : (links : LinkChanges) (after : FileSystem) (es : List Link) → ((link : Link) → Has link es → Has link fs.links)
      → AllByRecursion (IsAccounted after links fs) es
  old links after es f = all_from_has (IsAccounted after links fs) es (λ link h. inl (Contains-from_Has link fs.links (f link h)))

  -- ---- a link at a place that was free

  module _ (ino parent : ℕ) (name : List ℕ) (free : child_of fs parent name ≡ None) where
    abbrev more : List Link
    more = insert_entry place_cmp fs.links (parent, name) ino

    still : (link : Link) → child_of fs link.0.0 link.0.1 ≡ Some link.1 → lookup (is_at (place_cmp link.0)) more ≡ Some link.1
    still link e =
        lookup-insert_entry place_total fs.links (parent, name) ino link.0
        ∙ elim (is_eq (place_cmp link.0 (parent, name))) as
        (λ b. is_eq (place_cmp link.0 (parent, name)) ≡ b
        → cond b (Some ino) (lookup (is_at (place_cmp link.0)) fs.links) ≡ Some link.1) [
          | true ↦ λ p.
              let none : child_of fs link.0.0 link.0.1 ≡ None =
              ap (λ (k : Place). lookup (is_at (place_cmp k)) fs.links) (same-place link.0 (parent, name) p) ∙ free in
              absurd (let f : Some link.1 ≡ None = sym e ∙ none in cc)
          | false ↦ λ p. e
        ] refl

    came : (links : LinkChanges) (after : FileSystem) → IsAccounted after links fs ((parent, name), ino)
        → AllByRecursion (IsAccounted after links fs) more
    came links after new =
        All-insert_entry (IsAccounted after links fs) place_cmp fs.links (parent, name) ino (old links after fs.links (λ link h. h))
        (λ q e. subst (λ (k : Place). IsAccounted after links fs (k, ino)) (place_exact (parent, name) q e) new) new

    -- one more link to a node
    linked : IsLinkChange fs (record no_links { made = link_to fs parent ino }) (with_link fs ino parent name)
    linked =
        let links : LinkChanges = record no_links { made = link_to fs parent ino } in
        let after : FileSystem = with_link fs ino parent name in
        record {
          rules = t;
          went = went-by links after (λ link h e. inl (kept after link (still link e)));
          came = came links after
              (inr (inl (if-some (λ n. Changes links (record { directory = parent; node = n; acl = acl_of fs ino })) (node_of fs ino)
              (λ n e. inl (linked-to fs parent ino n e)))));
          nodes = λ q a b h g. (same-node a b (sym h ∙ g), refl);
          users = refl;
        }

    -- a new node
    module _ (node : Node) (new : node_of fs ino ≡ None) where
      abbrev made : FileSystem
      made = with_node fs ino parent name node

      node-after : (q : ℕ) → node_of made q ≡ cond (is_eq (nat_cmp q ino)) (Some node) (node_of fs q)
      node-after q = lookup-insert_entry nat_cmp_total fs.nodes ino node q

      node-here : node_of made ino ≡ Some node
      node-here = rw (node-after ino, number_itself ino) refl

      nodes-same : (q : ℕ) (a b : Node) → node_of fs q ≡ Some a → node_of made q ≡ Some b → (a ≡ b) × (acl_of fs q ≡ acl_of made q)
      nodes-same q a b h g = (
        elim (is_eq (nat_cmp q ino)) as
            (λ v. is_eq (nat_cmp q ino) ≡ v → cond v (Some node) (node_of fs q) ≡ Some b → a ≡ b) [
              | true ↦ λ p k.
                  let none : node_of fs q ≡ None = ap (node_of fs) (same_number q ino p) ∙ new in
                  absurd (let f : Some a ≡ None = sym h ∙ none in cc)
              | false ↦ λ p k. same-node a b (sym h ∙ k)
            ] refl (sym (node-after q) ∙ g),
        refl,
      )

      made-file : IsLinkChange fs (record no_links { made = Some (record { directory = parent; node = node; acl = None }) }) made
      made-file =
          let links : LinkChanges = record no_links { made = Some (record { directory = parent; node = node; acl = None }) } in
          let none : acl_of made ino ≡ None = acl-absent fs t ino new in
          record {
            rules = t;
            went = went-by links made (λ link h e. inl (kept made link (still link e)));
            came = came links made
                (inr (inl
                (subst (λ (o : Option Node). IfSome o (λ n. Changes links (record { directory = parent; node = n; acl = acl_of made ino })))
                (sym node-here)
                (inl (ap (λ (a : Option Acl). Some (record { directory = parent; node = node; acl = a })) (sym none))))));
            nodes = nodes-same;
            users = refl;
          }

      made-directory : is_directory fs parent ≡ true → node.kind ≡ Directory → IsLinkChange fs no_links made
      made-directory directory kind =
          let apart : parent ≢ ino = λ e.
          let f : true ≡ false = sym directory ∙ ap is_directory_node (ap (node_of fs) e ∙ new) in
          absurd cc in
          let empty : has_entries more ino ≡ false =
          no-entries more ino
          (All-insert_entry (λ (l : Link). l.0.0 ≢ ino) place_cmp fs.links (parent, name) ino
          (absent_directory fs fs.links t.links ino (ap is_directory_node new))
          (λ q e. subst (λ (k : Place). k.0 ≢ ino) (place_exact (parent, name) q e) apart) apart) in
          record {
            rules = t;
            went = went-by no_links made (λ link h e. inl (kept made link (still link e)));
            came = came no_links made (inr (inr (rw (node-here, kind) refl, empty)));
            nodes = nodes-same;
            users = refl;
          }

  -- ---- a link that goes, with its node where it was the last

  node-left : (last : Bool) (c q : ℕ) (b : Node)
      → lookup (is_at (nat_cmp q)) (cond last (remove_entry (is_at (nat_cmp c)) fs.nodes) fs.nodes) ≡ Some b → node_of fs q ≡ Some b
  node-left false c q b h = h
  node-left true c q b h =
      elim (is_eq (nat_cmp q c)) as (λ v. is_eq (nat_cmp q c) ≡ v → node_of fs q ≡ Some b) [
        | true ↦ λ p.
            let none = lookup-none (is_at (nat_cmp c)) (remove_entry (is_at (nat_cmp c)) fs.nodes) (none_left c fs.nodes t.nodes_ascend) in
            let here : lookup (is_at (nat_cmp q)) (remove_entry (is_at (nat_cmp c)) fs.nodes) ≡ None =
            ap (λ (n : ℕ). lookup (is_at (nat_cmp n)) (remove_entry (is_at (nat_cmp c)) fs.nodes)) (same_number q c p) ∙ none in
            absurd (let f : Some b ≡ None = sym h ∙ here in cc)
        | false ↦ λ p.
            sym (lookup-remove_other (is_at (nat_cmp q)) (is_at (nat_cmp c))
            (λ k g. apart_from c q k (λ e. not_passed q c p (sym e)) g) fs.nodes) ∙ h
      ] refl

  acl-left : (last : Bool) (c q : ℕ) (b : Node)
      → lookup (is_at (nat_cmp q)) (cond last (remove_entry (is_at (nat_cmp c)) fs.nodes) fs.nodes) ≡ Some b
      → acl_of fs q ≡ lookup (is_at (nat_cmp q)) (cond last (remove_entry (is_at (nat_cmp c)) fs.acls) fs.acls)
  acl-left false c q b h = refl
  acl-left true c q b h =
      elim (is_eq (nat_cmp q c)) as
      (λ v. is_eq (nat_cmp q c) ≡ v → acl_of fs q ≡ lookup (is_at (nat_cmp q)) (remove_entry (is_at (nat_cmp c)) fs.acls)) [
        | true ↦ λ p.
            let none = lookup-none (is_at (nat_cmp c)) (remove_entry (is_at (nat_cmp c)) fs.nodes) (none_left c fs.nodes t.nodes_ascend) in
            let here : lookup (is_at (nat_cmp q)) (remove_entry (is_at (nat_cmp c)) fs.nodes) ≡ None =
            ap (λ (n : ℕ). lookup (is_at (nat_cmp n)) (remove_entry (is_at (nat_cmp c)) fs.nodes)) (same_number q c p) ∙ none in
            absurd (let f : Some b ≡ None = sym h ∙ here in cc)
        | false ↦ λ p.
            sym (lookup-remove_other (is_at (nat_cmp q)) (is_at (nat_cmp c))
            (λ k g. apart_from c q k (λ e. not_passed q c p (sym e)) g) fs.acls)
      ] refl

  module _ (parent : ℕ) (name : List ℕ) where
    abbrev fewer : List Link
    fewer = remove_entry (is_at (place_cmp (parent, name))) fs.links

    fewer-within : (link : Link) → Has link fewer → Has link fs.links
    fewer-within link h =
        all_has (λ (l : Link). Has l fs.links) link fewer
        (All-remove_entry (λ (l : Link). Has l fs.links) (is_at (place_cmp (parent, name))) fs.links
        (all_from_has (λ (l : Link). Has l fs.links) fs.links (λ l g. g))) h

    -- at another place all is as it was
    left-by : (links : List Link) (k : Place) → is_eq (place_cmp k (parent, name)) ≡ false
        → lookup (is_at (place_cmp k)) (remove_entry (is_at (place_cmp (parent, name))) links) ≡ lookup (is_at (place_cmp k)) links
    left-by links k other =
        lookup-remove_other (is_at (place_cmp k)) (is_at (place_cmp (parent, name)))
        (λ l p. subst (λ (x : Place). is_eq (place_cmp k x) ≡ false) (same-place (parent, name) l p) other) links

    -- what is told of a link at that place
    told-there : (link : Link) → link.0 ≡ (parent, name) → child_of fs link.0.0 link.0.1 ≡ Some link.1 → (node : Node)
        → node_of fs link.1 ≡ Some node
        → link_at fs parent name parent ≡ Some (record { directory = link.0.0; node = node; acl = acl_of fs link.1 })
    told-there link same e node h =
        let child : child_of fs parent name ≡ Some link.1 = ap (λ (k : Place). child_of fs k.0 k.1) (sym same) ∙ e in
        ap (link_to_some fs parent) child ∙ linked-to fs parent link.1 node h
        ∙ ap (λ (k : Place). Some (record { directory = k.0; node = node; acl = acl_of fs link.1 })) (sym same)

    gone-by : (links : LinkChanges)
        → ((link : Link) → Has link fs.links → link.0 ≡ (parent, name) → child_of fs link.0.0 link.0.1 ≡ Some link.1
        → IsAccounted fs links (without_link fs parent name) link)
        → IsLinkChange fs links (without_link fs parent name)
    gone-by links there =
        let after : FileSystem = without_link fs parent name in
        record {
          rules = t;
          went = went-by links after
              (λ link h e.
              elim (is_eq (place_cmp link.0 (parent, name))) as
              (λ b. is_eq (place_cmp link.0 (parent, name)) ≡ b → IsAccounted fs links after link) [
                | true ↦ λ p. there link h (same-place link.0 (parent, name) p) e
                | false ↦ λ p. inl (kept after link (left-by fs.links link.0 p ∙ e))
              ] refl);
          came = old links after fewer fewer-within;
          nodes = λ q a b h g. (
            same-node a b (sym h ∙ node-left _ (named_by fs parent name) q b g),
            acl-left _ (named_by fs parent name) q b g,
          );
          users = refl;
        }

    unlinked : IsLinkChange fs (record no_links { removed = link_at fs parent name parent }) (without_link fs parent name)
    unlinked =
        let links : LinkChanges = record no_links { removed = link_at fs parent name parent } in
        gone-by links
        (λ link h same e.
        inr (inl (if-some (λ n. Changes links (record { directory = link.0.0; node = n; acl = acl_of fs link.1 })) (node_of fs link.1)
        (λ n g. inr (inl (told-there link same e n g))))))

    emptied : is_file fs (named_by fs parent name) ≡ false → has_entries fs.links (named_by fs parent name) ≡ false
        → IsLinkChange fs no_links (without_link fs parent name)
    emptied file entries =
        gone-by no_links
        (λ link h same e.
        let child : named_by fs parent name ≡ link.1 = ap named (ap (λ (k : Place). child_of fs k.0 k.1) (sym same) ∙ e) in
        let directory : is_directory fs link.1 ≡ true =
        kind_directory (node_of fs link.1) (all_has (IsLink fs) link fs.links t.links h).child
        (subst (λ (n : ℕ). is_file fs n ≡ false) child file) in
        inr (inr (directory, subst (λ (n : ℕ). has_entries fs.links n ≡ false) child entries)))

  -- ---- a link that moves, maybe to the place of another one

  module _ (parent : ℕ) (name : List ℕ) (new_parent : ℕ) (new_name : List ℕ) (c : ℕ) (child : child_of fs parent name ≡ Some c) where
    abbrev changed : LinkChanges
    changed = record {
      made = link_at fs parent name new_parent;
      removed = link_at fs parent name parent;
      replaced = link_at fs new_parent new_name new_parent;
    }

    -- where `left` is the file system without what stood at the new place
    moved : (left : FileSystem) → left.users ≡ fs.users → ((link : Link) → Has link left.links → Has link fs.links)
        → ((k : Place) → is_eq (place_cmp k (new_parent, new_name)) ≡ false → child_of left k.0 k.1 ≡ child_of fs k.0 k.1)
        → ((q : ℕ) (b : Node) → node_of left q ≡ Some b → (node_of fs q ≡ Some b) × (acl_of fs q ≡ acl_of left q))
        → IsLinkChange fs changed (with_link_moved left parent name new_parent new_name c)
    moved left users within others nodes =
        let after : FileSystem = with_link_moved left parent name new_parent new_name c in
        let rest : List Link = remove_entry (is_at (place_cmp (parent, name))) left.links in
        let stays : (link : Link) → is_eq (place_cmp link.0 (new_parent, new_name)) ≡ false
        → is_eq (place_cmp link.0 (parent, name)) ≡ false
        → child_of fs link.0.0 link.0.1 ≡ Some link.1 → child_of after link.0.0 link.0.1 ≡ Some link.1 =
        λ link p q e.
        lookup-insert_entry place_total rest (new_parent, new_name) c link.0
        ∙ ap (λ (b : Bool). cond b (Some c) (lookup (is_at (place_cmp link.0)) rest)) p
        ∙ left-by parent name left.links link.0 q ∙ others link.0 p ∙ e in
        let new : IsAccounted after changed fs ((new_parent, new_name), c) =
        inr (inl (if-some (λ n. Changes changed (record { directory = new_parent; node = n; acl = acl_of left c })) (node_of left c)
        (λ n g.
        inl
        (ap (link_to_some fs new_parent) child ∙ linked-to fs new_parent c n (nodes c n g).0
        ∙ ap (λ (a : Option Acl). Some (record { directory = new_parent; node = n; acl = a })) (nodes c n g).1)))) in
        record {
          rules = t;
          went = went-by changed after
              (λ link h e.
              elim (is_eq (place_cmp link.0 (new_parent, new_name))) as
              (λ b. is_eq (place_cmp link.0 (new_parent, new_name)) ≡ b → IsAccounted fs changed after link) [
                | true ↦ λ p.
                    inr (inl (if-some (λ n. Changes changed (record { directory = link.0.0; node = n; acl = acl_of fs link.1 })) (node_of fs link.1)
                    (λ n g. inr (inr (told-there new_parent new_name link (same-place link.0 (new_parent, new_name) p) e n g)))))
                | false ↦ λ p.
                    elim (is_eq (place_cmp link.0 (parent, name))) as
                    (λ b. is_eq (place_cmp link.0 (parent, name)) ≡ b → IsAccounted fs changed after link) [
                      | true ↦ λ q.
                          inr (inl (if-some (λ n. Changes changed (record { directory = link.0.0; node = n; acl = acl_of fs link.1 })) (node_of fs link.1)
                          (λ n g. inr (inl (told-there parent name link (same-place link.0 (parent, name) q) e n g)))))
                      | false ↦ λ q. inl (kept after link (stays link p q e))
                    ] refl
              ] refl);
          came =
              All-insert_entry (IsAccounted after changed fs) place_cmp rest (new_parent, new_name) c
              (All-remove_entry (IsAccounted after changed fs) (is_at (place_cmp (parent, name))) left.links
              (old changed after left.links within))
              (λ q e. subst (λ (k : Place). IsAccounted after changed fs (k, c)) (place_exact (new_parent, new_name) q e) new) new;
          nodes = λ q a b h g. (same-node a b (sym h ∙ (nodes q b g).0), (nodes q b g).1);
          users = users;
        }

    renamed-link : (used : Bool) → IsLinkChange fs changed
        (with_link_moved (cond used (without_link fs new_parent new_name) fs) parent name new_parent new_name (named_by fs parent name))
    renamed-link used =
        let to = λ (b : Bool) (n : ℕ).
        with_link_moved (cond b (without_link fs new_parent new_name) fs) parent name new_parent new_name n in
        subst (λ (n : ℕ). IsLinkChange fs changed (to used n)) (sym (ap named child))
        (elim used as (λ b. IsLinkChange fs changed (to b c)) [
          | true ↦
              moved (without_link fs new_parent new_name) refl (fewer-within new_parent new_name)
              (λ k p. left-by new_parent new_name fs.links k p)
              (λ q b g. (
                node-left _ (named_by fs new_parent new_name) q b g,
                acl-left _ (named_by fs new_parent new_name) q b g,
              ))
          | false ↦ moved fs refl (λ link h. h) (λ k p. refl) (λ q b g. (g, refl))
        ])

-- ---- events that are accepted

module _ (fs : FileSystem) (t : IsTree fs) where
  -- nothing changed
  unchanged : (links : LinkChanges) → IsLinkChange fs links fs
  unchanged links = record {
    rules = t;
    went = old fs t links fs fs.links (λ link h. h);
    came = old fs t links fs fs.links (λ link h. h);
    nodes = λ q a b h g. (same-node a b (sym h ∙ g), refl);
    users = refl;
  }

  -- a number and a name that aren't in use
  unused : (ino parent : ℕ) (name : List ℕ) → (is_there fs ino || is_used fs parent name) ≡ false
      → (node_of fs ino ≡ None) × (child_of fs parent name ≡ None)
  unused ino parent name h =
      let both = or_parts (is_there fs ino) (is_used fs parent name) h in
      (absent (node_of fs ino) both.0, absent (child_of fs parent name) both.1)

  pub links-mkdir : (ino parent : ℕ) (name : List ℕ) (perm : Perm) → refusal_of fs (Mkdir ino parent name perm) ≡ None
      → IsLinkChange fs no_links (next fs (Mkdir ino parent name perm))
  links-mkdir ino parent name perm h =
      let a = none_applies (mkdir_rules fs ino parent name) h in
      let free = unused ino parent name a.1.1.1.0 in
      made-directory fs t ino parent name free.1 (record { kind = Directory; perm = perm }) free.0
      (place fs parent name a.0 a.1.0 a.1.1.0).directory refl

  pub links-create : (ino parent : ℕ) (name : List ℕ) (perm : Perm) → refusal_of fs (Create ino parent name perm) ≡ None
      → IsLinkChange fs (links_changed fs (Create ino parent name perm)) (next fs (Create ino parent name perm))
  links-create ino parent name perm h =
      let a = none_applies (create_rules fs ino parent name) h in
      let free = unused ino parent name a.1.1.1.0 in
      made-file fs t ino parent name free.1 (record { kind = File; perm = perm }) free.0

  pub links-link : (ino parent : ℕ) (name : List ℕ) → refusal_of fs (AddLink ino parent name) ≡ None
      → IsLinkChange fs (links_changed fs (AddLink ino parent name)) (next fs (AddLink ino parent name))
  links-link ino parent name h =
      let a = none_applies (link_rules fs ino parent name) h in
      linked fs t ino parent name (absent (child_of fs parent name) a.1.1.1.0)

  pub links-unlink : (parent : ℕ) (name : List ℕ)
      → IsLinkChange fs (links_changed fs (Unlink parent name)) (next fs (Unlink parent name))
  links-unlink parent name = unlinked fs t parent name

  pub links-rmdir : (parent : ℕ) (name : List ℕ) → refusal_of fs (Rmdir parent name) ≡ None
      → IsLinkChange fs no_links (next fs (Rmdir parent name))
  links-rmdir parent name h =
      let a = none_applies (rmdir_rules fs parent name) h in
      emptied fs t parent name a.1.1.1.1.0 a.1.1.1.1.1.0

  pub links-rename : (parent : ℕ) (name : List ℕ) (new_parent : ℕ) (new_name : List ℕ)
      → refusal_of fs (Rename parent name new_parent new_name) ≡ None
      → IsLinkChange fs (links_changed fs (Rename parent name new_parent new_name)) (next fs (Rename parent name new_parent new_name))
  links-rename parent name new_parent new_name h =
      let a = none_applies (rename_rules fs parent name new_parent new_name) h in
      let c = present (child_of fs parent name) (not_false (is_used fs parent name) a.1.1.1.0) in
      let links : LinkChanges = links_changed fs (Rename parent name new_parent new_name) in
      elim (is_same_node fs parent name new_parent new_name) as
      (λ b. IsLinkChange fs links
      (cond b fs
      (with_link_moved (cond (is_used fs new_parent new_name) (without_link fs new_parent new_name) fs) parent name new_parent new_name
      (named_by fs parent name)))) [
        | true ↦ unchanged links
        | false ↦ renamed-link fs t parent name new_parent new_name c.0 c.1 (is_used fs new_parent new_name)
      ]
