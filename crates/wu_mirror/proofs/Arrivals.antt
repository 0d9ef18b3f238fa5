-- Names that come, one after the other.
use Rattle.std.proofs.Common.{◌≡◌, ◌≢◌, ℕ, ◌<◌, ◌^◌, List, [], ◌∷◌, ◌++◌, refl, ap, sym, ◌∙◌, subst, Bool, true, false, cond, ⊎_elim}
use Rattle.std.specs.Prelude.{◌⊎◌, ◌||◌, ◌==◌, Option, None, Some, is_some, decimal}
use Rattle.std.specs.Ordering.{is_eq, nat_cmp}
use Rattle.std.specs.Cmp.{nat_cmp_total}
use Rattle.std.specs.List.{AllByRecursion}
use Rattle.std.specs.Map.{lookup, remove_entry}
use Rattle.std.specs.BTreeMap.{is_at}
use Rattle.std.proofs.lemmas.Bool.{or_parts}
use borrow.Author.Tests.{eqb-true, eqb-false}
use Rattle.wu_access.specs.declared.acls.Acl.{Acl}
use Rattle.wu_access.specs.declared.Perm.{Perm}
use Rattle.wu_access.specs.Access.{IsDecidedByCases}
use Rattle.wu_tree.specs.declared.events.Event.{Event}
use Rattle.wu_tree.specs.declared.events.Event.TheVariants.{User, Mkdir, Create, Text, Link, Unlink, Rmdir, Rename, Chmod, Chown}
use Rattle.wu_tree.specs.declared.events.Event.TheVariants.{Acl as SetAcl}
use Rattle.wu_tree.specs.declared.events.Kind.{Kind}
use Rattle.wu_tree.specs.declared.events.Kind.TheVariants.{Directory, File}
use Rattle.wu_tree.specs.declared.events.Node.{Node}
use Rattle.wu_tree.specs.FileSystems.{FileSystem, place_cmp, acl_of, node_of, child_of, is_there, is_used}
use Rattle.wu_tree.specs.FileSystems.{Link as TreeLink}
use Rattle.wu_tree.specs.Rules.{IsTree}
use Rattle.wu_tree.specs.Steps.{IsEvent, create_rules, mkdir_rules, next, refusal_of, rename_rules, renamed, with_link, with_link_moved, with_node}
use Rattle.wu_tree.proofs.EventRules.{none_applies, not_false, present}
use Rattle.wu_tree.proofs.ParentPaths.{other_number}
use Rattle.wu_tree.proofs.Renames.{renamed_free}
use Rattle.wu_base.proofs.MapEntries.{lookup-insert_entry, number_itself}
use Rattle.wu_base.proofs.Members.{Has, all_has}
use Rattle.wu_mirror.specs.declared.batches.Batch.{Batch}
use Rattle.wu_mirror.specs.declared.batches.Change.{Change}
use Rattle.wu_mirror.specs.declared.batches.Fate.{Fate}
use Rattle.wu_mirror.specs.declared.batches.Fate.TheVariants.{Made}
use Rattle.wu_mirror.specs.declared.batches.Place.{Place}
use Rattle.wu_mirror.specs.Searches.{GrantsNoMore}
use Rattle.wu_mirror.specs.Plans.{brought_back, directory_made, file_made}
use Rattle.wu_mirror.specs.Plans.{first_perm, linked}
use Rattle.wu_mirror.specs.Moments.{AtEach, FindsNoMore, FindsNoNewText, HasFate, IsMade, IsName, IsTrueOf, LeadsTo}
use Rattle.wu_mirror.specs.Moments.{node_with}
use Rattle.wu_mirror.proofs.RightsLess.{moded, nothing_grants}
use Rattle.wu_mirror.proofs.Lookups.{by_test, listed_there, put_in, put_itself, put_keeps, still_in, taken_out, same_some}
use Rattle.wu_mirror.proofs.Parts.{tree_kept}
use Rattle.wu_mirror.proofs.Taking.{one_change, shut, truth}
use Rattle.wu_mirror.proofs.Removing.{stays_put}
use Rattle.wu_mirror.proofs.Coming.{Coming, ReadyBy, coming_shows, untold}

module _ (law : IsDecidedByCases) (batch : Batch) (before after : FileSystem) (l : LeadsTo batch before after) (uid : ℕ) (u : uid ≢ 0)
    (End : FileSystem → Type 0) where
  abbrev Sees : FileSystem → Type 0
  Sees fs = FindsNoMore uid fs after × FindsNoNewText batch.changes uid fs

  abbrev Come : FileSystem → Type 0
  Come m = Coming law batch before after l uid u End m

  abbrev closed : Change → Bool
  closed c = shut law batch before after l uid u End c

  true_of : (c : Change) → Has c batch.changes → IsTrueOf before after c
  true_of c h = truth law batch before after l uid u End c h

  pub is_name : (c : Change) (h : Has c batch.changes) (place : Place) → Has place c.coming → IsName after c.ino place
  is_name c h place p = all_has (IsName after c.ino) place c.coming (true_of c h).coming p

  -- what has that place has one value
  one_value : (m : FileSystem) → Come m → (c : Change) → Has c batch.changes → (place : Place) → Has place c.coming → (d : ℕ) (n : List ℕ) (x : ℕ)
      → d ≢ 2 → child_of m d n ≡ Some x → d ≡ place.parent → n ≡ place.name → x ≡ c.ino
  one_value m coming c h place p d n x a f e w =
      let there : child_of after place.parent place.name ≡ Some x = subst (λ (k : ℕ). child_of after k place.name ≡ Some x) e
      (subst (λ (k : List ℕ). child_of after d k ≡ Some x) w (coming.part.names d n x a f)) in
      same_some x c.ino (sym there ∙ (is_name c h place p).1)

  -- names outside the closed directory stay
  abbrev pub Grows : FileSystem → FileSystem → Type 0
  Grows m to = (d : ℕ) (n : List ℕ) (x : ℕ) → d ≢ 2 → child_of m d n ≡ Some x → child_of to d n ≡ Some x

  -- the place has a name
  abbrev pub Used : FileSystem → Place → Type 0
  Used m place = is_used m place.parent place.name ≡ true

  record Arrived (m to : FileSystem) (place : Place) : Type 0 where
    pub coming : Come to
    pub grows : Grows m to
    pub used : Used to place

  -- links that come leave nodes as they are
  linked_more : (m to : FileSystem) → Come m → IsTree to → to.nodes ≡ m.nodes → to.acls ≡ m.acls → to.users ≡ m.users
      → ((d : ℕ) (n : List ℕ) (x : ℕ) → d ≢ 2 → child_of to d n ≡ Some x → child_of after d n ≡ Some x)
      → ((k x : ℕ) → k < 2 ^ 32 → child_of to 2 (decimal k) ≡ Some x → x ≡ k)
      → Grows m to
      → Come to
  linked_more m to c tree nodes acls users names aside grows =
      let node_at : (q : ℕ) → node_of to q ≡ node_of m q = (λ (q : ℕ). ap (λ (ns : List (ℕ × Node)). lookup (is_at (nat_cmp q)) ns) nodes) in
      let list_at : (q : ℕ) → acl_of to q ≡ acl_of m q = (λ (q : ℕ). ap (λ (acls : List (ℕ × Acl)). lookup (is_at (nat_cmp q)) acls) acls) in
      record {
        tree = tree;
        part = record {
          names = names;
          nodes = λ q node other h g.
              subst (λ (a : Option Acl). (node.kind ≡ other.kind) × GrantsNoMore node.perm a other.perm (acl_of after q)) (sym (list_at q))
              (c.part.nodes q node other (sym (node_at q) ∙ h) g);
        };
        users = users ∙ c.users;
        stays = λ d n x a f g. grows d n x a (c.stays d n x a f g);
        rest = λ q node n h. let r = c.rest q node n (sym (node_at q) ∙ h) in (r.0, list_at q ∙ r.1);
        aside = aside;
        ready = λ d h node g. subst (λ (a : Option Acl). ReadyBy law batch before after l uid u End d.fate d.kind d.ino (closed d) node a) (sym (list_at d.ino))
            (c.ready d h node (sym (node_at d.ino) ∙ g));
      }

  link_comes : (m : FileSystem) (c : Change) → Has c batch.changes → (place : Place) → Has place c.coming → Come m → IsEvent (linked c.ino place)
      → refusal_of m (linked c.ino place) ≡ None
      → Arrived m (next m (linked c.ino place)) place
  link_comes m c h place p coming v ok =
      let is = is_name c h place p in
      let grows : Grows m (with_link m c.ino place.parent place.name) = (λ (d : ℕ) (n : List ℕ) (x : ℕ) (a : d ≢ 2) (f : child_of m d n ≡ Some x).
      put_keeps m.links place.parent place.name c.ino d n x (one_value m coming c h place p d n x a f) f) in
      let more : Come (with_link m c.ino place.parent place.name) =
      linked_more m (with_link m c.ino place.parent place.name) coming (tree_kept m coming.tree (linked c.ino place) v ok) refl refl refl
      (λ d n x apart g. ⊎_elim
      (λ e. subst (λ (k : ℕ). child_of after k n ≡ Some x) (sym e.0)
      (subst (λ (k : List ℕ). child_of after place.parent k ≡ Some x) (sym e.1) (is.1 ∙ ap Some (sym e.2))))
      (λ q. coming.part.names d n x apart q)
      (put_in m.links place.parent place.name c.ino d n x g))
      (λ k x small g. ⊎_elim (λ e. absurd (is.0 (sym e.0))) (λ q. coming.aside k x small q)
      (put_in m.links place.parent place.name c.ino 2 (decimal k) x g))
      grows in
      record { coming = more; grows = grows; used = ap is_some (put_itself m.links place.parent place.name c.ino) }

  brought : (m : FileSystem) (c : Change) → Has c batch.changes → (place : Place) → Has place c.coming → Come m
      → IsEvent (brought_back c.ino place)
      → refusal_of m (brought_back c.ino place) ≡ None
      → Arrived m (next m (brought_back c.ino place)) place
  brought m c h place p coming v ok =
      let is = is_name c h place p in
      let small : c.ino < 2 ^ 32 = (true_of c h).number in
      let a = none_applies (rename_rules m 2 (decimal c.ino) place.parent place.name) ok in
      let f = present (child_of m 2 (decimal c.ino)) (not_false (is_used m 2 (decimal c.ino)) a.1.1.1.0) in
      let found : child_of m 2 (decimal c.ino) ≡ Some c.ino = f.1 ∙ ap Some (coming.aside c.ino f.0 small f.1) in
      let tree : IsTree (renamed m 2 (decimal c.ino) place.parent place.name) = tree_kept m coming.tree (brought_back c.ino place) v ok in
      elim (child_of m place.parent place.name) as
      (λ o. child_of m place.parent place.name ≡ o → Arrived m (renamed m 2 (decimal c.ino) place.parent place.name) place) [
        | None ↦ λ free.
            let to : FileSystem = with_link_moved m 2 (decimal c.ino) place.parent place.name c.ino in
            let same : to ≡ renamed m 2 (decimal c.ino) place.parent place.name =
            renamed_free m 2 (decimal c.ino) place.parent place.name c.ino found free in
            let left : List TreeLink = remove_entry (is_at (place_cmp (2, decimal c.ino))) m.links in
            let grows : Grows m to = (λ (d : ℕ) (n : List ℕ) (x : ℕ) (a : d ≢ 2) (f : child_of m d n ≡ Some x).
            put_keeps left place.parent place.name c.ino d n x (one_value m coming c h place p d n x a f)
            (still_in m.links 2 (decimal c.ino) coming.tree.links_ascend d n x (λ e w. a e) f)) in
            let more : Come to =
            linked_more m to coming (subst IsTree (sym same) tree) refl refl refl
            (λ d n x apart g. ⊎_elim
            (λ e. subst (λ (k : ℕ). child_of after k n ≡ Some x) (sym e.0)
            (subst (λ (k : List ℕ). child_of after place.parent k ≡ Some x) (sym e.1) (is.1 ∙ ap Some (sym e.2))))
            (λ q. coming.part.names d n x apart (taken_out m.links 2 (decimal c.ino) coming.tree.links_ascend d n x q))
            (put_in left place.parent place.name c.ino d n x g))
            (λ k x low g. ⊎_elim (λ e. absurd (is.0 (sym e.0)))
            (λ q. coming.aside k x low (taken_out m.links 2 (decimal c.ino) coming.tree.links_ascend 2 (decimal k) x q))
            (put_in left place.parent place.name c.ino 2 (decimal k) x g))
            grows in
            subst (λ (fs : FileSystem). Arrived m fs place) same
            (record { coming = more; grows = grows; used = ap is_some (put_itself left place.parent place.name c.ino) })
        | Some x ↦ λ there.
            let e : x ≡ c.ino = same_some x c.ino (sym (coming.part.names place.parent place.name x is.0 there) ∙ is.1) in
            let same : renamed m 2 (decimal c.ino) place.parent place.name ≡ m =
            stays_put m 2 (decimal c.ino) place.parent place.name c.ino found (there ∙ ap Some e) in
            subst (λ (fs : FileSystem). Arrived m fs place) (sym same)
            (record { coming = coming; grows = λ d n x a f. f; used = ap is_some there })
      ] refl

  -- ---- nodes that are made
  first_below : (shut : Bool) (perm : Perm) (list : Option Acl) → GrantsNoMore (first_perm shut perm list) None perm list
  first_below shut perm list =
      by_test (shut || is_some list) (λ b. GrantsNoMore (moded perm (cond b 0 perm.mode)) None perm list)
      (λ e. nothing_grants perm None perm list)
      (λ e. subst (λ (a : Option Acl). GrantsNoMore perm None perm a) (sym (none_listed list (or_parts shut (is_some list) e).1))
      (λ user want v allowed. allowed))
    where
      none_listed : (list : Option Acl) → is_some list ≡ false → list ≡ None
      none_listed None e = refl
      none_listed (Some acl) e = absurd cc

  made_comes : (m : FileSystem) (c : Change) → Has c batch.changes → (place : Place) → Has place c.coming → (perm : Perm) (list : Option Acl)
      → c.fate ≡ Made perm list → is_there m c.ino ≡ false
      → Come m
      → IsTree (with_node m c.ino place.parent place.name (node_with c.kind (first_perm (closed c) perm list)))
      → Arrived m (with_node m c.ino place.parent place.name (node_with c.kind (first_perm (closed c) perm list))) place
  made_comes m c h place p perm list e new coming tree =
      let is = is_name c h place p in
      let node : Node = node_with c.kind (first_perm (closed c) perm list) in
      let to : FileSystem = with_node m c.ino place.parent place.name node in
      let made : IsMade perm list c.kind c.ino before after = subst (λ (f : Fate). HasFate f c.kind c.ino before after) e (true_of c h).fate in
      let none : acl_of m c.ino ≡ None = listed_there m coming.tree c.ino new in
      let at : (q : ℕ) → node_of to q ≡ cond (is_eq (nat_cmp q c.ino)) (Some node) (node_of m q) = (λ (q : ℕ).
      lookup-insert_entry nat_cmp_total m.nodes c.ino node q) in
      let itself : node_of to c.ino ≡ Some node = at c.ino ∙ ap (λ b. cond b (Some node) (node_of m c.ino)) (number_itself c.ino) in
      let else_at : (q : ℕ) → q ≢ c.ino → node_of to q ≡ node_of m q = (λ (q : ℕ) (n : q ≢ c.ino).
      at q ∙ ap (λ b. cond b (Some node) (node_of m q)) (other_number q c.ino n)) in
      let grows : Grows m to = (λ (d : ℕ) (n : List ℕ) (x : ℕ) (a : d ≢ 2) (f : child_of m d n ≡ Some x).
      put_keeps m.links place.parent place.name c.ino d n x (one_value m coming c h place p d n x a f) f) in
      let more : Come to = record {
        tree = tree;
        part = record {
          names = λ d n x apart g. ⊎_elim
              (λ i. subst (λ (k : ℕ). child_of after k n ≡ Some x) (sym i.0)
              (subst (λ (k : List ℕ). child_of after place.parent k ≡ Some x) (sym i.1) (is.1 ∙ ap Some (sym i.2))))
              (λ q. coming.part.names d n x apart q)
              (put_in m.links place.parent place.name c.ino d n x g);
          nodes = λ q one other i g.
              elim (q == c.ino) as
              (λ b. (q == c.ino) ≡ b → (one.kind ≡ other.kind) × GrantsNoMore one.perm (acl_of m q) other.perm (acl_of after q)) [
                | true ↦ λ y.
                    let s : q ≡ c.ino = eqb-true q c.ino y in
                    let is_one : node ≡ one = same_some node one (sym itself ∙ ap (node_of to) (sym s) ∙ i) in
                    let is_other : node_with c.kind perm ≡ other = same_some (node_with c.kind perm) other
                    (sym made.becomes ∙ ap (node_of after) (sym s) ∙ g) in
                    subst (λ (n : Node). (n.kind ≡ other.kind) × GrantsNoMore n.perm (acl_of m q) other.perm (acl_of after q)) is_one
                    (subst (λ (n : Node). (c.kind ≡ n.kind) × GrantsNoMore (first_perm (closed c) perm list) (acl_of m q) n.perm (acl_of after q))
                    is_other
                    (subst
                    (λ (a : Option Acl). (c.kind ≡ c.kind) × GrantsNoMore (first_perm (closed c) perm list) a perm (acl_of after q))
                    (sym none ∙ ap (acl_of m) (sym s))
                    (subst (λ (a : Option Acl). (c.kind ≡ c.kind) × GrantsNoMore (first_perm (closed c) perm list) None perm a)
                    (sym made.list ∙ ap (acl_of after) (sym s)) (refl, first_below (closed c) perm list))))
                | false ↦ λ y. coming.part.nodes q one other (sym (else_at q (eqb-false q c.ino y)) ∙ i) g
              ] refl;
        };
        users = coming.users;
        stays = λ d n x a f g. grows d n x a (coming.stays d n x a f g);
        rest = λ q one n i.
            elim (q == c.ino) as (λ b. (q == c.ino) ≡ b → (node_of before q ≡ Some one) × (acl_of m q ≡ acl_of before q)) [
              | true ↦ λ y. absurd (untold law batch before after l uid u End q n c h (sym (eqb-true q c.ino y)))
              | false ↦ λ y. coming.rest q one n (sym (else_at q (eqb-false q c.ino y)) ∙ i)
            ] refl;
        aside = λ k x small g. ⊎_elim (λ i. absurd (is.0 (sym i.0))) (λ q. coming.aside k x small q)
            (put_in m.links place.parent place.name c.ino 2 (decimal k) x g);
        ready = λ d g one i.
            elim (d.ino == c.ino) as (λ b. (d.ino == c.ino) ≡ b → ReadyBy law batch before after l uid u End d.fate d.kind d.ino (closed d) one (acl_of m d.ino)) [
              | true ↦ λ y.
                  let s : d.ino ≡ c.ino = eqb-true d.ino c.ino y in
                  let is_one : one ≡ node = same_some one node (sym i ∙ ap (node_of to) s ∙ itself) in
                  subst (λ (x : Change). ReadyBy law batch before after l uid u End x.fate x.kind x.ino (closed x) one (acl_of m x.ino))
                  (one_change law batch before after l uid u End c d h g (sym s))
                  (subst (λ (f : Fate). ReadyBy law batch before after l uid u End f c.kind c.ino (closed c) one (acl_of m c.ino)) (sym e) (is_one, none))
              | false ↦ λ y. coming.ready d g one (sym (else_at d.ino (eqb-false d.ino c.ino y)) ∙ i)
            ] refl;
      } in
      record { coming = more; grows = grows; used = ap is_some (put_itself m.links place.parent place.name c.ino) }

  -- an event by which a name comes
  abbrev pub IsIn : Event → Type 0
  IsIn event = (c : Change) × (place : Place) × Has c batch.changes × Has place c.coming
      × ((event ≡ linked c.ino place) ⊎ ((event ≡ brought_back c.ino place)
      ⊎ ((perm : Perm) × (list : Option Acl) × (c.fate ≡ Made perm list)
      × (((c.kind ≡ Directory) × (event ≡ directory_made c.ino (first_perm (closed c) perm list) place))
      ⊎ ((c.kind ≡ File) × (event ≡ file_made c.ino (first_perm (closed c) perm list) place))))))

  -- the place to which a name comes has one
  abbrev pub Filled : FileSystem → Event → Type 0
  Filled m (User uid groups) = Unit {0}
  Filled m (Mkdir ino parent name perm) = is_used m parent name ≡ true
  Filled m (Create ino parent name perm) = is_used m parent name ≡ true
  Filled m (Text ino) = Unit {0}
  Filled m (Link ino parent name) = is_used m parent name ≡ true
  Filled m (Unlink parent name) = Unit {0}
  Filled m (Rmdir parent name) = Unit {0}
  Filled m (Rename parent name new_parent new_name) = is_used m new_parent new_name ≡ true
  Filled m (Chmod ino mode) = Unit {0}
  Filled m (Chown ino owner group) = Unit {0}
  Filled m (SetAcl ino acl mask) = Unit {0}

  record Arrives (m to : FileSystem) (event : Event) : Type 0 where
    pub coming : Come to
    pub grows : Grows m to
    pub filled : Filled to event

  linked_arrives : (m to : FileSystem) (ino : ℕ) (place : Place) → Arrived m to place → Arrives m to (linked ino place)
  linked_arrives m to ino place a = record { coming = a.coming; grows = a.grows; filled = a.used }

  brought_arrives : (m to : FileSystem) (ino : ℕ) (place : Place) → Arrived m to place → Arrives m to (brought_back ino place)
  brought_arrives m to ino place a = record { coming = a.coming; grows = a.grows; filled = a.used }

  directory_arrives : (m to : FileSystem) (ino : ℕ) (perm : Perm) (place : Place) → Arrived m to place → Arrives m to (directory_made ino perm place)
  directory_arrives m to ino perm place a = record { coming = a.coming; grows = a.grows; filled = a.used }

  file_arrives : (m to : FileSystem) (ino : ℕ) (perm : Perm) (place : Place) → Arrived m to place → Arrives m to (file_made ino perm place)
  file_arrives m to ino perm place a = record { coming = a.coming; grows = a.grows; filled = a.used }

  in_one : (m : FileSystem) (event : Event) → IsIn event → Come m → IsEvent event → refusal_of m event ≡ None → Arrives m (next m event) event
  in_one m event o coming v ok =
      let c = o.0 in
      let place = o.1 in
      let h = o.2 in
      let p = o.3 in
      ⊎_elim
      (λ e. subst (λ (x : Event). IsEvent x → refusal_of m x ≡ None → Arrives m (next m x) x) (sym e)
      (λ w good. linked_arrives m (next m (linked c.ino place)) c.ino place (link_comes m c h place p coming w good)) v ok)
      (λ r. ⊎_elim
      (λ e. subst (λ (x : Event). IsEvent x → refusal_of m x ≡ None → Arrives m (next m x) x) (sym e)
      (λ w good. brought_arrives m (next m (brought_back c.ino place)) c.ino place (brought m c h place p coming w good)) v ok)
      (λ made.
      let perm = made.0 in
      let list = made.1 in
      let first : Perm = first_perm (closed c) perm list in
      ⊎_elim
      (λ d. subst (λ (x : Event). IsEvent x → refusal_of m x ≡ None → Arrives m (next m x) x) (sym d.1)
      (λ w good.
      let a = (none_applies (mkdir_rules m c.ino place.parent place.name) good).1.1.1 in
      directory_arrives m (next m (directory_made c.ino first place)) c.ino first place
      (subst (λ (k : Kind). Arrived m (with_node m c.ino place.parent place.name (node_with k first)) place) d.0
      (made_comes m c h place p perm list made.2 (or_parts (is_there m c.ino) (is_used m place.parent place.name) a.0).0 coming
      (subst (λ (k : Kind). IsTree (with_node m c.ino place.parent place.name (node_with k first))) (sym d.0)
      (tree_kept m coming.tree (directory_made c.ino first place) w good))))) v ok)
      (λ d. subst (λ (x : Event). IsEvent x → refusal_of m x ≡ None → Arrives m (next m x) x) (sym d.1)
      (λ w good.
      let a = (none_applies (create_rules m c.ino place.parent place.name) good).1.1.1 in
      file_arrives m (next m (file_made c.ino first place)) c.ino first place
      (subst (λ (k : Kind). Arrived m (with_node m c.ino place.parent place.name (node_with k first)) place) d.0
      (made_comes m c h place p perm list made.2 (or_parts (is_there m c.ino) (is_used m place.parent place.name) a.0).0 coming
      (subst (λ (k : Kind). IsTree (with_node m c.ino place.parent place.name (node_with k first))) (sym d.0)
      (tree_kept m coming.tree (file_made c.ino first place) w good))))) v ok)
      made.3)
      r)
      o.4

  -- a place that has a name keeps one
  used_still : (m to : FileSystem) → Grows m to → (place : Place) → place.parent ≢ 2 → Used m place → Used to place
  used_still m to g place apart h =
      let f = present (child_of m place.parent place.name) h in
      ap is_some (g place.parent place.name f.0 apart f.1)

  still_filled : (event : Event) → IsIn event → (m to : FileSystem) → Grows m to → Filled m event → Filled to event
  still_filled event o m to g h =
      let c = o.0 in
      let place = o.1 in
      let apart = (is_name c o.2 place o.3).0 in
      ⊎_elim
      (λ e. subst (λ (x : Event). Filled m x → Filled to x) (sym e) (λ i. used_still m to g place apart i) h)
      (λ r. ⊎_elim
      (λ e. subst (λ (x : Event). Filled m x → Filled to x) (sym e) (λ i. used_still m to g place apart i) h)
      (λ made. ⊎_elim
      (λ d. subst (λ (x : Event). Filled m x → Filled to x) (sym d.1) (λ i. used_still m to g place apart i) h)
      (λ d. subst (λ (x : Event). Filled m x → Filled to x) (sym d.1) (λ i. used_still m to g place apart i) h)
      made.3)
      r)
      o.4

  pub in_all : (events : List Event) → AllByRecursion IsIn events → (m : FileSystem) (rest : List Event) → Come m
      → ((to : FileSystem) → Come to → Grows m to → AllByRecursion (Filled to) events → AtEach Sees End to rest)
      → AtEach Sees End m (events ++ rest)
  in_all [] a m rest coming k = k m coming (λ d n x apart f. f) tt
  in_all (event ∷ events) a m rest coming k = (
    coming_shows law batch before after l uid u End m coming,
    λ v ok.
        let one = in_one m event a.0 coming v ok in
        in_all events a.1 (next m event) rest one.coming
        (λ to last grows filled. k to last (λ d n x apart f. grows d n x apart (one.grows d n x apart f))
        (still_filled event a.0 (next m event) to grows one.filled, filled)),
  )
