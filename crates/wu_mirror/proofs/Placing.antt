-- The names that come, one after the other: each event is accepted.
use Rattle.std.proofs.Common.{◌≡◌, ◌≢◌, ℕ, ◌+◌, ◌-◌, ◌<◌, ◌≤◌, ◌^◌, List, [], ◌∷◌, ◌++◌, refl, ap, sym, ◌∙◌, subst, Bool, true, false, cond, arith}
use Rattle.std.proofs.Common.{inl, inr, ⊎_elim}
use Rattle.std.specs.Prelude.{◌⊎◌, ◌==◌, ◌||◌, Option, None, Some, is_some, decimal, map}
use Rattle.std.specs.Ordering.{is_eq, nat_cmp}
use Rattle.std.specs.Cmp.{nat_cmp_total}
use Rattle.std.specs.Map.{remove_entry}
use Rattle.std.specs.BTreeMap.{is_at}
use Rattle.std.proofs.lemmas.Bool.{eq-eqb, eqb-true, eqb-false}
use Rattle.wu_access.specs.declared.acls.Acl.{Acl}
use Rattle.wu_access.specs.declared.Perm.{Perm}
use Rattle.wu_tree.specs.declared.events.Event.{Event}
use Rattle.wu_tree.specs.declared.events.Kind.TheVariants.{Directory, File}
use Rattle.wu_tree.specs.declared.events.Node.{Node}
use Rattle.wu_tree.specs.FileSystems.{FileSystem, Link, child_of, depth, is_directory, is_directory_node, is_file, is_file_node, is_kind_file, is_name, is_there}
use Rattle.wu_tree.specs.FileSystems.{is_within, node_of, place_cmp}
use Rattle.wu_tree.specs.Rules.{IsNumbered, IsTree}
use Rattle.wu_tree.specs.Steps.{IsEvent, is_too_deep, next, refusal_of, renamed, with_link, with_link_moved, with_node}
use Rattle.wu_tree.specs.Paths.{reaches}
use Rattle.wu_tree.proofs.ParentPaths.{other_number, same_number}
use Rattle.wu_tree.proofs.PathsDown.{deep_by_levels}
use Rattle.wu_tree.proofs.Renames.{renamed_free}
use Rattle.wu_base.proofs.MapEntries.{All-found, lookup-insert_entry, number_itself}
use Rattle.wu_base.proofs.Members.{Has, all_has}
use Rattle.wu_mirror.specs.declared.batches.Batch.{Batch}
use Rattle.wu_mirror.specs.declared.batches.Change.{Change}
use Rattle.wu_mirror.specs.declared.batches.Fate.{Fate}
use Rattle.wu_mirror.specs.declared.batches.Fate.TheVariants.{Made}
use Rattle.wu_mirror.specs.declared.batches.Place.{Place}
use Rattle.wu_mirror.specs.Acceptance.{AreAcceptedTo, HasRoom}
use Rattle.wu_mirror.specs.Misfits.{Fits}
use Rattle.wu_mirror.specs.Moments.{HasFate, IsMade, IsName, IsTrueOf, LeadsTo, node_with}
use Rattle.wu_mirror.specs.Plans.{first_perm}
use Rattle.wu_mirror.proofs.Clearing.{directory_by, kind_by, not_so}
use Rattle.wu_mirror.proofs.Depths.{bounded, deeper, facts, near, not_within, reaches_there}
use Rattle.wu_mirror.proofs.EventsAccepted.{create_taken, link_taken, mkdir_taken, rename_taken}
use Rattle.wu_mirror.proofs.Gone.{never, none_if}
use Rattle.wu_mirror.proofs.InItems.{IsIn, IsNew, PairIn, brought_new, kind_after, linked_new, shut}
use Rattle.wu_mirror.proofs.Lookups.{put_in, put_keeps, same_some, still_in, taken_itself, taken_out}
use Rattle.wu_mirror.proofs.OutItems.{IsOrdered}
use Rattle.wu_mirror.proofs.Pairs.{Pairwise}
use Rattle.wu_mirror.proofs.Parts.{node_there, tree_kept}
use Rattle.wu_mirror.proofs.ViewGrowth.{directory_there}
use Rattle.wu_mirror.proofs.Removing.{decimals_apart}
use Rattle.wu_mirror.proofs.Ways.{Item, Way, event_by, event_of, Linked, Brought, NewDirectory, NewFile}

-- ---- numbers and modes
pub numbered_at : (fs : FileSystem) → IsTree fs → (q : ℕ) (node : Node) → node_of fs q ≡ Some node → (1 ≤ q) × (node.perm.mode ≤ 0xFFF)
numbered_at fs t q node h =
    let f = All-found IsNumbered (is_at (nat_cmp q)) fs.nodes node t.numbered h in
    subst (λ (k : ℕ). (1 ≤ k) × (node.perm.mode ≤ 0xFFF)) (sym (same_number q f.0 f.1)) f.2

pub low_first : (shut : Bool) (perm : Perm) (list : Option Acl) → perm.mode ≤ 0xFFF → (first_perm shut perm list).mode ≤ 0xFFF
low_first shut perm list l = by (shut || is_some list)
  where
    by : (b : Bool) → cond b 0 perm.mode ≤ 0xFFF
    by true = omega arith
    by false = l

module _ (batch : Batch) (before after : FileSystem) (l : LeadsTo batch before after) (o : IsOrdered batch) (f : Fits batch)
    (r : HasRoom batch before after) where
  true_of : (c : Change) → Has c batch.changes → IsTrueOf before after c
  true_of c h = all_has (IsTrueOf before after) c batch.changes l.changes h

  comes : (c : Change) → Has c batch.changes → (place : Place) → Has place c.coming → IsName after c.ino place
  comes c h place p = all_has (IsName after c.ino) place c.coming (true_of c h).coming p

  abbrev In : Item → Type 0
  In i = IsIn batch before after l o f i

  -- what holds while these are still to come
  pub record Placing (left : List Item) (m : FileSystem) : Type 0 where
    pub tree : IsTree m
    pub names : (d : ℕ) (n : List ℕ) (x : ℕ) → d ≢ 2 → child_of m d n ≡ Some x → child_of after d n ≡ Some x
    pub home : child_of m 1 r.home.0 ≡ Some 2
    pub kinds : (q : ℕ) (node other : Node) → node_of m q ≡ Some node → node_of after q ≡ Some other → node.kind ≡ other.kind
    pub there : (q : ℕ) → is_there after q ≡ true → (is_there m q ≡ true) ⊎ ((i : Item) × Has i left × IsNew i.way × (i.change.ino ≡ q))
    pub new : (i : Item) → Has i left → IsNew i.way → is_there m i.change.ino ≡ false
    pub free : (i : Item) → Has i left → child_of m i.place.parent i.place.name ≡ None
    pub aside : (i : Item) → Has i left → i.way ≡ Brought → child_of m 2 (decimal i.change.ino) ≡ Some i.change.ino
    -- nothing else is in the closed directory
    pub inside : (n : List ℕ) (x : ℕ) → child_of m 2 n ≡ Some x → (i : Item) × Has i left × (i.way ≡ Brought) × (n ≡ decimal i.change.ino)

  -- ---- what one event does
  record Placed (m to : FileSystem) (i : Item) : Type 0 where
    pub names : (d : ℕ) (n : List ℕ) (x : ℕ) → d ≢ 2 → child_of to d n ≡ Some x
        → ((d ≡ i.place.parent) × (n ≡ i.place.name) × (x ≡ i.change.ino)) ⊎ (child_of m d n ≡ Some x)
    pub keeps : (d : ℕ) (n : List ℕ) (x : ℕ) → d ≢ 2 → child_of m d n ≡ Some x → child_of to d n ≡ Some x
    pub nodes : (q : ℕ) (node : Node) → node_of to q ≡ Some node → (node_of m q ≡ Some node) ⊎ ((q ≡ i.change.ino) × (node.kind ≡ i.change.kind))
    pub there : (q : ℕ) → is_there m q ≡ true → is_there to q ≡ true
    pub itself : IsNew i.way → is_there to i.change.ino ≡ true
    pub absent : (q : ℕ) → (IsNew i.way → q ≢ i.change.ino) → is_there m q ≡ false → is_there to q ≡ false
    pub closed : (k : ℕ) → k < 2 ^ 32 → (i.way ≡ Brought → k ≢ i.change.ino) → child_of m 2 (decimal k) ≡ Some k
        → child_of to 2 (decimal k) ≡ Some k
    pub inside : (n : List ℕ) (x : ℕ) → child_of to 2 n ≡ Some x → (child_of m 2 n ≡ Some x) × (i.way ≡ Brought → n ≢ decimal i.change.ino)

  link_placed : (m : FileSystem) → IsTree m → (i : Item) → i.way ≡ Linked → i.place.parent ≢ 2 → child_of m i.place.parent i.place.name ≡ None
      → Placed m (with_link m i.change.ino i.place.parent i.place.name) i
  link_placed m t i w apart free =
      let parent = i.place.parent in
      let name = i.place.name in
      let ino = i.change.ino in
      record {
        names = λ d n x a g. put_in m.links parent name ino d n x g;
        keeps = λ d n x a g. put_keeps m.links parent name ino d n x (λ e v. absurd (never (child_of m parent name) x free (at m d n x parent name e v g))) g;
        nodes = λ q node g. inl g;
        there = λ q h. h;
        itself = λ n. absurd (linked_new (subst IsNew w n));
        absent = λ q n h. h;
        closed = λ k small n g. put_keeps m.links parent name ino 2 (decimal k) k (λ e v. absurd (apart (sym e))) g;
        inside = λ n x g. (
          ⊎_elim (λ e. absurd (apart (sym e.0))) (λ q. q) (put_in m.links parent name ino 2 n x g),
          λ b. absurd (let y : Linked ≡ Brought = sym w ∙ b in cc),
        );
      }
    where
      at : (m : FileSystem) (d : ℕ) (n : List ℕ) (x parent : ℕ) (name : List ℕ) → d ≡ parent → n ≡ name → child_of m d n ≡ Some x
          → child_of m parent name ≡ Some x
      at m d n x parent name e v g =
          subst (λ (k : ℕ). child_of m k name ≡ Some x) e (subst (λ (k : List ℕ). child_of m d k ≡ Some x) v g)

  new_placed : (m : FileSystem) → IsTree m → (i : Item) → IsNew i.way → i.place.parent ≢ 2 → child_of m i.place.parent i.place.name ≡ None
      → (node : Node) → node.kind ≡ i.change.kind
      → Placed m (with_node m i.change.ino i.place.parent i.place.name node) i
  new_placed m t i w apart free node kind =
      let parent = i.place.parent in
      let name = i.place.name in
      let ino = i.change.ino in
      let to : FileSystem = with_node m ino parent name node in
      let found : (q : ℕ) → node_of to q ≡ cond (is_eq (nat_cmp q ino)) (Some node) (node_of m q) = (λ (q : ℕ).
      lookup-insert_entry nat_cmp_total m.nodes ino node q) in
      let here : node_of to ino ≡ Some node = found ino ∙ ap (λ b. cond b (Some node) (node_of m ino)) (number_itself ino) in
      let else_at : (q : ℕ) → q ≢ ino → node_of to q ≡ node_of m q = (λ (q : ℕ) (n : q ≢ ino).
      found q ∙ ap (λ b. cond b (Some node) (node_of m q)) (other_number q ino n)) in
      record {
        names = λ d n x a g. put_in m.links parent name ino d n x g;
        keeps = λ d n x a g. put_keeps m.links parent name ino d n x (λ e v. absurd (never (child_of m parent name) x free (at m d n x parent name e v g))) g;
        nodes = λ q one g.
            elim (q == ino) as (λ b. (q == ino) ≡ b → (node_of m q ≡ Some one) ⊎ ((q ≡ ino) × (one.kind ≡ i.change.kind))) [
              | true ↦ λ e.
                  let s : q ≡ ino = eqb-true q ino e in
                  inr (s, ap (λ (x : Node). x.kind) (same_some one node (sym g ∙ ap (node_of to) s ∙ here)) ∙ kind)
              | false ↦ λ e. inl (sym (else_at q (eqb-false q ino e)) ∙ g)
            ] refl;
        there = λ q h.
            elim (q == ino) as (λ b. (q == ino) ≡ b → is_there to q ≡ true) [
              | true ↦ λ e. subst (λ x. is_there to x ≡ true) (sym (eqb-true q ino e)) (ap is_some here)
              | false ↦ λ e. ap is_some (else_at q (eqb-false q ino e)) ∙ h
            ] refl;
        itself = λ n. ap is_some here;
        absent = λ q n h. ap is_some (else_at q (n w)) ∙ h;
        closed = λ k small n g. put_keeps m.links parent name ino 2 (decimal k) k (λ e v. absurd (apart (sym e))) g;
        inside = λ n x g. (
          ⊎_elim (λ e. absurd (apart (sym e.0))) (λ q. q) (put_in m.links parent name ino 2 n x g),
          λ b. absurd (brought_new (subst IsNew b w)),
        );
      }
    where
      at : (m : FileSystem) (d : ℕ) (n : List ℕ) (x parent : ℕ) (name : List ℕ) → d ≡ parent → n ≡ name → child_of m d n ≡ Some x
          → child_of m parent name ≡ Some x
      at m d n x parent name e v g =
          subst (λ (k : ℕ). child_of m k name ≡ Some x) e (subst (λ (k : List ℕ). child_of m d k ≡ Some x) v g)

  brought_placed : (m : FileSystem) → IsTree m → (i : Item) → i.way ≡ Brought → i.place.parent ≢ 2 → i.change.ino < 2 ^ 32
      → child_of m i.place.parent i.place.name ≡ None
      → child_of m 2 (decimal i.change.ino) ≡ Some i.change.ino
      → Placed m (renamed m 2 (decimal i.change.ino) i.place.parent i.place.name) i
  brought_placed m t i w apart low free found =
      let parent = i.place.parent in
      let name = i.place.name in
      let ino = i.change.ino in
      let to : FileSystem = with_link_moved m 2 (decimal ino) parent name ino in
      let left : List Link = remove_entry (is_at (place_cmp (2, decimal ino))) m.links in
      subst (λ (fs : FileSystem). Placed m fs i) (renamed_free m 2 (decimal ino) parent name ino found free)
      (record {
        names = λ d n x a g. ⊎_elim (λ e. inl e) (λ q. inr (taken_out m.links 2 (decimal ino) t.links_ascend d n x q))
            (put_in left parent name ino d n x g);
        keeps = λ d n x a g. put_keeps left parent name ino d n x
            (λ e v. absurd (never (child_of m parent name) x free
            (subst (λ (k : ℕ). child_of m k name ≡ Some x) e (subst (λ (k : List ℕ). child_of m d k ≡ Some x) v g))))
            (still_in m.links 2 (decimal ino) t.links_ascend d n x (λ e v. a e) g);
        nodes = λ q node g. inl g;
        there = λ q h. h;
        itself = λ n. absurd (brought_new (subst IsNew w n));
        absent = λ q n h. h;
        closed = λ k small n g.
            put_keeps left parent name ino 2 (decimal k) k (λ e v. absurd (apart (sym e)))
            (still_in m.links 2 (decimal ino) t.links_ascend 2 (decimal k) k (λ e v. n w (decimals_apart k ino small low v)) g);
        inside = λ n x g. ⊎_elim
            (λ e. absurd (apart (sym e.0)))
            (λ q. (
              taken_out m.links 2 (decimal ino) t.links_ascend 2 n x q,
              λ b e. never (child_of (record m { links = left }) 2 (decimal ino)) x (taken_itself m.links 2 (decimal ino) t.links_ascend)
                  (subst (λ (k : List ℕ). child_of (record m { links = left }) 2 k ≡ Some x) e q),
            ))
            (put_in left parent name ino 2 n x g);
      })

  placed : (m to : FileSystem) (i : Item) (left : List Item) → Placing (i ∷ left) m → In i → ((j : Item) → Has j left → PairIn i j)
      → ((j : Item) → Has j left → In j) → IsTree to → Placed m to i
      → Placing left to
  placed m to i left h a pairs ins tree s =
      let is = comes i.change a.change i.place a.place in
      record {
        tree = tree;
        names = λ d n x apart g.
            ⊎_elim
            (λ e. subst (λ (k : ℕ). child_of after k n ≡ Some x) (sym e.0)
            (subst (λ (k : List ℕ). child_of after i.place.parent k ≡ Some x) (sym e.1) (is.1 ∙ ap Some (sym e.2))))
            (λ q. h.names d n x apart q)
            (s.names d n x apart g);
        home = s.keeps 1 r.home.0 2 (λ e. one_two e) h.home;
        kinds = λ q node other g w.
            ⊎_elim
            (λ x. h.kinds q node other x w)
            (λ e.
            let k = kind_after batch before after l o f i.change a.change i.place a.place in
            e.1 ∙ sym k.2 ∙ ap (λ (n : Node). n.kind) (same_some k.0 other (sym k.1 ∙ ap (node_of after) (sym e.0) ∙ w)))
            (s.nodes q node g);
        there = λ q w.
            ⊎_elim
            (λ x. inl (s.there q x))
            (λ j. ⊎_elim
            (λ e. inl (subst (λ x. is_there to x ≡ true) (ap (λ (y : Item). y.change.ino) e ∙ j.3)
            (s.itself (subst (λ (y : Item). IsNew y.way) (sym e) j.2))))
            (λ g. inr (j.0, g, j.2, j.3))
            j.1)
            (h.there q w);
        new = λ j g n. s.absent j.change.ino (λ w e. (pairs j g).made w n (sym e)) (h.new j (inr g) n);
        free = λ j g.
            let b = ins j g in
            let there = comes j.change b.change j.place b.place in
            none_if (child_of to j.place.parent j.place.name)
            (λ x w. ⊎_elim
            (λ e.
            let same : child_of after j.place.parent j.place.name ≡ Some i.change.ino =
            subst (λ (d : ℕ). child_of after d j.place.name ≡ Some i.change.ino) (sym e.0)
            (subst (λ (n : List ℕ). child_of after i.place.parent n ≡ Some i.change.ino) (sym e.1) is.1) in
            (pairs j g).apart (same_some i.change.ino j.change.ino (sym same ∙ there.1)) (sym e.0) (sym e.1))
            (λ q. never (child_of m j.place.parent j.place.name) x (h.free j (inr g)) q)
            (s.names j.place.parent j.place.name x there.0 w));
        aside = λ j g w. s.closed j.change.ino (true_of j.change (ins j g).change).number (λ b e. (pairs j g).brought b w (sym e))
            (h.aside j (inr g) w);
        inside = λ n x g.
            let q = s.inside n x g in
            let j = h.inside n x q.0 in
            ⊎_elim
            (λ e. absurd (q.1 (subst (λ (y : Item). y.way ≡ Brought) (sym e) j.2) (j.3 ∙ ap (λ (y : Item). decimal y.change.ino) (sym e))))
            (λ y. (j.0, y, j.2, j.3))
            j.1;
      }
    where
      one_two : ◌≢◌ {A = ℕ} 1 2
      one_two e = let t : (1 == 2) ≡ true = eq-eqb 1 2 e in cc

  -- ---- each event is accepted
  module _ (m : FileSystem) (i : Item) (left : List Item) (h : Placing (i ∷ left) m) (a : In i) (pairs : (j : Item) → Has j left → PairIn i j) where
    is : IsName after i.change.ino i.place
    is = comes i.change a.change i.place a.place

    stands : child_of after i.place.parent i.place.name ≡ Some i.change.ino
    stands = is.1

    kinds_there : (q : ℕ) → is_directory m q ≡ true → is_there after q ≡ true → is_directory after q ≡ true
    kinds_there q d t =
        let n = node_there (node_of m q) (directory_there (node_of m q) d) in
        let k = node_there (node_of after q) t in
        directory_by after q k.0 k.1 (sym (h.kinds q n.0 k.0 n.1 k.1) ∙ kind_by m q n.0 n.1 d)

    kinds_here : (q : ℕ) → is_directory after q ≡ true → is_there m q ≡ true → is_directory m q ≡ true
    kinds_here q d t =
        let n = node_there (node_of m q) t in
        let k = node_there (node_of after q) (directory_there (node_of after q) d) in
        directory_by m q n.0 n.1 (h.kinds q n.0 k.0 n.1 k.1 ∙ kind_by after q k.0 k.1 d)

    -- the directory in which it comes to stand is there
    parent_after : is_directory after i.place.parent ≡ true
    parent_after = (facts after l.to i.place.parent i.place.name i.change.ino stands).parent

    parent_here : is_directory m i.place.parent ≡ true
    parent_here =
        kinds_here i.place.parent parent_after
        (⊎_elim
        (λ t. t)
        (λ j. ⊎_elim
        (λ e. absurd (a.apart (subst (λ (y : Item). IsNew y.way) (sym e) j.2) (ap (λ (y : Item). y.change.ino) e ∙ j.3)))
        (λ g. absurd ((pairs j.0 g).above j.2 j.3))
        j.1)
        (h.there i.place.parent (directory_there (node_of after i.place.parent) parent_after)))

    closed : is_directory m 2 ≡ true
    closed = kinds_here 2 (ap is_directory_node l.closed_after.node) (facts m h.tree 1 r.home.0 2 h.home).child

    name_is : is_name i.place.name ≡ true
    name_is = (facts after l.to i.place.parent i.place.name i.change.ino stands).name

    free : child_of m i.place.parent i.place.name ≡ None
    free = h.free i (inl refl)

    no_root : i.change.ino ≢ 1
    no_root = (facts after l.to i.place.parent i.place.name i.change.ino stands).no_root

    no_closed : i.change.ino ≢ 2
    no_closed = (true_of i.change a.change).apart

    depth_near : depth m.links i.place.parent ≤ depth after.links i.place.parent + 1
    depth_near = near m after h.tree l.to h.names kinds_there r.home.0 h.home closed (depth after.links i.place.parent) i.place.parent (omega arith)
        parent_here parent_after

    there_after : is_there after i.change.ino ≡ true
    there_after = (facts after l.to i.place.parent i.place.name i.change.ino stands).child

    -- ---- a link
    linked_there : i.way ≡ Linked → is_there m i.change.ino ≡ true
    linked_there w =
        ⊎_elim
        (λ t. t)
        (λ j. ⊎_elim
        (λ e. absurd (linked_new (subst IsNew w (subst (λ (y : Item). IsNew y.way) (sym e) j.2))))
        (λ g. absurd ((pairs j.0 g).linked w j.2 (sym j.3)))
        j.1)
        (h.there i.change.ino there_after)

    linked_file : i.way ≡ Linked → is_file m i.change.ino ≡ true
    linked_file w =
        let n = node_there (node_of m i.change.ino) (linked_there w) in
        let k = kind_after batch before after l o f i.change a.change i.place a.place in
        ap is_file_node n.1 ∙ ap is_kind_file (h.kinds i.change.ino n.0 k.0 n.1 k.1 ∙ k.2 ∙ a.linked w)

    link_accepted : i.way ≡ Linked → refusal_of m (event_by Linked i.change.ino i.place) ≡ None
    link_accepted w = link_taken m h.tree i.change.ino i.place.parent i.place.name name_is (linked_file w) parent_here free

    -- ---- a move
    not_deep : is_directory m i.change.ino ≡ true → is_too_deep m i.change.ino i.place.parent ≡ true → ⊥
    not_deep d g =
        let levels : ℕ = 255 - depth m.links i.place.parent in
        let below : reaches m levels i.change.ino ≡ true = deep_by_levels m h.tree i.change.ino i.place.parent d ∙ g in
        let there : reaches after levels i.change.ino ≡ true =
        reaches_there m after h.tree l.to h.names kinds_there r.home.0 h.home closed levels i.change.ino no_root no_closed below in
        let directory : is_directory after i.change.ino ≡ true = kinds_there i.change.ino d there_after in
        let deep = deeper after l.to i.place.parent i.place.name i.change.ino stands directory in
        let up = depth_near in
        bounded after l.to r.low_after levels i.change.ino directory (omega arith) there

    brought_accepted : i.way ≡ Brought → refusal_of m (event_by Brought i.change.ino i.place) ≡ None
    brought_accepted w =
        rename_taken m h.tree 2 (decimal i.change.ino) i.place.parent i.place.name i.change.ino (h.aside i (inl refl) w) parent_here name_is free
        (λ d. not_so (is_within m.links i.change.ino i.place.parent)
        (not_within m after h.tree l.to h.names kinds_there r.home.0 h.home closed i.place.parent i.place.name i.change.ino stands
        (kinds_there i.change.ino d there_after) no_closed parent_here))
        (λ d. not_so (is_too_deep m i.change.ino i.place.parent) (not_deep d))

    -- ---- a node that is made
    low_parent : i.change.kind ≡ Directory → depth m.links i.place.parent < 255
    low_parent k =
        let n = kind_after batch before after l o f i.change a.change i.place a.place in
        let directory : is_directory after i.change.ino ≡ true = directory_by after i.change.ino n.0 n.1 (n.2 ∙ k) in
        let deep = deeper after l.to i.place.parent i.place.name i.change.ino stands directory in
        let low = r.low_after i.change.ino directory in
        let up = depth_near in
        omega arith

    perm_low : (acl : Option Acl) (full : Perm) → i.change.fate ≡ Made full acl → (1 ≤ i.change.ino) × (full.mode ≤ 0xFFF)
    perm_low acl full e =
        let made : IsMade full acl i.change.kind i.change.ino before after =
        subst (λ (x : Fate). HasFate x i.change.kind i.change.ino before after) e (true_of i.change a.change).fate in
        numbered_at after l.to i.change.ino (node_with i.change.kind full) made.becomes

    -- ---- and then the next
    abbrev Done : Way → Type 0
    Done way = IsEvent (event_by way i.change.ino i.place) × (refusal_of m (event_by way i.change.ino i.place) ≡ None)
        × Placing left (next m (event_by way i.change.ino i.place))

    module _ (ins_left : (j : Item) → Has j left → In j) where
      linked_done : i.way ≡ Linked → Done Linked
      linked_done w =
          let ok = link_accepted w in (
            tt,
            ok,
            placed m (with_link m i.change.ino i.place.parent i.place.name) i left h a pairs ins_left
                (tree_kept m h.tree (event_by Linked i.change.ino i.place) tt ok)
                (link_placed m h.tree i w is.0 free),
          )

      brought_done : i.way ≡ Brought → Done Brought
      brought_done w =
          let ok = brought_accepted w in (
            tt,
            ok,
            placed m (renamed m 2 (decimal i.change.ino) i.place.parent i.place.name) i left h a pairs ins_left
                (tree_kept m h.tree (event_by Brought i.change.ino i.place) tt ok)
                (brought_placed m h.tree i w is.0 (true_of i.change a.change).number free (h.aside i (inl refl) w)),
          )

      directory_done : (perm : Perm) → i.way ≡ NewDirectory perm → Done (NewDirectory perm)
      directory_done perm w =
          let b = a.new_directory perm w in
          let new : IsNew i.way = inl (perm, w) in
          let low = perm_low b.1.0 b.1.1 b.1.2 in
          let mode : perm.mode ≤ 0xFFF = subst (λ (p : Perm). p.mode ≤ 0xFFF) (sym b.1.3)
          (low_first (shut batch before after l o f i.change) b.1.1 b.1.0 low.1) in
          let ok = mkdir_taken m h.tree i.change.ino i.place.parent i.place.name perm name_is (h.new i (inl refl) new) parent_here free
          (low_parent b.0) in (
            (low.0, mode),
            ok,
            placed m (next m (event_by (NewDirectory perm) i.change.ino i.place)) i left h a pairs ins_left
                (tree_kept m h.tree (event_by (NewDirectory perm) i.change.ino i.place) (low.0, mode) ok)
                (new_placed m h.tree i new is.0 free (node_with Directory perm) (sym b.0)),
          )

      file_done : (perm : Perm) → i.way ≡ NewFile perm → Done (NewFile perm)
      file_done perm w =
          let b = a.new_file perm w in
          let new : IsNew i.way = inr (perm, w) in
          let low = perm_low b.1.0 b.1.1 b.1.2 in
          let mode : perm.mode ≤ 0xFFF = subst (λ (p : Perm). p.mode ≤ 0xFFF) (sym b.1.3)
          (low_first (shut batch before after l o f i.change) b.1.1 b.1.0 low.1) in
          let ok = create_taken m h.tree i.change.ino i.place.parent i.place.name perm name_is (h.new i (inl refl) new) parent_here free in (
            (low.0, mode),
            ok,
            placed m (next m (event_by (NewFile perm) i.change.ino i.place)) i left h a pairs ins_left
                (tree_kept m h.tree (event_by (NewFile perm) i.change.ino i.place) (low.0, mode) ok)
                (new_placed m h.tree i new is.0 free (node_with File perm) (sym b.0)),
          )

      done : Done i.way
      done =
          ⊎_elim
          (λ w. subst Done (sym w) (linked_done w))
          (λ b. ⊎_elim
          (λ w. subst Done (sym w) (brought_done w))
          (λ n. ⊎_elim
          (λ d. subst Done (sym d.1) (directory_done d.0 d.1))
          (λ d. subst Done (sym d.1) (file_done d.0 d.1))
          n)
          b)
          a.way

  pub place_all : (left : List Item) → Pairwise PairIn left → ((i : Item) → Has i left → In i) → (m : FileSystem) → Placing left m
      → (rest : List Event)
      → (End : FileSystem → Type 0) → ((to : FileSystem) → Placing [] to → AreAcceptedTo End to rest)
      → AreAcceptedTo End m (map event_of left ++ rest)
  place_all [] p a m h rest End k = k m h
  place_all (i ∷ left) p a m h rest End k =
      let d = done m i left h (a i (inl refl)) p.0 (λ j g. a j (inr g)) in
      (d.0, d.1, place_all left p.1 (λ j g. a j (inr g)) (next m (event_of i)) d.2 rest End k)
