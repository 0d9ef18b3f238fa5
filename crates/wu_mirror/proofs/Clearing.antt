-- The names that go, one after the other: each event is accepted.
use Rattle.std.proofs.Common.{◌≡◌, ◌≢◌, ℕ, ◌+◌, ◌-◌, ◌<◌, ◌^◌, List, [], ◌∷◌, ◌++◌, refl, ap, sym, ◌∙◌, subst, Bool, true, false, not, arith}
use Rattle.std.proofs.Common.{inl, inr, ⊎_elim}
use Rattle.std.specs.Prelude.{◌⊎◌, ◌==◌, None, Some, decimal, map}
use Rattle.std.specs.Map.{lookup, remove_entry}
use Rattle.std.specs.BTreeMap.{is_at}
use Rattle.std.proofs.lemmas.Bool.{eqb-true}
use Rattle.wu_tree.specs.declared.events.Event.{Event}
use Rattle.wu_tree.specs.declared.events.Kind.{Kind}
use Rattle.wu_tree.specs.declared.events.Kind.TheVariants.{Directory, File}
use Rattle.wu_tree.specs.declared.events.Node.{Node}
use Rattle.wu_tree.specs.FileSystems.{FileSystem, Link, child_of, depth, has_entries, is_directory, is_directory_node, is_kind_file, is_there, is_within}
use Rattle.wu_tree.specs.FileSystems.{node_of, place_cmp}
use Rattle.wu_tree.specs.Rules.{IsTree}
use Rattle.wu_tree.specs.Steps.{IsEvent, is_too_deep, next, refusal_of, renamed, with_link_moved, without_link}
use Rattle.wu_tree.specs.Paths.{reaches}
use Rattle.wu_tree.proofs.PathsDown.{deep_by_levels}
use Rattle.wu_tree.proofs.Renames.{renamed_free}
use Rattle.wu_base.proofs.Members.{Has, Contains-from_Has, Has-from_Contains, all_has, any_has}
use Rattle.wu_view.proofs.LinkPaths.{depth_range}
use Rattle.wu_view.proofs.PathResolution.{child_found}
use Rattle.wu_mirror.specs.declared.batches.Batch.{Batch}
use Rattle.wu_mirror.specs.declared.batches.Change.{Change}
use Rattle.wu_mirror.specs.declared.batches.Fate.{Fate}
use Rattle.wu_mirror.specs.declared.batches.Fate.TheVariants.{Stays, Made, Goes}
use Rattle.wu_mirror.specs.declared.batches.Place.{Place}
use Rattle.wu_mirror.specs.Acceptance.{AreAcceptedTo, HadKind, HasRoom}
use Rattle.wu_mirror.specs.Moments.{GoesFrom, HasFate, IsName, IsTrueOf, LeadsTo}
use Rattle.wu_mirror.proofs.Depths.{bounded, closed_depth, deeper, facts, not_above, reaches_there}
use Rattle.wu_mirror.proofs.EventsAccepted.{number_is_name, rename_taken, rmdir_taken, unlink_taken}
use Rattle.wu_mirror.proofs.Gone.{never, none_if}
use Rattle.wu_mirror.proofs.Lookups.{link_removed, put_in, put_itself, put_keeps, same_some, still_in, taken_itself, taken_out}
use Rattle.wu_mirror.proofs.OutItems.{IsOrdered, AsideAt, IsOut, LeaveOut, PairOut, out_change}
use Rattle.wu_mirror.proofs.Pairs.{Pairwise}
use Rattle.wu_mirror.proofs.Parts.{node_there, tree_kept}
use Rattle.wu_mirror.proofs.ViewGrowth.{directory_there}
use Rattle.wu_mirror.proofs.Removing.{decimals_apart}
use Rattle.wu_mirror.proofs.Ways.{Item, Way, event_by, event_of, outs, Unlinked, Removed, SetAside}

-- ---- kinds
pub directory_by : (fs : FileSystem) (q : ℕ) (node : Node) → node_of fs q ≡ Some node → node.kind ≡ Directory → is_directory fs q ≡ true
directory_by fs q node f k = ap is_directory_node f ∙ ap (λ (x : Kind). not (is_kind_file x)) k

pub no_directory_by : (fs : FileSystem) (q : ℕ) (node : Node) → node_of fs q ≡ Some node → node.kind ≡ File → is_directory fs q ≡ false
no_directory_by fs q node f k = ap is_directory_node f ∙ ap (λ (x : Kind). not (is_kind_file x)) k

pub kind_by : (fs : FileSystem) (q : ℕ) (node : Node) → node_of fs q ≡ Some node → is_directory fs q ≡ true → node.kind ≡ Directory
kind_by fs q node f h = by (node.kind) (sym (ap is_directory_node f) ∙ h)
  where
    by : (k : Kind) → not (is_kind_file k) ≡ true → k ≡ Directory
    by Directory h = refl
    by File h = absurd cc

pub not_so : (b : Bool) → (b ≡ true → ⊥) → b ≡ false
not_so true n = absurd (n refl)
not_so false n = refl

module _ (batch : Batch) (before after : FileSystem) (l : LeadsTo batch before after) (o : IsOrdered batch) (r : HasRoom batch before after) where
  true_of : (c : Change) → Has c batch.changes → IsTrueOf before after c
  true_of c h = all_has (IsTrueOf before after) c batch.changes l.changes h

  goes : (c : Change) → Has c batch.changes → (place : Place) → Has place c.going → IsName before c.ino place
  goes c h place p = all_has (IsName before c.ino) place c.going (true_of c h).going p

  abbrev pub Out : Item → Type 0
  Out i = IsOut batch before after l o i

  -- the name is the number of a node that was set aside
  abbrev pub Aside : List ℕ → Type 0
  Aside n = (i : Item) × Out i × (i.way ≡ SetAside) × (n ≡ decimal i.change.ino)

  -- what holds while these are still to go
  pub record Clearing (left : List Item) (m : FileSystem) : Type 0 where
    pub tree : IsTree m
    pub names : (d : ℕ) (n : List ℕ) (x : ℕ) → d ≢ 2 → child_of m d n ≡ Some x → child_of before d n ≡ Some x
    pub stays : (d : ℕ) (n : List ℕ) (x : ℕ) → d ≢ 2 → child_of before d n ≡ Some x → (GoesFrom batch.changes d n → ⊥) → child_of m d n ≡ Some x
    pub kinds : (q : ℕ) (node : Node) → node_of m q ≡ Some node → (other : Node) × (node_of before q ≡ Some other) × (other.kind ≡ node.kind)
    pub home : child_of m 1 r.home.0 ≡ Some 2
    pub still : (i : Item) → Has i left → child_of m i.place.parent i.place.name ≡ Some i.change.ino
    pub free : (i : Item) → Has i left → i.way ≡ SetAside → child_of m 2 (decimal i.change.ino) ≡ None
    pub gone : (c : Change) (place : Place) → Has c batch.changes → Has place c.going
        → (child_of m place.parent place.name ≡ None) ⊎ ((i : Item) × Has i left × (i.change ≡ c) × (i.place ≡ place))
    pub put : (c : Change) → Has c batch.changes → AsideAt batch before after l o c
        → (child_of m 2 (decimal c.ino) ≡ Some c.ino) ⊎ ((i : Item) × Has i left × (i.change ≡ c) × (i.way ≡ SetAside))
    pub inside : (n : List ℕ) (x : ℕ) → child_of m 2 n ≡ Some x → Aside n

  -- ---- what one event does
  record Cleared (m to : FileSystem) (i : Item) : Type 0 where
    pub names : (d : ℕ) (n : List ℕ) (x : ℕ) → d ≢ 2 → child_of to d n ≡ Some x → child_of m d n ≡ Some x
    pub stays : (d : ℕ) (n : List ℕ) (x : ℕ) → (d ≡ i.place.parent → n ≡ i.place.name → ⊥) → child_of m d n ≡ Some x → child_of to d n ≡ Some x
    pub gone : child_of to i.place.parent i.place.name ≡ None
    pub nodes : (q : ℕ) (node : Node) → node_of to q ≡ Some node → node_of m q ≡ Some node
    pub free : (k : ℕ) → k < 2 ^ 32 → (i.way ≡ SetAside → k ≢ i.change.ino) → child_of m 2 (decimal k) ≡ None → child_of to 2 (decimal k) ≡ None
    pub put : i.way ≡ SetAside → child_of to 2 (decimal i.change.ino) ≡ Some i.change.ino
    pub inside : (n : List ℕ) (x : ℕ) → child_of to 2 n ≡ Some x
        → (child_of m 2 n ≡ Some x) ⊎ ((i.way ≡ SetAside) × (n ≡ decimal i.change.ino))

  link_cleared : (m : FileSystem) → IsTree m → (i : Item) → (i.way ≡ SetAside → ⊥) → Cleared m (without_link m i.place.parent i.place.name) i
  link_cleared m t i n =
      let parent = i.place.parent in
      let name = i.place.name in
      record {
        names = λ d n x a g. taken_out m.links parent name t.links_ascend d n x g;
        stays = λ d n x apart g. still_in m.links parent name t.links_ascend d n x apart g;
        gone = taken_itself m.links parent name t.links_ascend;
        nodes = λ q node g. ((link_removed m t parent name).nodes q node g).0;
        free = λ k small a f. none_if (child_of (without_link m parent name) 2 (decimal k))
            (λ x g. never (child_of m 2 (decimal k)) x f (taken_out m.links parent name t.links_ascend 2 (decimal k) x g));
        put = λ e. absurd (n e);
        inside = λ k x g. inl (taken_out m.links parent name t.links_ascend 2 k x g);
      }

  aside_cleared : (m : FileSystem) → IsTree m → (i : Item) → i.way ≡ SetAside → i.place.parent ≢ 2 → i.change.ino < 2 ^ 32
      → child_of m i.place.parent i.place.name ≡ Some i.change.ino → child_of m 2 (decimal i.change.ino) ≡ None
      → Cleared m (renamed m i.place.parent i.place.name 2 (decimal i.change.ino)) i
  aside_cleared m t i w apart small found free =
      let parent = i.place.parent in
      let name = i.place.name in
      let ino = i.change.ino in
      let to : FileSystem = with_link_moved m parent name 2 (decimal ino) ino in
      let left : List Link = remove_entry (is_at (place_cmp (parent, name))) m.links in
      subst (λ (fs : FileSystem). Cleared m fs i) (renamed_free m parent name 2 (decimal ino) ino found free)
      (record {
        names = λ d n x a g. ⊎_elim (λ q. absurd (a q.0)) (λ q. taken_out m.links parent name t.links_ascend d n x q)
            (put_in left 2 (decimal ino) ino d n x g);
        stays = λ d n x other g.
            put_keeps left 2 (decimal ino) ino d n x
            (λ e w. absurd (never (child_of m 2 (decimal ino)) x free
            (subst (λ (k : ℕ). child_of m k (decimal ino) ≡ Some x) e (subst (λ (k : List ℕ). child_of m d k ≡ Some x) w g))))
            (still_in m.links parent name t.links_ascend d n x other g);
        gone = none_if (child_of to parent name)
            (λ x g. ⊎_elim (λ q. apart q.0)
            (λ q. never (lookup (is_at (place_cmp (parent, name))) left) x (taken_itself m.links parent name t.links_ascend) q)
            (put_in left 2 (decimal ino) ino parent name x g));
        nodes = λ q node g. g;
        free = λ k low n f. none_if (child_of to 2 (decimal k))
            (λ x g. ⊎_elim (λ q. n w (decimals_apart k ino low small q.1))
            (λ q. never (child_of m 2 (decimal k)) x f (taken_out m.links parent name t.links_ascend 2 (decimal k) x q))
            (put_in left 2 (decimal ino) ino 2 (decimal k) x g));
        put = λ e. put_itself left 2 (decimal ino) ino;
        inside = λ n x g. ⊎_elim (λ q. inr (w, q.1)) (λ q. inl (taken_out m.links parent name t.links_ascend 2 n x q))
            (put_in left 2 (decimal ino) ino 2 n x g);
      })

  -- the names behind this one are at other places
  elsewhere : (i j : Item) → Out i → Out j → PairOut i j → j.place.parent ≡ i.place.parent → j.place.name ≡ i.place.name → ⊥
  elsewhere i j a b p e w =
      let x = out_change batch before after l o i a in
      let y = out_change batch before after l o j b in
      let f = (goes i.change x.0 i.place x.1).1 in
      let g = (goes j.change y.0 j.place y.1).1 in
      let h : child_of before i.place.parent i.place.name ≡ Some j.change.ino =
      subst (λ (d : ℕ). child_of before d i.place.name ≡ Some j.change.ino) e
      (subst (λ (n : List ℕ). child_of before j.place.parent n ≡ Some j.change.ino) w g) in
      p.apart (same_some i.change.ino j.change.ino (sym f ∙ h)) (sym e) (sym w)

  cleared : (m to : FileSystem) (i : Item) (left : List Item) → Clearing (i ∷ left) m → Out i → ((j : Item) → Has j left → PairOut i j)
      → ((j : Item) → Has j left → Out j) → IsTree to → Cleared m to i
      → Clearing left to
  cleared m to i left h out pairs outs tree s =
      let x = out_change batch before after l o i out in
      let is = goes i.change x.0 i.place x.1 in
      record {
        tree = tree;
        names = λ d n y a g. h.names d n y a (s.names d n y a g);
        stays = λ d n y a f g. s.stays d n y
            (λ e w. g (i.change, i.place, Contains-from_Has i.change batch.changes x.0, Contains-from_Has i.place i.change.going x.1, sym e, sym w))
            (h.stays d n y a f g);
        kinds = λ q node g. h.kinds q node (s.nodes q node g);
        home = s.stays 1 r.home.0 2
            (λ e w.
            let there : child_of before 1 r.home.0 ≡ Some i.change.ino =
            subst (λ (d : ℕ). child_of before d r.home.0 ≡ Some i.change.ino) (sym e)
            (subst (λ (n : List ℕ). child_of before i.place.parent n ≡ Some i.change.ino) (sym w) is.1) in
            (true_of i.change x.0).apart (sym (same_some 2 i.change.ino (sym r.home.1 ∙ there))))
            h.home;
        still = λ j g. s.stays j.place.parent j.place.name j.change.ino (elsewhere i j out (outs j g) (pairs j g)) (h.still j (inr g));
        free = λ j g w. s.free j.change.ino (true_of j.change (out_change batch before after l o j (outs j g)).0).number
            (λ a e. (pairs j g).aside a w (sym e)) (h.free j (inr g) w);
        gone = λ c place hc hp.
            ⊎_elim
            (λ f. inl (none_if (child_of to place.parent place.name)
            (λ y g. never (child_of m place.parent place.name) y f (s.names place.parent place.name y (goes c hc place hp).0 g))))
            (λ j. ⊎_elim
            (λ e. inl (subst (λ (p : Place). child_of to p.parent p.name ≡ None) (ap (λ (y : Item). y.place) e ∙ j.3) s.gone))
            (λ q. inr (j.0, q, j.2, j.3)) j.1)
            (h.gone c place hc hp);
        put = λ c hc a.
            ⊎_elim
            (λ f. inl (s.stays 2 (decimal c.ino) c.ino (λ e w. is.0 (sym e)) f))
            (λ j. ⊎_elim
            (λ e. inl (subst (λ (y : Change). child_of to 2 (decimal y.ino) ≡ Some y.ino) (ap (λ (y : Item). y.change) e ∙ j.2)
            (s.put (ap (λ (y : Item). y.way) e ∙ j.3))))
            (λ q. inr (j.0, q, j.2, j.3)) j.1)
            (h.put c hc a);
        inside = λ n y g. ⊎_elim (λ q. h.inside n y q) (λ q. (i, out, q.0, q.1)) (s.inside n y g);
      }

  -- ---- each event is accepted
  module _ (m : FileSystem) (i : Item) (left : List Item) (h : Clearing (i ∷ left) m) (out : Out i) where
    member : Has i.change batch.changes
    member = (out_change batch before after l o i out).0

    place_is : IsName before i.change.ino i.place
    place_is = goes i.change member i.place (out_change batch before after l o i out).1

    found : child_of m i.place.parent i.place.name ≡ Some i.change.ino
    found = h.still i (inl refl)

    was_kind : (f : Fate) → HasFate f i.change.kind i.change.ino before after → HadKind f i.change.kind i.change.ino before → (node : Node)
        → node_of before i.change.ino ≡ Some node → node.kind ≡ i.change.kind
    was_kind (Stays rights other) k g node e = ap (λ (n : Node). n.kind) (same_some node _ (sym e ∙ k.was))
    was_kind (Made perm acl) k g node e = absurd (let x : None ≡ Some node = sym k.was ∙ e in cc)
    was_kind Goes k g node e = ap (λ (n : Node). n.kind) (same_some node _ (sym e ∙ g.1))

    -- the node that it names is of the kind that is told
    now : (node : Node) × (node_of m i.change.ino ≡ Some node) × (node.kind ≡ i.change.kind)
    now =
        let n = node_there (node_of m i.change.ino) (facts m h.tree i.place.parent i.place.name i.change.ino found).child in
        let k = h.kinds i.change.ino n.0 n.1 in (
          n.0,
          n.1,
          sym k.2 ∙ was_kind i.change.fate (true_of i.change member).fate
              (all_has (λ (c : Change). HadKind c.fate c.kind c.ino before) i.change batch.changes r.kinds member) k.0 k.1,
        )

    kinds_there : (q : ℕ) → is_directory m q ≡ true → is_there before q ≡ true → is_directory before q ≡ true
    kinds_there q d t =
        let n = node_there (node_of m q) (directory_there (node_of m q) d) in
        let k = h.kinds q n.0 n.1 in
        directory_by before q k.0 k.1 (k.2 ∙ kind_by m q n.0 n.1 d)

    closed : is_directory m 2 ≡ true
    closed =
        let n = node_there (node_of m 2) (facts m h.tree 1 r.home.0 2 h.home).child in
        let k = h.kinds 2 n.0 n.1 in
        directory_by m 2 n.0 n.1 (sym k.2 ∙ ap (λ (n : Node). n.kind) (same_some k.0 _ (sym k.1 ∙ l.closed_before.node)))

    no_root : i.change.ino ≢ 1
    no_root = (facts m h.tree i.place.parent i.place.name i.change.ino found).no_root

    no_closed : i.change.ino ≢ 2
    no_closed = (true_of i.change member).apart

    not_deep : is_directory m i.change.ino ≡ true → is_too_deep m i.change.ino 2 ≡ true → ⊥
    not_deep d g =
        let levels : ℕ = 255 - depth m.links 2 in
        let below : reaches m levels i.change.ino ≡ true = deep_by_levels m h.tree i.change.ino 2 d ∙ g in
        let there : reaches before levels i.change.ino ≡ true =
        reaches_there m before h.tree l.from h.names kinds_there r.home.0 h.home closed levels i.change.ino no_root no_closed below in
        let was = facts before l.from i.place.parent i.place.name i.change.ino place_is.1 in
        let directory : is_directory before i.change.ino ≡ true = kinds_there i.change.ino d was.child in
        let deep = deeper before l.from i.place.parent i.place.name i.change.ino place_is.1 directory in
        let range = depth_range before.links i.place.parent in
        let two = closed_depth m before h.tree l.from h.names kinds_there r.home.0 h.home closed in
        bounded before l.from r.low_before levels i.change.ino directory (omega (arith, range.0)) there

    aside_accepted : i.way ≡ SetAside → refusal_of m (event_by SetAside i.change.ino i.place) ≡ None
    aside_accepted w =
        rename_taken m h.tree i.place.parent i.place.name 2 (decimal i.change.ino) i.change.ino found closed
        (number_is_name i.change.ino (true_of i.change member).number) (h.free i (inl refl) w)
        (λ d. not_so (is_within m.links i.change.ino 2)
        (not_above m before h.tree l.from h.names kinds_there r.home.0 h.home closed i.change.ino no_root no_closed))
        (λ d. not_so (is_too_deep m i.change.ino 2) (not_deep d))

    unlink_accepted : i.change.kind ≡ File → refusal_of m (event_by Unlinked i.change.ino i.place) ≡ None
    unlink_accepted k =
        unlink_taken m h.tree i.place.parent i.place.name i.change.ino found
        (no_directory_by m i.change.ino now.0 now.1 (now.2 ∙ k))

    -- a directory that goes is empty by then
    module _ (a : LeaveOut batch before after l o i) (pairs : (j : Item) → Has j left → PairOut i j) where
      no_entry : (n : List ℕ) (x : ℕ) → child_of m i.change.ino n ≡ Some x → ⊥
      no_entry n x f =
          ⊎_elim
          (λ s.
          let there = (facts after l.to i.change.ino n x s).parent in
          let none : node_of after i.change.ino ≡ None =
          subst (λ (f : Fate). HasFate f i.change.kind i.change.ino before after) a.fate (true_of i.change member).fate in
          let no : is_directory after i.change.ino ≡ false = ap is_directory_node none in
          let yes : is_directory after i.change.ino ≡ true = there in
          cc)
          (λ g.
          let here : child_of m g.1.parent g.1.name ≡ Some x = subst (λ (d : ℕ). child_of m d g.1.name ≡ Some x) (sym g.4)
          (subst (λ (k : List ℕ). child_of m i.change.ino k ≡ Some x) (sym g.5) f) in
          ⊎_elim
          (λ none. never (child_of m g.1.parent g.1.name) x none here)
          (λ j. ⊎_elim
          (λ e. a.apart (sym (ap (λ (p : Place). p.parent) (ap (λ (y : Item). y.place) e ∙ j.3) ∙ g.4)))
          (λ q. (pairs j.0 q).bottom a.way (sym (ap (λ (p : Place). p.parent) j.3 ∙ g.4)))
          j.1)
          (h.gone g.0 g.1 (Has-from_Contains g.0 batch.changes g.2) (Has-from_Contains g.1 g.0.going g.3)))
          (l.names i.change.ino n x no_closed (h.names i.change.ino n x no_closed f))

      empty : has_entries m.links i.change.ino ≡ true → ⊥
      empty e =
          let f = any_has (λ (link : Link). link.0.0 == i.change.ino) m.links e in
          let d : f.0.0.0 ≡ i.change.ino = eqb-true f.0.0.0 i.change.ino f.1.1 in
          no_entry f.0.0.1 f.0.1 (subst (λ (k : ℕ). child_of m k f.0.0.1 ≡ Some f.0.1) d (child_found m h.tree f.0 f.1.0))

      rmdir_accepted : refusal_of m (event_by Removed i.change.ino i.place) ≡ None
      rmdir_accepted =
          rmdir_taken m h.tree i.place.parent i.place.name i.change.ino found
          (directory_by m i.change.ino now.0 now.1 (now.2 ∙ a.kind)) (not_so (has_entries m.links i.change.ino) empty)

    -- ---- and then the next
    abbrev Done : Way → Type 0
    Done way = IsEvent (event_by way i.change.ino i.place) × (refusal_of m (event_by way i.change.ino i.place) ≡ None)
        × Clearing left (next m (event_by way i.change.ino i.place))

    module _ (pairs : (j : Item) → Has j left → PairOut i j) (outs_left : (j : Item) → Has j left → Out j) where
      unlinked_done : i.way ≡ Unlinked → i.change.kind ≡ File → Done Unlinked
      unlinked_done w k =
          let ok = unlink_accepted k in (
            tt,
            ok,
            cleared m (without_link m i.place.parent i.place.name) i left h out pairs outs_left
                (tree_kept m h.tree (event_by Unlinked i.change.ino i.place) tt ok)
                (link_cleared m h.tree i (λ e. (let x : Unlinked ≡ SetAside = sym w ∙ e in cc))),
          )

      removed_done : LeaveOut batch before after l o i → Done Removed
      removed_done a =
          let ok = rmdir_accepted a pairs in (
            tt,
            ok,
            cleared m (without_link m i.place.parent i.place.name) i left h out pairs outs_left
                (tree_kept m h.tree (event_by Removed i.change.ino i.place) tt ok)
                (link_cleared m h.tree i (λ e. (let x : Removed ≡ SetAside = sym a.way ∙ e in cc))),
          )

      aside_done : i.way ≡ SetAside → Done SetAside
      aside_done w =
          let ok = aside_accepted w in (
            tt,
            ok,
            cleared m (renamed m i.place.parent i.place.name 2 (decimal i.change.ino)) i left h out pairs outs_left
                (tree_kept m h.tree (event_by SetAside i.change.ino i.place) tt ok)
                (aside_cleared m h.tree i w place_is.0 (true_of i.change member).number found (h.free i (inl refl) w)),
          )

      done : Done i.way
      done =
          ⊎_elim
          (λ a. ⊎_elim (λ w. subst Done (sym w) (unlinked_done w a.kind)) (λ w. subst Done (sym w) (aside_done w)) a.way)
          (λ b. ⊎_elim (λ a. subst Done (sym a.way) (aside_done a.way)) (λ a. subst Done (sym a.way) (removed_done a)) b)
          out

  pub clear_all : (left : List Item) → Pairwise PairOut left → ((i : Item) → Has i left → Out i) → (m : FileSystem) → Clearing left m
      → (rest : List Event)
      → (End : FileSystem → Type 0) → ((to : FileSystem) → Clearing [] to → AreAcceptedTo End to rest)
      → AreAcceptedTo End m (map event_of left ++ rest)
  clear_all [] p out m h rest End k = k m h
  clear_all (i ∷ left) p out m h rest End k =
      let d = done m i left h (out i (inl refl)) p.0 (λ j g. out j (inr g)) in
      (d.0, d.1, clear_all left p.1 (λ j g. out j (inr g)) (next m (event_of i)) d.2 rest End k)
