-- Where the names that go begin to go, and where they are gone and those that come begin to come.
use Rattle.std.proofs.Common.{◌≡◌, ◌≢◌, ℕ, ◌≤◌, List, [], ◌∷◌, refl, ap, sym, ◌∙◌, subst, Bool, true, false, not, arith}
use Rattle.std.proofs.Common.{inl, inr, ⊎_elim}
use Rattle.std.specs.Prelude.{◌⊎◌, ◌==◌, Option, None, Some, is_some, decimal}
use Rattle.std.specs.Ordering.{nat_cmp}
use Rattle.std.specs.Map.{lookup}
use Rattle.std.specs.BTreeMap.{is_at}
use Rattle.std.proofs.lemmas.Bool.{eq-eqb, eqb-true, eqb-false}
use Rattle.wu_access.specs.declared.acls.Acl.{Acl}
use Rattle.wu_access.specs.declared.Perm.{Perm}
use Rattle.wu_tree.specs.declared.events.Kind.{Kind}
use Rattle.wu_tree.specs.declared.events.Kind.TheVariants.{Directory, File}
use Rattle.wu_tree.specs.declared.events.Node.{Node}
use Rattle.wu_tree.specs.FileSystems.{FileSystem, Link, child_of, is_there, link_count, node_of, place_cmp}
use Rattle.wu_tree.specs.Rules.{Hangs, IsTree}
use Rattle.wu_tree.proofs.ParentPaths.{same_number}
use Rattle.wu_base.proofs.MapEntries.{All-found}
use Rattle.wu_base.proofs.Members.{Has, Contains-from_Has, Has-from_Contains, all_has, any_has, has_any}
use Rattle.wu_view.proofs.LinkPaths.{some_link}
use Rattle.wu_view.proofs.PathResolution.{child_found}
use Rattle.wu_mirror.specs.declared.batches.Batch.{Batch}
use Rattle.wu_mirror.specs.declared.batches.Change.{Change}
use Rattle.wu_mirror.specs.declared.batches.Fate.{Fate}
use Rattle.wu_mirror.specs.declared.batches.Fate.TheVariants.{Stays, Made, Goes}
use Rattle.wu_mirror.specs.declared.batches.Place.{Place}
use Rattle.wu_mirror.specs.declared.batches.RightsChange.{RightsChange}
use Rattle.wu_mirror.specs.Acceptance.{HasOther, HasRoom}
use Rattle.wu_mirror.specs.Misfits.{Fits}
use Rattle.wu_mirror.specs.Moments.{GoesFrom, HasFate, IsKept, IsMade, IsName, IsTrueOf, LeadsTo, TellsAllNames, is_told, node_with}
use Rattle.wu_mirror.specs.Moments.{perm_after}
use Rattle.wu_mirror.proofs.Clearing.{Clearing, not_so}
use Rattle.wu_mirror.proofs.Depths.{facts}
use Rattle.wu_mirror.proofs.Gone.{never, none_if}
use Rattle.wu_mirror.proofs.InItems.{IsIn, IsNew, brought_at, each_in, made_at, no_other}
use Rattle.wu_mirror.proofs.Lookups.{same_some}
use Rattle.wu_mirror.proofs.OutItems.{IsOrdered, AsideAt, IsOut, aside_stays, directory_aside, each_out, file_aside, out_at, out_change}
use Rattle.wu_mirror.proofs.Parts.{node_there}
use Rattle.wu_mirror.proofs.Placing.{Placing}
use Rattle.wu_mirror.proofs.RightsAccepted.{IsAlike, kind_in}
use Rattle.wu_mirror.proofs.TakingRights.{apart_same}
use Rattle.wu_mirror.proofs.ViewGrowth.{directory_there}
use Rattle.wu_mirror.proofs.Ways.{Item, ins, outs, Brought, SetAside}

-- ---- kinds
kind_back : (o p : Option Node) → kind_in o ≡ kind_in p → (node : Node) → o ≡ Some node → (other : Node) × (p ≡ Some other) × (other.kind ≡ node.kind)
kind_back None p e node h = absurd cc
kind_back (Some one) None e node h = absurd cc
kind_back (Some one) (Some other) e node h = (other, refl, sym (same_some one.kind other.kind e) ∙ ap (λ (n : Node). n.kind) (same_some one node h))

module _ (batch : Batch) (before after : FileSystem) (l : LeadsTo batch before after) (w : TellsAllNames batch before after) (f : Fits batch)
    (o : IsOrdered batch) (r : HasRoom batch before after) where
  true_of : (c : Change) → Has c batch.changes → IsTrueOf before after c
  true_of c h = all_has (IsTrueOf before after) c batch.changes l.changes h

  goes : (c : Change) → Has c batch.changes → (place : Place) → Has place c.going → IsName before c.ino place
  goes c h place p = all_has (IsName before c.ino) place c.going (true_of c h).going p

  comes : (c : Change) → Has c batch.changes → (place : Place) → Has place c.coming → IsName after c.ino place
  comes c h place p = all_has (IsName after c.ino) place c.coming (true_of c h).coming p

  told : (q : ℕ) → is_told batch.changes q ≡ true → (c : Change) × Has c batch.changes × (c.ino ≡ q)
  told q h = let t = any_has (λ (c : Change). c.ino == q) batch.changes h in (t.0, t.1.0, eqb-true t.0.ino q t.1.1)

  untold : (q : ℕ) → is_told batch.changes q ≡ false → (c : Change) → Has c batch.changes → c.ino ≡ q → ⊥
  untold q n c h e = let t : is_told batch.changes q ≡ true = has_any (λ (c : Change). c.ino == q) c batch.changes h (eq-eqb c.ino q e) in cc

  -- ---- the names that go
  not_made : (c : Change) → Has c batch.changes → (place : Place) → Has place c.going → (perm : Perm) (acl : Option Acl) → c.fate ≡ Made perm acl → ⊥
  not_made c h place p perm acl e =
      let made : IsMade perm acl c.kind c.ino before after = subst (λ (x : Fate). HasFate x c.kind c.ino before after) e (true_of c h).fate in
      let is = goes c h place p in
      let there : is_there before c.ino ≡ true = (facts before l.from place.parent place.name c.ino is.1).child in
      let none : is_there before c.ino ≡ false = ap is_some made.was in
      cc

  goes_root : (c : Change) → Has c batch.changes → (place : Place) → Has place c.going → c.ino ≢ 1
  goes_root c h place p = (facts before l.from place.parent place.name c.ino (goes c h place p).1).no_root

  pub clearing : (m : FileSystem) → IsTree m → IsAlike m before → Clearing batch before after l o r (outs batch) m
  clearing m t a =
      let at : (d : ℕ) (n : List ℕ) → child_of m d n ≡ child_of before d n = (λ (d : ℕ) (n : List ℕ).
      ap (λ (links : List Link). lookup (is_at (place_cmp (d, n))) links) a.links) in
      record {
        tree = t;
        names = λ d n x apart g. sym (at d n) ∙ g;
        stays = λ d n x apart g not. at d n ∙ g;
        kinds = λ q node g. kind_back (node_of m q) (node_of before q) (a.kinds q) node g;
        home = at 1 r.home.0 ∙ r.home.1;
        still = λ i h.
            let c = out_change batch before after l o i (each_out batch before after l o i h) in
            at i.place.parent i.place.name ∙ (goes i.change c.0 i.place c.1).1;
        free = λ i h e. at 2 (decimal i.change.ino) ∙ r.empty (decimal i.change.ino);
        gone = λ c place h p. inr (out_at batch before after l o c h (not_made c h place p) place p);
        put = λ c h a. inr a;
        inside = λ n x g. absurd (never (child_of m 2 n) x (at 2 n ∙ r.empty n) g);
      }

  -- ---- the middle
  -- a name that isn't told to go
  kept_name : (m : FileSystem) → Clearing batch before after l o r [] m → (d : ℕ) (n : List ℕ) (x : ℕ) → d ≢ 2 → child_of before d n ≡ Some x
      → child_of after d n ≡ Some x
      → child_of m d n ≡ Some x
  kept_name m h d n x apart g e = h.stays d n x apart g (λ goes. w.go d n goes (e ∙ sym g))

  -- a place in which a node stood, outside of the closed directory
  stood : (q : ℕ) → is_there before q ≡ true → q ≢ 1 → (d : ℕ) × (n : List ℕ) × (d ≢ 2) × (child_of before d n ≡ Some q)
  stood q t n =
      let node = node_there (node_of before q) t in
      let hangs = All-found (λ e. Hangs before.links e.0 e.1.kind) (is_at (nat_cmp q)) before.nodes node.0 l.from.nodes node.1 in
      let one : 1 ≤ link_count before.links q = some_hang node.0.kind
      (subst (λ (k : ℕ). Hangs before.links k node.0.kind) (sym (same_number q hangs.0 hangs.1)) hangs.2) in
      let link = some_link q before.links one in
      let found : child_of before link.0.0.0 link.0.0.1 ≡ Some q = child_found before l.from link.0 link.1.0 ∙ ap Some link.1.1 in (
        link.0.0.0,
        link.0.0.1,
        (λ e. never (child_of before 2 link.0.0.1) q (r.empty link.0.0.1) (subst (λ (d : ℕ). child_of before d link.0.0.1 ≡ Some q) e found)),
        found,
      )
    where
      some_hang : (k : Kind) → Hangs before.links q k → 1 ≤ link_count before.links q
      some_hang Directory h = ⊎_elim (λ e. absurd (n e)) (λ p. omega arith) h
      some_hang File h = h

  -- a node that is in a place is there
  by_link : (m : FileSystem) → IsTree m → (d : ℕ) (n : List ℕ) (q : ℕ) → child_of m d n ≡ Some q → is_there m q ≡ true
  by_link m t d n q h = (facts m t d n q h).child

  module _ (m : FileSystem) (h : Clearing batch before after l o r [] m) where
    -- where its name went, it is the node of a change
    gone_change : (d : ℕ) (n : List ℕ) (q : ℕ) → child_of before d n ≡ Some q → GoesFrom batch.changes d n
        → (c : Change) × Has c batch.changes × (c.ino ≡ q) × ((place : Place) × Has place c.going)
    gone_change d n q g s =
        let c = s.0 in
        let place = s.1 in
        let hc : Has c batch.changes = Has-from_Contains c batch.changes s.2 in
        let hp : Has place c.going = Has-from_Contains place c.going s.3 in
        let is = goes c hc place hp in
        let there : child_of before place.parent place.name ≡ Some q = subst (λ (k : ℕ). child_of before k place.name ≡ Some q) (sym s.4)
        (subst (λ (k : List ℕ). child_of before d k ≡ Some q) (sym s.5) g) in
        (c, hc, same_some c.ino q (sym is.1 ∙ there), (place, hp))

    aside_there : (c : Change) → Has c batch.changes → AsideAt batch before after l o c → child_of m 2 (decimal c.ino) ≡ Some c.ino
    aside_there c hc a = ⊎_elim (λ x. x) (λ j. absurd j.1) (h.put c hc a)

    stays_there : (c : Change) → Has c batch.changes → (rights : RightsChange) (other : Bool) → c.fate ≡ Stays rights other → is_there m c.ino ≡ true
    stays_there c hc rights other e =
        let kept : IsKept rights c.kind c.ino before after = subst (λ (x : Fate). HasFate x c.kind c.ino before after) e (true_of c hc).fate in
        elim (c.ino == 1) as (λ b. (c.ino == 1) ≡ b → is_there m c.ino ≡ true) [
          | true ↦ λ p. subst (λ x. is_there m x ≡ true) (sym (eqb-true c.ino 1 p)) (directory_there (node_of m 1) h.tree.root)
          | false ↦ λ p.
              let s = stood c.ino (ap is_some kept.was) (eqb-false c.ino 1 p) in
              ⊎_elim
              (λ a. by_link m h.tree s.0 s.1 c.ino (kept_name m h s.0 s.1 c.ino s.2 s.3 a))
              (λ g.
              let d = gone_change s.0 s.1 c.ino s.3 g in
              let same : d.0 ≡ c = apart_same batch.changes l.apart d.0 c d.1 hc d.2 in
              moved c hc rights other e d.3.0 (subst (λ (x : Change). Has d.3.0 x.going) same d.3.1))
              (l.names s.0 s.1 c.ino s.2 s.3)
        ] refl
      where
        by_other : (c : Change) → Has c batch.changes → (rights : RightsChange) (other : Bool) → c.fate ≡ Stays rights other → c.kind ≡ File
            → (place : Place) → Has place c.going
            → is_there m c.ino ≡ true
        by_other c hc rights true e k place p =
            let has : HasOther File (Stays rights true) c.ino before after =
            subst (λ (x : Kind). HasOther x (Stays rights true) c.ino before after) k
            (subst (λ (x : Fate). HasOther c.kind x c.ino before after) e
            (all_has (λ (x : Change). HasOther x.kind x.fate x.ino before after) c batch.changes r.others hc)) in
            by_link m h.tree has.0.parent has.0.name c.ino (kept_name m h has.0.parent has.0.name c.ino has.1.0 has.1.1 has.2.1)
        by_other c hc rights false e k place p =
            by_link m h.tree 2 (decimal c.ino) c.ino (aside_there c hc (file_aside batch before after l o c hc k rights e place p))

        moved : (c : Change) → Has c batch.changes → (rights : RightsChange) (other : Bool) → c.fate ≡ Stays rights other → (place : Place)
            → Has place c.going
            → is_there m c.ino ≡ true
        moved c hc rights other e place p =
            elim c.kind as (λ k. c.kind ≡ k → is_there m c.ino ≡ true) [
              | Directory ↦ λ k.
                  by_link m h.tree 2 (decimal c.ino) c.ino
                  (aside_there c hc (directory_aside batch before after l o c hc k rights other e place p))
              | File ↦ λ k. by_other c hc rights other e k place p
            ] refl

    untold_there : (q : ℕ) → is_told batch.changes q ≡ false → is_there after q ≡ true → is_there m q ≡ true
    untold_there q n t =
        let same = l.nodes q n t in
        elim (q == 1) as (λ b. (q == 1) ≡ b → is_there m q ≡ true) [
          | true ↦ λ p. subst (λ x. is_there m x ≡ true) (sym (eqb-true q 1 p)) (directory_there (node_of m 1) h.tree.root)
          | false ↦ λ p.
              let s = stood q (ap is_some (sym same.0) ∙ t) (eqb-false q 1 p) in
              ⊎_elim
              (λ a. by_link m h.tree s.0 s.1 q (kept_name m h s.0 s.1 q s.2 s.3 a))
              (λ g. let d = gone_change s.0 s.1 q s.3 g in absurd (untold q n d.0 d.1 d.2))
              (l.names s.0 s.1 q s.2 s.3)
        ] refl

    -- what is there afterwards is there, or is made
    there_or_made : (q : ℕ) → is_there after q ≡ true
        → (is_there m q ≡ true) ⊎ ((i : Item) × Has i (ins batch) × IsNew i.way × (i.change.ino ≡ q))
    there_or_made q t =
        elim (is_told batch.changes q) as (λ b. is_told batch.changes q ≡ b
        → (is_there m q ≡ true) ⊎ ((i : Item) × Has i (ins batch) × IsNew i.way × (i.change.ino ≡ q))) [
          | false ↦ λ n. inl (untold_there q n t)
          | true ↦ λ y.
              let c = told q y in
              elim c.0.fate as (λ d. c.0.fate ≡ d → HasFate d c.0.kind c.0.ino before after
              → (is_there m q ≡ true) ⊎ ((i : Item) × Has i (ins batch) × IsNew i.way × (i.change.ino ≡ q))) [
                | Stays rights other ↦ λ e k. inl (subst (λ x. is_there m x ≡ true) c.2 (stays_there c.0 c.1 rights other e))
                | Made perm acl ↦ λ e k.
                    let no_root : c.0.ino ≢ 1 = λ p. root_made perm acl c.0 k p in
                    let i = made_at batch before after l o f c.0 c.1 perm acl e no_root in
                    inr (i.0, i.1, i.2, ap (λ (x : Change). x.ino) i.3 ∙ c.2)
                | Goes ↦ λ e k.
                    let none : is_there after q ≡ false = ap is_some (subst (λ x. node_of after x ≡ None) c.2 k) in
                    absurd cc
              ] refl (true_of c.0 c.1).fate
        ] refl
      where
        root_made : (perm : Perm) (acl : Option Acl) (c : Change) → IsMade perm acl c.kind c.ino before after → c.ino ≡ 1 → ⊥
        root_made perm acl c k p =
            let there : is_there before 1 ≡ true = directory_there (node_of before 1) l.from.root in
            let none : is_there before 1 ≡ false = ap is_some (subst (λ x. node_of before x ≡ None) p k.was) in
            cc

    kinds_after : (q : ℕ) (node other : Node) → node_of m q ≡ Some node → node_of after q ≡ Some other → node.kind ≡ other.kind
    kinds_after q node other g e =
        let was = h.kinds q node g in
        elim (is_told batch.changes q) as (λ b. is_told batch.changes q ≡ b → node.kind ≡ other.kind) [
          | false ↦ λ n.
              let same = l.nodes q n (ap is_some e) in
              sym was.2 ∙ ap (λ (x : Node). x.kind) (same_some was.0 other (sym was.1 ∙ sym same.0 ∙ e))
          | true ↦ λ y.
              let c = told q y in
              elim c.0.fate as (λ d. HasFate d c.0.kind c.0.ino before after → node.kind ≡ other.kind) [
                | Stays rights keeps ↦ λ k.
                    sym was.2
                    ∙ ap (λ (x : Node). x.kind) (same_some was.0 (node_with c.0.kind k.perm) (sym was.1 ∙ ap (node_of before) (sym c.2) ∙ k.was))
                    ∙ ap (λ (x : Node). x.kind) (same_some (node_with c.0.kind (perm_after rights k.perm)) other
                    (sym k.becomes ∙ ap (node_of after) c.2 ∙ e))
                | Made perm acl ↦ λ k. absurd (let n : None ≡ Some was.0 = sym k.was ∙ ap (node_of before) c.2 ∙ was.1 in cc)
                | Goes ↦ λ k. absurd (let n : None ≡ Some other = sym k ∙ ap (node_of after) c.2 ∙ e in cc)
              ] (true_of c.0 c.1).fate
        ] refl

    new_absent : (i : Item) → IsIn batch before after l o f i → IsNew i.way → is_there m i.change.ino ≡ false
    new_absent i a n =
        not_so (is_there m i.change.ino)
        (λ t.
        let node = node_there (node_of m i.change.ino) t in
        let was = h.kinds i.change.ino node.0 node.1 in
        ⊎_elim
        (λ d. let b = a.new_directory d.0 d.1 in fresh i a b.1.1 b.1.0 b.1.2 was.0 was.1)
        (λ d. let b = a.new_file d.0 d.1 in fresh i a b.1.1 b.1.0 b.1.2 was.0 was.1)
        n)
      where
        fresh : (i : Item) → IsIn batch before after l o f i → (full : Perm) (acl : Option Acl) → i.change.fate ≡ Made full acl → (node : Node)
            → node_of before i.change.ino ≡ Some node → ⊥
        fresh i a full acl e node g =
            let made : IsMade full acl i.change.kind i.change.ino before after =
            subst (λ (x : Fate). HasFate x i.change.kind i.change.ino before after) e (true_of i.change a.change).fate in
            let n : None ≡ Some node = sym made.was ∙ g in
            cc

    brought_aside : (i : Item) → IsIn batch before after l o f i → i.way ≡ Brought → child_of m 2 (decimal i.change.ino) ≡ Some i.change.ino
    brought_aside i a e =
        let b = a.brought e in
        elim i.change.going as (λ places. ((place : Place) → Has place places → Has place i.change.going) → (places ≢ [])
        → child_of m 2 (decimal i.change.ino) ≡ Some i.change.ino) [
          | [] ↦ λ sub n. absurd (n refl)
          | place ∷ places ↦ λ sub n.
              elim i.change.kind as (λ k. i.change.kind ≡ k → child_of m 2 (decimal i.change.ino) ≡ Some i.change.ino) [
                | Directory ↦ λ k. aside_there i.change a.change
                    (directory_aside batch before after l o i.change a.change k b.0 false b.1 place (sub place (inl refl)))
                | File ↦ λ k. aside_there i.change a.change
                    (file_aside batch before after l o i.change a.change k b.0 b.1 place (sub place (inl refl)))
              ] refl
        ] (λ place p. p) b.2

    -- what was set aside comes back
    comes_back : (i : Item) → IsOut batch before after l o i → i.way ≡ SetAside → (n : List ℕ) → n ≡ decimal i.change.ino
        → (j : Item) × Has j (ins batch) × (j.way ≡ Brought) × (n ≡ decimal j.change.ino)
    comes_back i out e n d =
        let c = out_change batch before after l o i out in
        let s = aside_stays batch before after l o i out e in
        let root = goes_root i.change c.0 i.place c.1 in
        let none : s.1 ≡ false = by_kind i.change.kind refl s.1 s.3
        (λ k. no_other batch before after l o f i.change c.0 root i.place c.1 k s.0 s.1 s.2) in
        let back = brought_at batch before after l o f i.change c.0 root i.place c.1 s.0 (s.2 ∙ ap (Stays s.0) none) in
        (back.0, back.1, back.2, d ∙ ap (λ (x : Change). decimal x.ino) (sym back.3))
      where
        by_kind : (k : Kind) → i.change.kind ≡ k → (other : Bool) → (i.change.kind ≡ File → other ≡ false)
            → (i.change.kind ≡ Directory → other ≡ false)
            → other ≡ false
        by_kind Directory e other f g = g e
        by_kind File e other f g = f e

    pub placing : Placing batch before after l o f r (ins batch) m
    placing = record {
      tree = h.tree;
      names = λ d n x apart g.
          ⊎_elim
          (λ a. a)
          (λ s.
          let hc : Has s.0 batch.changes = Has-from_Contains s.0 batch.changes s.2 in
          let hp : Has s.1 s.0.going = Has-from_Contains s.1 s.0.going s.3 in
          let here : child_of m s.1.parent s.1.name ≡ Some x = subst (λ (k : ℕ). child_of m k s.1.name ≡ Some x) (sym s.4)
          (subst (λ (k : List ℕ). child_of m d k ≡ Some x) (sym s.5) g) in
          ⊎_elim (λ none. absurd (never (child_of m s.1.parent s.1.name) x none here)) (λ j. absurd j.1) (h.gone s.0 s.1 hc hp))
          (l.names d n x apart (h.names d n x apart g));
      home = h.home;
      kinds = kinds_after;
      there = there_or_made;
      new = λ i g n. new_absent i (each_in batch before after l o f i g) n;
      free = λ i g.
          let a = each_in batch before after l o f i g in
          let is = comes i.change a.change i.place a.place in
          none_if (child_of m i.place.parent i.place.name)
          (λ x e.
          let was : child_of before i.place.parent i.place.name ≡ Some x = h.names i.place.parent i.place.name x is.0 e in
          ⊎_elim
          (λ b. r.new i.place.parent i.place.name
          (i.change, i.place, Contains-from_Has i.change batch.changes a.change, Contains-from_Has i.place i.change.coming a.place, refl, refl)
          (was ∙ sym b))
          (λ s.
          let hc : Has s.0 batch.changes = Has-from_Contains s.0 batch.changes s.2 in
          let hp : Has s.1 s.0.going = Has-from_Contains s.1 s.0.going s.3 in
          let here : child_of m s.1.parent s.1.name ≡ Some x = subst (λ (k : ℕ). child_of m k s.1.name ≡ Some x) (sym s.4)
          (subst (λ (k : List ℕ). child_of m i.place.parent k ≡ Some x) (sym s.5) e) in
          ⊎_elim (λ none. never (child_of m s.1.parent s.1.name) x none here) (λ j. j.1) (h.gone s.0 s.1 hc hp))
          (l.names i.place.parent i.place.name x is.0 was));
      aside = λ i g e. brought_aside i (each_in batch before after l o f i g) e;
      inside = λ n x g. let a = h.inside n x g in comes_back a.0 a.1 a.2 n a.3;
    }
