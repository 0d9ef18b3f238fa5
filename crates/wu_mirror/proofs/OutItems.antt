-- What the names are that go, and in which order.
use Rattle.std.proofs.Common.{◌≡◌, ◌≢◌, List, [], ◌∷◌, ◌++◌, refl, ap, sym, ◌∙◌, subst, Bool, true, false, inl, inr, ⊎_elim}
use Rattle.std.specs.Prelude.{◌⊎◌, Option, reverse}
use Rattle.wu_access.specs.declared.acls.Acl.{Acl}
use Rattle.wu_access.specs.declared.Perm.{Perm}
use Rattle.std.specs.List.{AllByRecursion}
use Rattle.wu_tree.specs.declared.events.Kind.{Kind}
use Rattle.wu_tree.specs.declared.events.Kind.TheVariants.{Directory, File}
use Rattle.wu_tree.specs.FileSystems.{FileSystem}
use Rattle.wu_base.proofs.Members.{Has, Has-append_cases, Has-append_left, Has-append_right, Has-flat_map, all_has, flat_map_has, map_has, Has-map}
use Rattle.wu_mirror.specs.declared.batches.Batch.{Batch}
use Rattle.wu_mirror.specs.declared.batches.Change.{Change}
use Rattle.wu_mirror.specs.declared.batches.Fate.{Fate}
use Rattle.wu_mirror.specs.declared.batches.Fate.TheVariants.{Stays, Made, Goes}
use Rattle.wu_mirror.specs.declared.batches.Place.{Place}
use Rattle.wu_mirror.specs.declared.batches.RightsChange.{RightsChange}
use Rattle.wu_mirror.specs.Acceptance.{AreInOrder, IsElsewhere, NamesOnce, stands_at}
use Rattle.wu_mirror.specs.Moments.{IsTrueOf, LeadsTo}
use Rattle.wu_mirror.proofs.Pairs.{Has-reverse, Pairwise, pair_append, pair_flat, pair_reverse, reverse_has}
use Rattle.wu_mirror.proofs.TakingRights.{apart_same}
use Rattle.wu_mirror.proofs.Ways.{Item, Precedes, Way, all_precede, file_outs, files_out, first_then, gone_way, item, leave_outs, leaves_out}
use Rattle.wu_mirror.proofs.Ways.{move_outs, moves_out, none_in_itself, of_first, outs, pair_first, pair_short, Unlinked, Removed, SetAside}

-- a batch whose directories stand in order, and whose names go and come once
pub record IsOrdered (batch : Batch) : Type 0 where
  pub order : AreInOrder batch.changes
  pub once : AllByRecursion NamesOnce batch.changes

-- of two names that go, the one before the other
pub record PairOut (i j : Item) : Type 0 where
  pub apart : i.change.ino ≡ j.change.ino → IsElsewhere i.place j.place
  pub aside : i.way ≡ SetAside → j.way ≡ SetAside → i.change.ino ≢ j.change.ino
  pub bottom : i.way ≡ Removed → i.change.ino ≢ j.place.parent

unlinked_removed : Unlinked ≡ Removed → ⊥
unlinked_removed e = cc

aside_removed : SetAside ≡ Removed → ⊥
aside_removed e = cc

unlinked_aside : Unlinked ≡ SetAside → ⊥
unlinked_aside e = cc

gone_either : (f : Fate) → (gone_way f ≡ Unlinked) ⊎ (gone_way f ≡ SetAside)
gone_either (Stays rights true) = inl refl
gone_either (Stays rights false) = inr refl
gone_either (Made perm acl) = inl refl
gone_either Goes = inl refl

aside_fate : (f : Fate) → gone_way f ≡ SetAside → (rights : RightsChange) × (f ≡ Stays rights false)
aside_fate (Stays rights true) e = absurd (unlinked_aside e)
aside_fate (Stays rights false) e = (rights, refl)
aside_fate (Made perm acl) e = absurd (unlinked_aside e)
aside_fate Goes e = absurd (unlinked_aside e)

never_kinds : (k : Kind) → k ≡ Directory → k ≡ File → ⊥
never_kinds k d f = cc

differ : (i j : Item) → i.change.ino ≢ j.change.ino → (i.way ≡ Removed → ⊥) → PairOut i j
differ i j n r = record { apart = λ e. absurd (n e); aside = λ a b. n; bottom = λ e. absurd (r e) }

module _ (batch : Batch) (before after : FileSystem) (l : LeadsTo batch before after) (o : IsOrdered batch) where
  true_of : (c : Change) → Has c batch.changes → IsTrueOf before after c
  true_of c h = all_has (IsTrueOf before after) c batch.changes l.changes h

  once_of : (c : Change) → Has c batch.changes → NamesOnce c
  once_of c h = all_has NamesOnce c batch.changes o.once h

  -- a file's name, that of a directory that is set aside, and that of one that is removed
  pub record FileOut (i : Item) : Type 0 where
    pub change : Has i.change batch.changes
    pub place : Has i.place i.change.going
    pub kind : i.change.kind ≡ File
    pub way : (i.way ≡ Unlinked) ⊎ (i.way ≡ SetAside)
    pub stays : i.way ≡ SetAside → (rights : RightsChange) × (i.change.fate ≡ Stays rights false)

  pub record MoveOut (i : Item) : Type 0 where
    pub change : Has i.change batch.changes
    pub place : Has i.place i.change.going
    pub kind : i.change.kind ≡ Directory
    pub fate : i.change.fate ≢ Goes
    pub way : i.way ≡ SetAside
    pub stays : (rights : RightsChange) × (other : Bool) × (i.change.fate ≡ Stays rights other)

  pub record LeaveOut (i : Item) : Type 0 where
    pub change : Has i.change batch.changes
    pub place : Has i.place i.change.going
    pub kind : i.change.kind ≡ Directory
    pub fate : i.change.fate ≡ Goes
    pub way : i.way ≡ Removed
    pub apart : i.change.ino ≢ i.place.parent

  file_item : (c : Change) → Has c batch.changes → (k : Kind) → c.kind ≡ k → (i : Item) → Has i (files_out c k) → (i.change ≡ c) × FileOut i
  file_item c h Directory e i g = absurd g
  file_item c h File e i g =
      let f = of_first c (gone_way c.fate) Unlinked c.going i g in
      ⊎_elim
      (λ x. (
        sym (ap (λ (y : Item). y.change) x),
        subst FileOut x (record {
          change = h;
          place = f.1;
          kind = e;
          way = gone_either c.fate;
          stays = aside_fate c.fate;
        }),
      ))
      (λ x. (
        sym (ap (λ (y : Item). y.change) x),
        subst FileOut x (record {
          change = h;
          place = f.1;
          kind = e;
          way = inl refl;
          stays = λ w. absurd (unlinked_aside w);
        }),
      ))
      f.2

  move_item : (c : Change) → Has c batch.changes → (k : Kind) → c.kind ≡ k → (f : Fate) → c.fate ≡ f → (i : Item) → Has i (moves_out c k f)
      → (i.change ≡ c) × MoveOut i
  move_item c h Directory e (Stays rights other) d i g =
      let r = map_has (item c SetAside) i c.going g in (
        sym (ap (λ (y : Item). y.change) r.1.1),
        subst MoveOut r.1.1
            (record {
              change = h;
              place = r.1.0;
              kind = e;
              fate = λ x. (let y : Stays rights other ≡ Goes = sym d ∙ x in cc);
              way = refl;
              stays = (rights, other, d);
            }),
      )
  move_item c h Directory e (Made perm acl) d i g = absurd g
  move_item c h Directory e Goes d i g = absurd g
  move_item c h File e f d i g = absurd g

  leave_item : (c : Change) → Has c batch.changes → (k : Kind) → c.kind ≡ k → (f : Fate) → c.fate ≡ f → (i : Item) → Has i (leaves_out c k f)
      → (i.change ≡ c) × LeaveOut i
  leave_item c h Directory e (Stays rights other) d i g = absurd g
  leave_item c h Directory e (Made perm acl) d i g = absurd g
  leave_item c h Directory e Goes d i g =
      let r = map_has (item c Removed) i c.going g in (
        sym (ap (λ (y : Item). y.change) r.1.1),
        subst LeaveOut r.1.1 (record {
          change = h;
          place = r.1.0;
          kind = e;
          fate = d;
          way = refl;
          apart = none_in_itself batch.changes o.order c h e r.0
              (subst (λ (f : Fate). Has r.0 (stands_at f c.going c.coming)) (sym d) r.1.0);
        }),
      )
  leave_item c h File e f d i g = absurd g

  -- ---- each name that goes
  pub file_out : (i : Item) → Has i (file_outs batch) → FileOut i
  file_out i h =
      let f = flat_map_has (λ c. files_out c c.kind) i batch.changes h in (file_item f.0 f.1.0 f.0.kind refl i f.1.1).1

  pub move_out : (i : Item) → Has i (move_outs batch) → MoveOut i
  move_out i h =
      let f = flat_map_has (λ c. moves_out c c.kind c.fate) i batch.changes h in (move_item f.0 f.1.0 f.0.kind refl f.0.fate refl i f.1.1).1

  pub leave_out : (i : Item) → Has i (leave_outs batch) → LeaveOut i
  leave_out i h =
      let f = flat_map_has (λ c. leaves_out c c.kind c.fate) i (reverse batch.changes) h in
      (leave_item f.0 (reverse_has f.0 batch.changes f.1.0) f.0.kind refl f.0.fate refl i f.1.1).1

  abbrev pub IsOut : Item → Type 0
  IsOut i = FileOut i ⊎ (MoveOut i ⊎ LeaveOut i)

  pub each_out : (i : Item) → Has i (outs batch) → IsOut i
  each_out i h =
      ⊎_elim
      (λ a. inl (file_out i a))
      (λ b. inr (⊎_elim (λ a. inl (move_out i a)) (λ a. inr (leave_out i a)) (Has-append_cases i (move_outs batch) (leave_outs batch) b)))
      (Has-append_cases i (file_outs batch) (move_outs batch ++ leave_outs batch) h)

  pub out_change : (i : Item) → IsOut i → Has i.change batch.changes × Has i.place i.change.going
  out_change i h = ⊎_elim (λ a. (a.change, a.place)) (λ b. ⊎_elim (λ a. (a.change, a.place)) (λ a. (a.change, a.place)) b) h

  -- what is set aside stays, and of a file no name does
  pub aside_stays : (i : Item) → IsOut i → i.way ≡ SetAside → (rights : RightsChange) × (other : Bool) × (i.change.fate ≡ Stays rights other)
      × (i.change.kind ≡ File → other ≡ false)
  aside_stays i h e =
      ⊎_elim
      (λ a. let s = a.stays e in (s.0, false, s.1, λ k. refl))
      (λ b. ⊎_elim
      (λ a. (a.stays.0, a.stays.1, a.stays.2, λ k. absurd (never_kinds i.change.kind a.kind k)))
      (λ a. absurd (aside_removed (sym e ∙ a.way)))
      b)
      h

  -- ---- their order
  no_remove : (i : Item) → (i.way ≡ Unlinked) ⊎ (i.way ≡ SetAside) → i.way ≡ Removed → ⊥
  no_remove i h r = ⊎_elim (λ e. unlinked_removed (sym e ∙ r)) (λ e. aside_removed (sym e ∙ r)) h

  files_within : (c : Change) → Has c batch.changes → (k : Kind) → Pairwise PairOut (files_out c k)
  files_within c h Directory = tt
  files_within c h File =
      pair_first PairOut c (gone_way c.fate) Unlinked c.going (once_of c h).0
      (λ p q x. record {
        apart = λ e. x;
        aside = λ a b. absurd (unlinked_aside b);
        bottom = λ e. absurd (no_remove (item c (gone_way c.fate) p) (gone_either c.fate) e);
      })
      (λ p q x. record { apart = λ e. x; aside = λ a b. absurd (unlinked_aside b); bottom = λ e. absurd (unlinked_removed e) })

  moves_within : (c : Change) → Has c batch.changes → (k : Kind) → c.kind ≡ k → (f : Fate) → Pairwise PairOut (moves_out c k f)
  moves_within c h Directory e (Stays rights other) = pair_short PairOut c SetAside c.going ((true_of c h).once e)
  moves_within c h Directory e (Made perm acl) = tt
  moves_within c h Directory e Goes = tt
  moves_within c h File e f = tt

  leaves_within : (c : Change) → Has c batch.changes → (k : Kind) → c.kind ≡ k → (f : Fate) → Pairwise PairOut (leaves_out c k f)
  leaves_within c h Directory e (Stays rights other) = tt
  leaves_within c h Directory e (Made perm acl) = tt
  leaves_within c h Directory e Goes = pair_short PairOut c Removed c.going ((true_of c h).once e)
  leaves_within c h File e f = tt

  other_ino : (i j : Item) (c d : Change) → i.change ≡ c → j.change ≡ d → c.ino ≢ d.ino → i.change.ino ≢ j.change.ino
  other_ino i j c d e g n p = n (sym (ap (λ (x : Change). x.ino) e) ∙ p ∙ ap (λ (x : Change). x.ino) g)

  precede : Pairwise Precedes batch.changes
  precede = all_precede batch.changes l.apart o.order

  file_pairs : Pairwise PairOut (file_outs batch)
  file_pairs =
      pair_flat Precedes PairOut (λ c. files_out c c.kind) batch.changes precede (λ c h. files_within c h c.kind)
      (λ c d i j hc hd r hi hj.
      let a = file_item c hc c.kind refl i hi in
      let b = file_item d hd d.kind refl j hj in
      differ i j (other_ino i j c d a.0 b.0 r.apart) (no_remove i a.1.way))

  move_pairs : Pairwise PairOut (move_outs batch)
  move_pairs =
      pair_flat Precedes PairOut (λ c. moves_out c c.kind c.fate) batch.changes precede (λ c h. moves_within c h c.kind refl c.fate)
      (λ c d i j hc hd r hi hj.
      let a = move_item c hc c.kind refl c.fate refl i hi in
      let b = move_item d hd d.kind refl d.fate refl j hj in
      differ i j (other_ino i j c d a.0 b.0 r.apart) (λ e. aside_removed (sym a.1.way ∙ e)))

  leave_pairs : Pairwise PairOut (leave_outs batch)
  leave_pairs =
      pair_flat (λ x y. Precedes y x) PairOut (λ c. leaves_out c c.kind c.fate) (reverse batch.changes) (pair_reverse Precedes batch.changes precede)
      (λ c h. leaves_within c (reverse_has c batch.changes h) c.kind refl c.fate)
      (λ c d i j hc hd r hi hj.
      let a = leave_item c (reverse_has c batch.changes hc) c.kind refl c.fate refl i hi in
      let b = leave_item d (reverse_has d batch.changes hd) d.kind refl d.fate refl j hj in
      let n = other_ino i j c d a.0 b.0 (λ e. r.apart (sym e)) in
      record {
        apart = λ e. absurd (n e);
        aside = λ x y. n;
        bottom = λ e. subst (λ (x : Change). x.ino ≢ j.place.parent) (sym a.0)
            (r.above (sym (ap (λ (x : Change). x.kind) b.0) ∙ b.1.kind) j.place
            (subst (λ (x : Change). Has j.place (stands_at x.fate x.going x.coming)) b.0
            (subst (λ (f : Fate). Has j.place (stands_at f j.change.going j.change.coming)) (sym b.1.fate) b.1.place)));
      })

  same_change : (i j : Item) → Has i.change batch.changes → Has j.change batch.changes → i.change.ino ≡ j.change.ino → i.change ≡ j.change
  same_change i j h g e = apart_same batch.changes l.apart i.change j.change h g e

  file_apart : (i j : Item) → FileOut i → Has j.change batch.changes → j.change.kind ≡ Directory → PairOut i j
  file_apart i j a h k =
      differ i j
      (λ e. never_kinds j.change.kind k (sym (ap (λ (x : Change). x.kind) (same_change i j a.change h e)) ∙ a.kind))
      (no_remove i a.way)

  pub out_pairs : Pairwise PairOut (outs batch)
  out_pairs =
      pair_append PairOut (file_outs batch) (move_outs batch ++ leave_outs batch) file_pairs
      (pair_append PairOut (move_outs batch) (leave_outs batch) move_pairs leave_pairs
      (λ i j hi hj.
      let a = move_out i hi in
      let b = leave_out j hj in
      differ i j (λ e. a.fate (ap (λ (x : Change). x.fate) (same_change i j a.change b.change e) ∙ b.fate)) (λ e. aside_removed (sym a.way ∙ e))))
      (λ i j hi hj.
      ⊎_elim (λ x. let b = move_out j x in file_apart i j (file_out i hi) b.change b.kind)
      (λ x. let b = leave_out j x in file_apart i j (file_out i hi) b.change b.kind)
      (Has-append_cases j (move_outs batch) (leave_outs batch) hj))

  -- ---- every name that goes is there
  abbrev pub OutAt : Change → Place → Type 0
  OutAt c place = (i : Item) × Has i (outs batch) × (i.change ≡ c) × (i.place ≡ place)

  first_at : (c : Change) (first other : Way) (places : List Place) (place : Place) → Has place places
      → (i : Item) × Has i (first_then c first other places) × (i.change ≡ c) × (i.place ≡ place)
  first_at c first other [] place h = absurd h
  first_at c first other (one ∷ places) place h =
      ⊎_elim
      (λ e. (item c first one, inl refl, refl, e))
      (λ q. (item c other place, inr (Has-map (item c other) place places q), refl, refl))
      h

  in_files : (c : Change) → Has c batch.changes → (i : Item) → Has i (files_out c c.kind) → Has i (outs batch)
  in_files c h i g = Has-append_left i (file_outs batch) (move_outs batch ++ leave_outs batch)
      (Has-flat_map (λ c. files_out c c.kind) i c batch.changes h g)

  in_moves : (c : Change) → Has c batch.changes → (i : Item) → Has i (moves_out c c.kind c.fate) → Has i (outs batch)
  in_moves c h i g = Has-append_right i (file_outs batch) (move_outs batch ++ leave_outs batch)
      (Has-append_left i (move_outs batch) (leave_outs batch) (Has-flat_map (λ c. moves_out c c.kind c.fate) i c batch.changes h g))

  in_leaves : (c : Change) → Has c batch.changes → (i : Item) → Has i (leaves_out c c.kind c.fate) → Has i (outs batch)
  in_leaves c h i g = Has-append_right i (file_outs batch) (move_outs batch ++ leave_outs batch)
      (Has-append_right i (move_outs batch) (leave_outs batch)
      (Has-flat_map (λ c. leaves_out c c.kind c.fate) i c (reverse batch.changes) (Has-reverse c batch.changes h) g))

  pub out_at : (c : Change) → Has c batch.changes → ((perm : Perm) (acl : Option Acl) → c.fate ≡ Made perm acl → ⊥)
      → (place : Place) → Has place c.going → OutAt c place
  out_at c h not_made place p =
      elim c.kind as (λ k. c.kind ≡ k → OutAt c place) [
        | File ↦ λ e.
            let f = first_at c (gone_way c.fate) Unlinked c.going place p in
            (f.0, in_files c h f.0 (subst (λ (k : Kind). Has f.0 (files_out c k)) (sym e) f.1), f.2, f.3)
        | Directory ↦ λ e.
            elim c.fate as (λ f. c.fate ≡ f → OutAt c place) [
              | Goes ↦ λ d. (
                item c Removed place,
                in_leaves c h (item c Removed place)
                    (subst (λ (k : Kind). Has (item c Removed place) (leaves_out c k c.fate)) (sym e)
                    (subst (λ (f : Fate). Has (item c Removed place) (leaves_out c Directory f)) (sym d) (Has-map (item c Removed) place c.going p))),
                refl,
                refl,
              )
              | Stays rights other ↦ λ d. (
                item c SetAside place,
                in_moves c h (item c SetAside place) (move_here c e rights other d place p),
                refl,
                refl,
              )
              | Made perm acl ↦ λ d. absurd (not_made perm acl d)
            ] refl
      ] refl
    where
      move_here : (c : Change) → c.kind ≡ Directory → (rights : RightsChange) (other : Bool) → c.fate ≡ Stays rights other → (place : Place)
          → Has place c.going → Has (item c SetAside place) (moves_out c c.kind c.fate)
      move_here c e rights other d place p =
          subst (λ (k : Kind). Has (item c SetAside place) (moves_out c k c.fate)) (sym e)
          (subst (λ (f : Fate). Has (item c SetAside place) (moves_out c Directory f)) (sym d) (Has-map (item c SetAside) place c.going p))

  -- a directory that stays and moves is set aside, and so is a file that keeps no name
  abbrev pub AsideAt : Change → Type 0
  AsideAt c = (i : Item) × Has i (outs batch) × (i.change ≡ c) × (i.way ≡ SetAside)

  pub directory_aside : (c : Change) → Has c batch.changes → c.kind ≡ Directory → (rights : RightsChange) (other : Bool)
      → c.fate ≡ Stays rights other → (place : Place) → Has place c.going → AsideAt c
  directory_aside c h e rights other d place p = (
    item c SetAside place,
    in_moves c h (item c SetAside place)
        (subst (λ (k : Kind). Has (item c SetAside place) (moves_out c k c.fate)) (sym e)
        (subst (λ (f : Fate). Has (item c SetAside place) (moves_out c Directory f)) (sym d) (Has-map (item c SetAside) place c.going p))),
    refl,
    refl,
  )

  pub file_aside : (c : Change) → Has c batch.changes → c.kind ≡ File → (rights : RightsChange) → c.fate ≡ Stays rights false → (place : Place)
      → Has place c.going → AsideAt c
  file_aside c h e rights d place p =
      let f = first_of_all c SetAside Unlinked c.going place p in
      let same : gone_way c.fate ≡ SetAside = ap gone_way d in (
        f.0,
        in_files c h f.0
            (subst (λ (k : Kind). Has f.0 (files_out c k)) (sym e)
            (subst (λ (w : Way). Has f.0 (first_then c w Unlinked c.going)) (sym same) f.1)),
        f.2,
        f.3,
      )
    where
      first_of_all : (c : Change) (first other : Way) (places : List Place) (place : Place) → Has place places
          → (i : Item) × Has i (first_then c first other places) × (i.change ≡ c) × (i.way ≡ first)
      first_of_all c first other [] place h = absurd h
      first_of_all c first other (one ∷ places) place h = (item c first one, inl refl, refl, refl)
