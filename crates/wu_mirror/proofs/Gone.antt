-- Once each event of the removal was accepted, the names that go are gone.
use Rattle.std.proofs.Common.{◌≡◌, ◌≢◌, ℕ, ◌<◌, ◌≤◌, ◌^◌, List, [], ◌∷◌, ◌++◌, length, refl, ap, sym, ◌∙◌, subst, Bool, true, false, inl, inr, ⊎_elim}
use Rattle.std.proofs.Common.{append_assoc, arith}
use Rattle.std.proofs.lemmas.List.{append-nil}
use Rattle.std.specs.Prelude.{◌⊎◌, Option, None, Some, is_some, map, decimal, reverse}
use Rattle.std.specs.List.{flat_map}
use Rattle.std.specs.Map.{lookup, remove_entry}
use Rattle.std.specs.BTreeMap.{is_at}
use Rattle.wu_access.specs.Access.{IsDecidedByCases}
use Rattle.wu_tree.specs.declared.events.Event.{Event}
use Rattle.wu_tree.specs.declared.events.Kind.{Kind}
use Rattle.wu_tree.specs.declared.events.Kind.TheVariants.{Directory, File}
use Rattle.wu_tree.specs.FileSystems.{FileSystem, Link, place_cmp, child_of, is_there, is_used}
use Rattle.wu_tree.specs.Rules.{IsTree}
use Rattle.wu_tree.specs.Steps.{IsEvent, next, refusal_of, rename_rules, renamed, with_link_moved, without_link}
use Rattle.wu_tree.proofs.EventRules.{none_applies, not_false, present}
use Rattle.wu_tree.proofs.Renames.{renamed_free}
use Rattle.wu_view.proofs.LinkPaths.{link_facts}
use mathlib.Core.List.{reverse-cons}
use Rattle.wu_base.proofs.Members.{Has, Contains-from_Has, Has-append_left, Has-append_right, all_has}
use Rattle.wu_mirror.specs.declared.batches.Batch.{Batch}
use Rattle.wu_mirror.specs.declared.batches.Change.{Change}
use Rattle.wu_mirror.specs.declared.batches.Fate.{Fate}
use Rattle.wu_mirror.specs.declared.batches.Fate.TheVariants.{Stays, Made, Goes}
use Rattle.wu_mirror.specs.declared.batches.Place.{Place}
use Rattle.wu_mirror.specs.declared.batches.RightsChange.{RightsChange}
use Rattle.wu_mirror.specs.Plans.{directory_removed, directory_set_aside, file_names_gone, first_and_others, first_gone, moved_from, removed, removed_from}
use Rattle.wu_mirror.specs.Plans.{removed_in, set_aside, taken_in, unlinked}
use Rattle.wu_mirror.specs.Moments.{AreApart, AtEach, GoesFrom, HasFate, IsName, IsTrueOf, LeadsTo}
use Rattle.wu_mirror.proofs.Lookups.{put_in, same_some, taken_itself, taken_out}
use Rattle.wu_mirror.proofs.Parts.{tree_kept}
use Rattle.wu_mirror.proofs.Taking.{Shows, one_change, truth}
use Rattle.wu_mirror.proofs.ViewGrowth.{link_found}
use Rattle.wu_mirror.proofs.Removing.{Held, decimals_apart, has-reverse, held_shows, link_gone, put_aside, up_to_the_groups}
use Rattle.wu_mirror.proofs.Coming.{NamesGone}

pub none_if : (o : Option ℕ) → ((x : ℕ) → o ≡ Some x → ⊥) → o ≡ None
none_if None f = refl
none_if (Some x) f = absurd (f x refl)

pub never : (o : Option ℕ) (x : ℕ) → o ≡ None → o ≡ Some x → ⊥
never o x n s = cc

module _ (law : IsDecidedByCases) (batch : Batch) (before after : FileSystem) (l : LeadsTo batch before after) (uid : ℕ) (u : uid ≢ 0)
    (End : FileSystem → Type 0) where
  abbrev Sees : FileSystem → Type 0
  Sees fs = Shows law batch before after l uid u End fs

  abbrev Keeps : FileSystem → Type 0
  Keeps fs = Held law batch before after l uid u End fs

  true_of : (c : Change) → Has c batch.changes → IsTrueOf before after c
  true_of c h = truth law batch before after l uid u End c h

  is_name : (c : Change) → Has c batch.changes → (place : Place) → Has place c.going → IsName before c.ino place
  is_name c h place p = all_has (IsName before c.ino) place c.going (true_of c h).going p

  goes_from : (c : Change) → Has c batch.changes → (place : Place) → Has place c.going → GoesFrom batch.changes place.parent place.name
  goes_from c h place p = (c, place, Contains-from_Has c batch.changes h, Contains-from_Has place c.going p, refl, refl)

  -- no name comes but in the closed directory
  abbrev Shrinks : FileSystem → FileSystem → Type 0
  Shrinks m to = (d : ℕ) (n : List ℕ) (x : ℕ) → d ≢ 2 → child_of to d n ≡ Some x → child_of m d n ≡ Some x

  abbrev IsGone : FileSystem → Place → Type 0
  IsGone m place = child_of m place.parent place.name ≡ None

  abbrev AllGone : FileSystem → Change → Type 0
  AllGone m c = (place : Place) → Has place c.going → IsGone m place

  stays_gone : (m to : FileSystem) → Shrinks m to → (place : Place) → place.parent ≢ 2 → IsGone m place → IsGone to place
  stays_gone m to s place apart g =
      none_if (child_of to place.parent place.name)
      (λ x e. never (child_of m place.parent place.name) x g (s place.parent place.name x apart e))

  all_stay_gone : (m to : FileSystem) → Shrinks m to → (c : Change) → Has c batch.changes → AllGone m c → AllGone to c
  all_stay_gone m to s c h g place p = stays_gone m to s place (is_name c h place p).0 (g place p)

  -- no name in the closed directory is that number
  abbrev IsFree : FileSystem → ℕ → Type 0
  IsFree m k = child_of m 2 (decimal k) ≡ None

  -- some names of a node are gone, and no other number is a name in the closed directory that was none
  record Out (m to : FileSystem) (ino : ℕ) (places : List Place) : Type 0 where
    pub held : Keeps to
    pub shrinks : Shrinks m to
    pub gone : (place : Place) → Has place places → IsGone to place
    pub free : (k : ℕ) → k < 2 ^ 32 → k ≢ ino → IsFree m k → IsFree to k

  link_out : (m : FileSystem) (place : Place) (ino : ℕ) → GoesFrom batch.changes place.parent place.name → Keeps m
      → IsTree (without_link m place.parent place.name)
      → Out m (without_link m place.parent place.name) ino (place ∷ [])
  link_out m place ino goes h tree = record {
    held = link_gone law batch before after l uid u End m place.parent place.name goes h tree;
    shrinks = λ d n x a g. taken_out m.links place.parent place.name h.tree.links_ascend d n x g;
    gone = λ p i. ⊎_elim
        (λ e. subst (λ (q : Place). IsGone (without_link m place.parent place.name) q) e
        (taken_itself m.links place.parent place.name h.tree.links_ascend))
        (λ n. absurd n) i;
    free = λ k small n f. none_if (child_of (without_link m place.parent place.name) 2 (decimal k))
        (λ x g. never (child_of m 2 (decimal k)) x f (taken_out m.links place.parent place.name h.tree.links_ascend 2 (decimal k) x g));
  }

  aside_out : (m : FileSystem) (c : Change) (h : Has c batch.changes) (place : Place) → Has place c.going → Keeps m → IsFree m c.ino
      → IsEvent (set_aside c.ino place)
      → refusal_of m (set_aside c.ino place) ≡ None
      → Out m (next m (set_aside c.ino place)) c.ino (place ∷ [])
  aside_out m c h place p held free v ok =
      let is = is_name c h place p in
      let small : c.ino < 2 ^ 32 = (true_of c h).number in
      let a = none_applies (rename_rules m place.parent place.name 2 (decimal c.ino)) ok in
      let f = present (child_of m place.parent place.name) (not_false (is_used m place.parent place.name) a.1.1.1.0) in
      let itself : f.0 ≡ c.ino = same_some f.0 c.ino (sym (held.names place.parent place.name f.0 is.0 f.1) ∙ is.1) in
      let found : child_of m place.parent place.name ≡ Some c.ino = f.1 ∙ ap Some itself in
      let to : FileSystem = with_link_moved m place.parent place.name 2 (decimal c.ino) c.ino in
      let same : to ≡ renamed m place.parent place.name 2 (decimal c.ino) =
      renamed_free m place.parent place.name 2 (decimal c.ino) c.ino found free in
      let left : List Link = remove_entry (is_at (place_cmp (place.parent, place.name))) m.links in
      let kept : Keeps to = subst Keeps (sym same) (put_aside law batch before after l uid u End m c h place is (goes_from c h place p) held v ok) in
      subst (λ (fs : FileSystem). Out m fs c.ino (place ∷ [])) same
      (record {
        held = kept;
        shrinks = λ d n x apart g. ⊎_elim (λ q. absurd (apart q.0))
            (λ q. taken_out m.links place.parent place.name held.tree.links_ascend d n x q) (put_in left 2 (decimal c.ino) c.ino d n x g);
        gone = λ one i. ⊎_elim
            (λ e. subst (λ (q : Place). IsGone to q) e
            (none_if (child_of to place.parent place.name)
            (λ x g. ⊎_elim (λ q. is.0 q.0)
            (λ q. never (lookup (is_at (place_cmp (place.parent, place.name))) left) x
            (taken_itself m.links place.parent place.name held.tree.links_ascend) q)
            (put_in left 2 (decimal c.ino) c.ino place.parent place.name x g))))
            (λ n. absurd n) i;
        free = λ k low n g. none_if (child_of to 2 (decimal k))
            (λ x e. ⊎_elim (λ q. n (decimals_apart k c.ino low small q.1))
            (λ q. never (child_of m 2 (decimal k)) x g (taken_out m.links place.parent place.name held.tree.links_ascend 2 (decimal k) x q))
            (put_in left 2 (decimal c.ino) c.ino 2 (decimal k) x e));
      })

  -- one after the other
  out_then : (m mid to : FileSystem) (c : Change) → Has c batch.changes → (place : Place) (places : List Place)
      → ((p : Place) → Has p (place ∷ places) → Has p c.going)
      → Out m mid c.ino (place ∷ [])
      → Out mid to c.ino places
      → Out m to c.ino (place ∷ places)
  out_then m mid to c h place places sub one others = record {
    held = others.held;
    shrinks = λ d n x a g. one.shrinks d n x a (others.shrinks d n x a g);
    gone = λ p i. ⊎_elim
        (λ e. stays_gone mid to others.shrinks p (is_name c h p (sub p i)).0 (one.gone p (inl e)))
        (λ q. others.gone p q) i;
    free = λ k small n f. others.free k small n (one.free k small n f);
  }

  none_out : (m : FileSystem) (ino : ℕ) → Keeps m → Out m m ino []
  none_out m ino h = record { held = h; shrinks = λ d n x a g. g; gone = λ p i. absurd i; free = λ k small n f. f }

  -- names that are removed, by unlink or rmdir
  all_unlinked : (c : Change) (h : Has c batch.changes) (places : List Place) → ((p : Place) → Has p places → Has p c.going) → (m : FileSystem)
      (rest : List Event) → Keeps m
      → ((to : FileSystem) → Out m to c.ino places → AtEach Sees End to rest)
      → AtEach Sees End m (map unlinked places ++ rest)
  all_unlinked c h [] sub m rest held k = k m (none_out m c.ino held)
  all_unlinked c h (place ∷ places) sub m rest held k = (
    held_shows law batch before after l uid u End m held,
    λ v ok.
        let one = link_out m place c.ino (goes_from c h place (sub place (inl refl))) held (tree_kept m held.tree (unlinked place) v ok) in
        all_unlinked c h places (λ p i. sub p (inr i)) (without_link m place.parent place.name) rest one.held
        (λ to others. k to (out_then m (without_link m place.parent place.name) to c h place places sub one others)),
  )

  all_removed : (c : Change) (h : Has c batch.changes) (places : List Place) → ((p : Place) → Has p places → Has p c.going) → (m : FileSystem)
      (rest : List Event) → Keeps m
      → ((to : FileSystem) → Out m to c.ino places → AtEach Sees End to rest)
      → AtEach Sees End m (map removed places ++ rest)
  all_removed c h [] sub m rest held k = k m (none_out m c.ino held)
  all_removed c h (place ∷ places) sub m rest held k = (
    held_shows law batch before after l uid u End m held,
    λ v ok.
        let one = link_out m place c.ino (goes_from c h place (sub place (inl refl))) held (tree_kept m held.tree (removed place) v ok) in
        all_removed c h places (λ p i. sub p (inr i)) (without_link m place.parent place.name) rest one.held
        (λ to others. k to (out_then m (without_link m place.parent place.name) to c h place places sub one others)),
  )

  first_out : (c : Change) (h : Has c batch.changes) (fate : Fate) (place : Place) → Has place c.going → (m : FileSystem) → Keeps m → IsFree m c.ino
      → IsEvent (first_gone c.ino fate place)
      → refusal_of m (first_gone c.ino fate place) ≡ None
      → Out m (next m (first_gone c.ino fate place)) c.ino (place ∷ [])
  first_out c h (Stays rights true) place p m held free v ok = link_out m place c.ino (goes_from c h place p) held (tree_kept m held.tree (unlinked place) v ok)
  first_out c h (Stays rights false) place p m held free v ok = aside_out m c h place p held free v ok
  first_out c h (Made perm acl) place p m held free v ok = link_out m place c.ino (goes_from c h place p) held (tree_kept m held.tree (unlinked place) v ok)
  first_out c h Goes place p m held free v ok = link_out m place c.ino (goes_from c h place p) held (tree_kept m held.tree (unlinked place) v ok)

  file_out : (c : Change) (h : Has c batch.changes) (places : List Place) → ((p : Place) → Has p places → Has p c.going) → (m : FileSystem)
      (rest : List Event) → Keeps m → IsFree m c.ino
      → ((to : FileSystem) → Out m to c.ino places → AtEach Sees End to rest)
      → AtEach Sees End m (first_and_others (first_gone c.ino c.fate) unlinked places ++ rest)
  file_out c h [] sub m rest held free k = k m (none_out m c.ino held)
  file_out c h (place ∷ places) sub m rest held free k = (
    held_shows law batch before after l uid u End m held,
    λ v ok.
        let mid : FileSystem = next m (first_gone c.ino c.fate place) in
        let one = first_out c h c.fate place (sub place (inl refl)) m held free v ok in
        all_unlinked c h places (λ p i. sub p (inr i)) mid rest one.held
        (λ to others. k to (out_then m mid to c h place places sub one others)),
  )

  directory_out : (c : Change) (h : Has c batch.changes) (places : List Place) → length places ≤ 1 → ((p : Place) → Has p places → Has p c.going)
      → (m : FileSystem) (rest : List Event) → Keeps m → IsFree m c.ino
      → ((to : FileSystem) → Out m to c.ino places → AtEach Sees End to rest)
      → AtEach Sees End m (map (set_aside c.ino) places ++ rest)
  directory_out c h [] one sub m rest held free k = k m (none_out m c.ino held)
  directory_out c h (place ∷ []) one sub m rest held free k = (
    held_shows law batch before after l uid u End m held,
    λ v ok. k (next m (set_aside c.ino place)) (aside_out m c h place (sub place (inl refl)) held free v ok),
  )
  directory_out c h (place ∷ next_one ∷ places) one sub m rest held free k = absurd (omega arith)

  -- ---- a pass over the changes
  module _ (f : Change → List Event) (Acts Waits : Change → Type 0) (step : (c : Change) → Has c batch.changes → Acts c → (m : FileSystem)
      (rest : List Event) → Keeps m → (Waits c → IsFree m c.ino) → ((to : FileSystem) → Out m to c.ino c.going → AtEach Sees End to rest)
      → AtEach Sees End m (f c ++ rest))
      (idle : (c : Change) → Acts c ⊎ ((Acts c → ⊥) × (f c ≡ []))) (Later : Change → Type 0)
      (later : (c d : Change) → Acts c → Later d → c ≡ d → ⊥) where
    record Pass (left : List Change) (m : FileSystem) : Type 0 where
      pub held : Keeps m
      pub free : (d : Change) → Has d batch.changes → (Has d left × Waits d) ⊎ Later d → IsFree m d.ino
      pub gone : (d : Change) → Has d batch.changes → Acts d → Has d left ⊎ AllGone m d

    -- those that wait are apart from those before them
    abbrev Ordered : List Change → Type 0
    Ordered [] = Unit {0}
    Ordered (c ∷ left) = ((d : Change) → Has d left → Waits d → d.ino ≢ c.ino) × Ordered left

    passed : (c : Change) → Has c batch.changes → Acts c → (left : List Change) → ((d : Change) → Has d left → Waits d → d.ino ≢ c.ino)
        → (m to : FileSystem)
        → Pass (c ∷ left) m
        → Out m to c.ino c.going
        → Pass left to
    passed c h a left apart m to p out = record {
      held = out.held;
      free = λ d g w. ⊎_elim
          (λ q. out.free d.ino (true_of d g).number (apart d q.0 q.1) (p.free d g (inl (inr q.0, q.1))))
          (λ q. out.free d.ino (true_of d g).number
          (λ e. later c d a q (one_change law batch before after l uid u End c d h g (sym e))) (p.free d g (inr q)))
          w;
      gone = λ d g b. ⊎_elim
          (λ q. ⊎_elim (λ e. inr (subst (λ (x : Change). AllGone to x) e out.gone)) (λ r. inl r) q)
          (λ q. inr (all_stay_gone m to out.shrinks d g q))
          (p.gone d g b);
    }

    idled : (c : Change) → (Acts c → ⊥) → (left : List Change) (m : FileSystem) → Pass (c ∷ left) m → Pass left m
    idled c n left m p = record {
      held = p.held;
      free = λ d g w. p.free d g (⊎_elim (λ q. inl (inr q.0, q.1)) (λ q. inr q) w);
      gone = λ d g b. ⊎_elim
          (λ q. ⊎_elim (λ e. absurd (n (subst Acts (sym e) b))) (λ r. inl r) q) (λ q. inr q) (p.gone d g b);
    }

    pass : (left : List Change) → Ordered left → ((c : Change) → Has c left → Has c batch.changes) → (m : FileSystem) (rest : List Event)
        → Pass left m
        → ((to : FileSystem) → Pass [] to → Shrinks m to → AtEach Sees End to rest)
        → AtEach Sees End m (flat_map f left ++ rest)
    pass [] o sub m rest p k = k m p (λ d n x a g. g)
    pass (c ∷ left) o sub m rest p k =
        subst (λ (events : List Event). AtEach Sees End m events) (sym (append_assoc (f c) (flat_map f left) rest))
        (⊎_elim
        (λ a. step c (sub c (inl refl)) a m (flat_map f left ++ rest) p.held (λ w. p.free c (sub c (inl refl)) (inl (inl refl, w)))
        (λ to out. pass left o.1 (λ d i. sub d (inr i)) to rest (passed c (sub c (inl refl)) a left o.0 m to p out)
        (λ end q s. k end q (λ d n x apart g. out.shrinks d n x apart (s d n x apart g)))))
        (λ n. subst (λ (events : List Event). AtEach Sees End m (events ++ (flat_map f left ++ rest))) (sym n.1)
        (pass left o.1 (λ d i. sub d (inr i)) m rest (idled c n.0 left m p) k))
        (idle c))

  -- ---- the three passes
  kinds : (k : Kind) → (k ≡ Directory) ⊎ (k ≡ File)
  kinds Directory = inl refl
  kinds File = inr refl

  never_both : (k : Kind) → k ≡ Directory → k ≡ File → ⊥
  never_both k d f = cc

  fates : (f : Fate) → ((rights : RightsChange) × (other : Bool) × (f ≡ Stays rights other)) ⊎ ((f ≡ Goes) ⊎ ((f ≡ Goes → ⊥)
      × ((rights : RightsChange) (other : Bool) → f ≡ Stays rights other → ⊥)))
  fates (Stays rights other) = inl (rights, other, refl)
  fates (Made perm acl) = inr (inr ((λ e. cc), (λ rights other e. cc)))
  fates Goes = inr (inl refl)

  abbrev Moves : Change → Type 0
  Moves c = (c.kind ≡ Directory) × ((rights : RightsChange) × (other : Bool) × (c.fate ≡ Stays rights other))

  abbrev Leaves : Change → Type 0
  Leaves c = (c.kind ≡ Directory) × (c.fate ≡ Goes)

  file_step : (c : Change) → Has c batch.changes → c.kind ≡ File → (m : FileSystem) (rest : List Event) → Keeps m → (Unit {0} → IsFree m c.ino)
      → ((to : FileSystem) → Out m to c.ino c.going → AtEach Sees End to rest)
      → AtEach Sees End m (file_names_gone c.kind c ++ rest)
  file_step c h e m rest held free k =
      subst (λ (kind : Kind). AtEach Sees End m (file_names_gone kind c ++ rest)) (sym e)
      (file_out c h c.going (λ p i. i) m rest held (free tt) k)

  file_idle : (c : Change) → (c.kind ≡ File) ⊎ ((c.kind ≡ File → ⊥) × (file_names_gone c.kind c ≡ []))
  file_idle c =
      ⊎_elim (λ d. inr (never_both c.kind d, ap (λ (kind : Kind). file_names_gone kind c) d)) (λ f. inl f) (kinds c.kind)

  move_step : (c : Change) → Has c batch.changes → Moves c → (m : FileSystem) (rest : List Event) → Keeps m
      → (c.kind ≡ Directory → IsFree m c.ino)
      → ((to : FileSystem) → Out m to c.ino c.going → AtEach Sees End to rest)
      → AtEach Sees End m (directory_set_aside c.kind c ++ rest)
  move_step c h a m rest held free k =
      subst (λ (kind : Kind). AtEach Sees End m (directory_set_aside kind c ++ rest)) (sym a.0)
      (subst (λ (fate : Fate). AtEach Sees End m (moved_from c.ino fate c.going ++ rest)) (sym a.1.2)
      (directory_out c h c.going ((true_of c h).once a.0) (λ p i. i) m rest held (free a.0) k))

  move_idle : (c : Change) → Moves c ⊎ ((Moves c → ⊥) × (directory_set_aside c.kind c ≡ []))
  move_idle c =
      ⊎_elim
      (λ d. ⊎_elim
      (λ s. inl (d, s))
      (λ r. inr (⊎_elim
      (λ g. (
        (λ a. let e : Goes ≡ Stays a.1.0 a.1.1 = sym g ∙ a.1.2 in cc),
        ap (λ (kind : Kind). directory_set_aside kind c) d ∙ ap (λ (fate : Fate). moved_from c.ino fate c.going) g,
      ))
      (λ n. ((λ a. n.1 a.1.0 a.1.1 a.1.2), ap (λ (kind : Kind). directory_set_aside kind c) d ∙ unmoved c.ino c.going c.fate n.1))
      r))
      (fates c.fate))
      (λ f. inr ((λ a. never_both c.kind a.0 f), ap (λ (kind : Kind). directory_set_aside kind c) f))
      (kinds c.kind)
    where
      unmoved : (ino : ℕ) (going : List Place) (f : Fate) → ((rights : RightsChange) (other : Bool) → f ≡ Stays rights other → ⊥)
          → moved_from ino f going ≡ []
      unmoved ino going (Stays rights other) n = absurd (n rights other refl)
      unmoved ino going (Made perm acl) n = refl
      unmoved ino going Goes n = refl

  leave_step : (c : Change) → Has c batch.changes → Leaves c → (m : FileSystem) (rest : List Event) → Keeps m → (⊥ → IsFree m c.ino)
      → ((to : FileSystem) → Out m to c.ino c.going → AtEach Sees End to rest)
      → AtEach Sees End m (directory_removed c.kind c ++ rest)
  leave_step c h a m rest held free k =
      subst (λ (kind : Kind). AtEach Sees End m (directory_removed kind c ++ rest)) (sym a.0)
      (subst (λ (fate : Fate). AtEach Sees End m (removed_from fate c.going ++ rest)) (sym a.1)
      (all_removed c h c.going (λ p i. i) m rest held k))

  leave_idle : (c : Change) → Leaves c ⊎ ((Leaves c → ⊥) × (directory_removed c.kind c ≡ []))
  leave_idle c =
      ⊎_elim
      (λ d. ⊎_elim
      (λ s. inr (
        (λ a. let e : Stays s.0 s.1 ≡ Goes = sym s.2 ∙ a.1 in cc),
        ap (λ (kind : Kind). directory_removed kind c) d ∙ ap (λ (fate : Fate). removed_from fate c.going) s.2,
      ))
      (λ r. ⊎_elim
      (λ g. inl (d, g))
      (λ n. inr ((λ a. n.0 a.1), ap (λ (kind : Kind). directory_removed kind c) d ∙ unremoved c.going c.fate n.0))
      r)
      (fates c.fate))
      (λ f. inr ((λ a. never_both c.kind a.0 f), ap (λ (kind : Kind). directory_removed kind c) f))
      (kinds c.kind)
    where
      unremoved : (going : List Place) (f : Fate) → (f ≡ Goes → ⊥) → removed_from f going ≡ []
      unremoved going (Stays rights other) n = refl
      unremoved going (Made perm acl) n = refl
      unremoved going Goes n = absurd (n refl)

  ordered_apart : (left : List Change) → AreApart left
      → Ordered (λ c. file_names_gone c.kind c) (λ c. c.kind ≡ File) (λ c. Unit {0}) file_step file_idle (λ c. c.kind ≡ Directory)
      (λ c d a b e. never_both d.kind b (ap (λ (x : Change). x.kind) (sym e) ∙ a)) left
  ordered_apart [] a = tt
  ordered_apart (c ∷ left) a = ((λ d i w. all_has (λ (o : Change). o.ino ≢ c.ino) d left a.0 i), ordered_apart left a.1)

  ordered_moves : (left : List Change) → AreApart left
      → Ordered (λ c. directory_set_aside c.kind c) Moves (λ c. c.kind ≡ Directory) move_step move_idle (λ c. ⊥) (λ c d a b e. b) left
  ordered_moves [] a = tt
  ordered_moves (c ∷ left) a = ((λ d i w. all_has (λ (o : Change). o.ino ≢ c.ino) d left a.0 i), ordered_moves left a.1)

  ordered_leaves : (left : List Change)
      → Ordered (λ c. directory_removed c.kind c) Leaves (λ c. ⊥) leave_step leave_idle (λ c. ⊥) (λ c d a b e. b) left
  ordered_leaves [] = tt
  ordered_leaves (c ∷ left) = ((λ d i w. absurd w), ordered_leaves left)

  reverse_has : (c : Change) (changes : List Change) → Has c changes → Has c (reverse changes)
  reverse_has c [] h = absurd h
  reverse_has c (d ∷ changes) h =
      subst (λ (cs : List Change). Has c cs) (sym (reverse-cons d changes))
      (⊎_elim (λ e. Has-append_right c (reverse changes) (d ∷ []) (inl e))
      (λ q. Has-append_left c (reverse changes) (d ∷ []) (reverse_has c changes q)) h)

  -- a node that is made has no name before
  unnamed : (c : Change) (h : Has c batch.changes) (place : Place) → Has place c.going → (fate : Fate) → HasFate fate c.kind c.ino before after
      → (perm_free : (fate ≡ Goes → ⊥)) → ((rights : RightsChange) (other : Bool) → fate ≡ Stays rights other → ⊥)
      → ⊥
  unnamed c h place p (Stays rights other) f g s = s rights other refl
  unnamed c h place p (Made perm acl) f g s =
      let is = is_name c h place p in
      let facts = link_facts before l.from ((place.parent, place.name), c.ino) (link_found before place.parent place.name c.ino is.1) in
      let none : is_there before c.ino ≡ false = ap is_some f.was in
      let there : is_there before c.ino ≡ true = facts.child in
      cc
  unnamed c h place p Goes f g s = g refl

  names_gone : (m : FileSystem) → ((c : Change) → Has c batch.changes → c.kind ≡ File → AllGone m c)
      → ((c : Change) → Has c batch.changes → Moves c → AllGone m c)
      → ((c : Change) → Has c batch.changes → Leaves c → AllGone m c)
      → NamesGone law batch before after l uid u End m
  names_gone m files moves leaves c place h p =
      ⊎_elim
      (λ d. ⊎_elim
      (λ s. moves c h (d, s) place p)
      (λ r. ⊎_elim
      (λ g. leaves c h (d, g) place p)
      (λ n. absurd (unnamed c h place p c.fate (true_of c h).fate n.0 n.1))
      r)
      (fates c.fate))
      (λ f. files c h f place p)
      (kinds c.kind)

  gone_from : (m : FileSystem) (c : Change) → Has c [] ⊎ AllGone m c → AllGone m c
  gone_from m c g = ⊎_elim (λ n. absurd n) (λ a. a) g

  -- up to the middle, where all names that go are gone
  pub up_to_the_middle : ((to : FileSystem) → Keeps to → NamesGone law batch before after l uid u End to → End to)
      → AtEach Sees End before (taken_in batch ++ removed_in batch)
  up_to_the_middle k =
      let files : List Event = flat_map (λ change. file_names_gone change.kind change) batch.changes in
      let moves : List Event = flat_map (λ change. directory_set_aside change.kind change) batch.changes in
      let leaves : List Event = flat_map (λ change. directory_removed change.kind change) (reverse batch.changes) in
      up_to_the_groups law batch before after l uid u End (removed_in batch)
      (λ m held links.
      let free : (n : ℕ) → IsFree m n = (λ (n : ℕ). ap (λ (ls : List Link). lookup (is_at (place_cmp (2, decimal n))) ls) links ∙ l.no_number n) in
      subst (λ (events : List Event). AtEach Sees End m events)
      (sym (append_assoc files moves leaves))
      (pass (λ c. file_names_gone c.kind c) (λ c. c.kind ≡ File) (λ c. Unit {0}) file_step file_idle (λ c. c.kind ≡ Directory)
      (λ c d a b e. never_both d.kind b (ap (λ (x : Change). x.kind) (sym e) ∙ a)) batch.changes (ordered_apart batch.changes l.apart) (λ c h. h) m
      (moves ++ leaves) (record { held = held; free = λ d g w. free d.ino; gone = λ d g a. inl g })
      (λ one p s.
      pass (λ c. directory_set_aside c.kind c) Moves (λ c. c.kind ≡ Directory) move_step move_idle (λ c. ⊥) (λ c d a b e. b) batch.changes
      (ordered_moves batch.changes l.apart) (λ c h. h) one leaves
      (record {
        held = p.held;
        free = λ d g w. ⊎_elim (λ q. p.free d g (inr q.1)) (λ q. absurd q) w;
        gone = λ d g a. inl g;
      })
      (λ two q t.
      subst (λ (events : List Event). AtEach Sees End two events) (append-nil leaves)
      (pass (λ c. directory_removed c.kind c) Leaves (λ c. ⊥) leave_step leave_idle (λ c. ⊥) (λ c d a b e. b) (reverse batch.changes)
      (ordered_leaves (reverse batch.changes)) (λ c h. has-reverse law batch before after l uid u End c batch.changes h) two []
      (record {
        held = q.held;
        free = λ d g w. ⊎_elim (λ x. absurd x.1) (λ x. absurd x) w;
        gone = λ d g a. inl (reverse_has d batch.changes g);
      })
      (λ three r v. k three r.held
      (names_gone three
      (λ c h f. all_stay_gone two three v c h (all_stay_gone one two t c h (gone_from one c (p.gone c h f))))
      (λ c h a. all_stay_gone two three v c h (gone_from two c (q.gone c h a)))
      (λ c h a. gone_from three c (r.gone c h a)))))))))
