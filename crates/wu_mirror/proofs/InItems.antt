-- What the names are that come, and in which order.
use Rattle.std.proofs.Common.{◌≡◌, ◌≢◌, List, [], ◌∷◌, length, refl, ap, sym, ◌∙◌, subst, Bool, true, false, inl, inr, ⊎_elim, arith}
use Rattle.std.specs.Prelude.{◌⊎◌, ◌||◌, ◌&&◌, ◌==◌, Option, Some, is_some, nat_lt, cond}
use Rattle.std.proofs.lemmas.Bool.{and_parts, eqb-true}
use Rattle.wu_access.specs.declared.acls.Acl.{Acl}
use Rattle.wu_access.specs.declared.Perm.{Perm}
use Rattle.wu_tree.specs.declared.events.Kind.{Kind}
use Rattle.wu_tree.specs.declared.events.Kind.TheVariants.{Directory, File}
use Rattle.wu_tree.specs.declared.events.Node.{Node}
use Rattle.wu_tree.specs.FileSystems.{FileSystem, is_directory, is_there, node_of}
use Rattle.wu_base.proofs.Members.{Has, Has-append_cases, Has-append_left, Has-append_right, Has-flat_map, Has-map, all_has, flat_map_has, map_has}
use Rattle.wu_mirror.specs.declared.batches.Batch.{Batch}
use Rattle.wu_mirror.specs.declared.batches.Change.{Change}
use Rattle.wu_mirror.specs.declared.batches.Fate.{Fate}
use Rattle.wu_mirror.specs.declared.batches.Fate.TheVariants.{Stays, Made, Goes}
use Rattle.wu_mirror.specs.declared.batches.Place.{Place}
use Rattle.wu_mirror.specs.declared.batches.RightsChange.{RightsChange}
use Rattle.wu_mirror.specs.Acceptance.{IsElsewhere, NamesOnce, stands_at}
use Rattle.wu_mirror.specs.Faults.{is_named}
use Rattle.wu_mirror.specs.Misfits.{Fits, IsSound}
use Rattle.wu_mirror.specs.Moments.{HasFate, IsName, IsTrueOf, LeadsTo, node_with}
use Rattle.wu_mirror.specs.Plans.{first_perm, groups_change, is_empty, is_shut}
use Rattle.wu_mirror.proofs.Clearing.{kind_by}
use Rattle.wu_mirror.proofs.Depths.{facts}
use Rattle.wu_mirror.proofs.OutItems.{IsOrdered}
use Rattle.wu_mirror.proofs.Pairs.{Pairwise, pair_append, pair_flat}
use Rattle.wu_mirror.proofs.TakingRights.{apart_same}
use Rattle.wu_mirror.proofs.Ways.{Item, Precedes, Way, all_precede, come_way, directories_in, directory_ins, file_ins, files_in, first_then, ins, item}
use Rattle.wu_mirror.proofs.Ways.{none_in_itself, of_first, pair_first, pair_short, Linked, Brought, NewDirectory, NewFile}

-- by which a node is made
abbrev pub IsNew : Way → Type 0
IsNew way = ((perm : Perm) × (way ≡ NewDirectory perm)) ⊎ ((perm : Perm) × (way ≡ NewFile perm))

-- of two names that come, the one before the other
pub record PairIn (i j : Item) : Type 0 where
  pub apart : i.change.ino ≡ j.change.ino → IsElsewhere i.place j.place
  pub above : IsNew j.way → j.change.ino ≢ i.place.parent
  pub linked : i.way ≡ Linked → IsNew j.way → i.change.ino ≢ j.change.ino
  pub brought : i.way ≡ Brought → j.way ≡ Brought → i.change.ino ≢ j.change.ino
  pub made : IsNew i.way → IsNew j.way → i.change.ino ≢ j.change.ino

not_new : Linked ≡ Brought → ⊥
not_new e = cc

pub linked_new : IsNew Linked → ⊥
linked_new n = ⊎_elim (λ p. (let e = p.1 in absurd_directory p.0 e)) (λ p. absurd_file p.0 p.1) n
  where
    absurd_directory : (perm : Perm) → Linked ≡ NewDirectory perm → ⊥
    absurd_directory perm e = cc

    absurd_file : (perm : Perm) → Linked ≡ NewFile perm → ⊥
    absurd_file perm e = cc

pub brought_new : IsNew Brought → ⊥
brought_new n = ⊎_elim (λ p. absurd_directory p.0 p.1) (λ p. absurd_file p.0 p.1) n
  where
    absurd_directory : (perm : Perm) → Brought ≡ NewDirectory perm → ⊥
    absurd_directory perm e = cc

    absurd_file : (perm : Perm) → Brought ≡ NewFile perm → ⊥
    absurd_file perm e = cc

never_kinds : (k : Kind) → k ≡ Directory → k ≡ File → ⊥
never_kinds k d f = cc

module _ (batch : Batch) (before after : FileSystem) (l : LeadsTo batch before after) (o : IsOrdered batch) (f : Fits batch) where
  true_of : (c : Change) → Has c batch.changes → IsTrueOf before after c
  true_of c h = all_has (IsTrueOf before after) c batch.changes l.changes h

  comes : (c : Change) → Has c batch.changes → (place : Place) → Has place c.coming → IsName after c.ino place
  comes c h place p = all_has (IsName after c.ino) place c.coming (true_of c h).coming p

  abbrev pub shut : Change → Bool
  shut c = is_shut (groups_change batch) c

  -- a node that comes to stand somewhere is there afterwards, of its kind
  pub kind_after : (c : Change) → Has c batch.changes → (place : Place) → Has place c.coming
      → (node : Node) × (node_of after c.ino ≡ Some node) × (node.kind ≡ c.kind)
  kind_after c h place p = by c.fate (true_of c h).fate
    where
      by : (fate : Fate) → HasFate fate c.kind c.ino before after → (node : Node) × (node_of after c.ino ≡ Some node) × (node.kind ≡ c.kind)
      by (Stays rights other) k = (node_with c.kind _, k.becomes, refl)
      by (Made perm acl) k = (node_with c.kind perm, k.becomes, refl)
      by Goes k =
          let is = comes c h place p in
          let there : is_there after c.ino ≡ true = (facts after l.to place.parent place.name c.ino is.1).child in
          let none : is_there after c.ino ≡ false = ap is_some k in
          absurd cc

  -- what a name that comes is
  pub record IsIn (i : Item) : Type 0 where
    pub change : Has i.change batch.changes
    pub place : Has i.place i.change.coming
    -- no node is made in itself
    pub apart : IsNew i.way → i.change.ino ≢ i.place.parent
    pub linked : i.way ≡ Linked → i.change.kind ≡ File
    pub new_directory : (perm : Perm) → i.way ≡ NewDirectory perm → (i.change.kind ≡ Directory) × ((acl : Option Acl) × (full : Perm)
        × (i.change.fate ≡ Made full acl) × (perm ≡ first_perm (shut i.change) full acl))
    pub new_file : (perm : Perm) → i.way ≡ NewFile perm → (i.change.kind ≡ File) × ((acl : Option Acl) × (full : Perm)
        × (i.change.fate ≡ Made full acl) × (perm ≡ first_perm (shut i.change) full acl))
    pub way : (i.way ≡ Linked) ⊎ ((i.way ≡ Brought) ⊎ IsNew i.way)
    pub brought : i.way ≡ Brought → (rights : RightsChange) × (i.change.fate ≡ Stays rights false) × (i.change.going ≢ [])

  named : (c : Change) → Has c batch.changes → c.ino ≢ 1 → is_named c.kind c.fate (length c.going) (length c.coming) ≡ true
  named c h n = (all_has IsSound c batch.changes f.changes h).named n

  once_of : (c : Change) → Has c batch.changes → NamesOnce c
  once_of c h = all_has NamesOnce c batch.changes o.once h

  no_root : (c : Change) → Has c batch.changes → (place : Place) → Has place c.coming → c.ino ≢ 1
  no_root c h place p = (facts after l.to place.parent place.name c.ino (comes c h place p).1).no_root

  some_left : (places : List Place) → nat_lt 0 (length places) ≡ true → places ≢ []
  some_left [] e n = absurd cc
  some_left (place ∷ places) e n = absurd cc

  none_has : (places : List Place) (place : Place) → (length places == 0) ≡ true → Has place places → ⊥
  none_has [] place e h = h
  none_has (one ∷ places) place e h = let z : length (one ∷ places) ≡ 0 = eqb-true (length (one ∷ places)) 0 e in omega arith

  going_by : (c : Change) → Has c batch.changes → (place : Place) → Has place c.coming → (rights : RightsChange) → c.fate ≡ Stays rights false
      → c.going ≢ []
  going_by c h place p rights e =
      let n : (nat_lt 0 (length c.going) && nat_lt 0 (length c.coming)) ≡ true =
      subst (λ (x : Fate). is_named c.kind x (length c.going) (length c.coming) ≡ true) e (named c h (no_root c h place p)) in
      some_left c.going (and_parts (nat_lt 0 (length c.going)) (nat_lt 0 (length c.coming)) n).0

  -- a directory that comes is told to have no other name
  moves_with_names : (c : Change) → Has c batch.changes → (place : Place) → Has place c.coming → (rights : RightsChange) (other : Bool)
      → c.kind ≡ Directory → c.fate ≡ Stays rights other
      → (c.fate ≡ Stays rights false) × (c.going ≢ [])
  moves_with_names c h place p rights true k e =
      let n : is_named Directory (Stays rights true) (length c.going) (length c.coming) ≡ true =
      subst (λ (x : Kind). is_named x (Stays rights true) (length c.going) (length c.coming) ≡ true) k
      (subst (λ (x : Fate). is_named c.kind x (length c.going) (length c.coming) ≡ true) e (named c h (no_root c h place p))) in
      absurd (none_has c.coming place (and_parts (length c.going == 0) (length c.coming == 0) n).1 p)
  moves_with_names c h place p rights false k e = (e, going_by c h place p rights e)

  -- ---- each kind of item
  linked_in : (c : Change) → Has c batch.changes → c.kind ≡ File → (place : Place) → Has place c.coming → IsIn (item c Linked place)
  linked_in c h k place p = record {
    change = h;
    place = p;
    apart = λ n. absurd (linked_new n);
    linked = λ e. k;
    new_directory = λ perm e. absurd (linked_new (inl (perm, e)));
    new_file = λ perm e. absurd (linked_new (inr (perm, e)));
    way = inl refl;
    brought = λ e. absurd (not_new e);
  }

  brought_in : (c : Change) → Has c batch.changes → (place : Place) → Has place c.coming → (rights : RightsChange) → c.fate ≡ Stays rights false
      → c.going ≢ []
      → IsIn (item c Brought place)
  brought_in c h place p rights e g = record {
    change = h;
    place = p;
    apart = λ n. absurd (brought_new n);
    linked = λ e. absurd (not_new (sym e));
    new_directory = λ perm e. absurd (brought_new (inl (perm, e)));
    new_file = λ perm e. absurd (brought_new (inr (perm, e)));
    way = inr (inl refl);
    brought = λ x. (rights, e, g);
  }

  no_file_above : (c : Change) → Has c batch.changes → c.kind ≡ File → (at : Place) → Has at c.coming
      → (d : Change) → Has d batch.changes → (place : Place) → Has place d.coming → c.ino ≢ place.parent
  no_file_above c h k at q d g place p e =
      let is = comes d g place p in
      let above : is_directory after place.parent ≡ true = (facts after l.to place.parent place.name d.ino is.1).parent in
      let n = kind_after c h at q in
      never_kinds n.0.kind (kind_by after c.ino n.0 n.1 (subst (λ x. is_directory after x ≡ true) (sym e) above)) (n.2 ∙ k)

  new_file_in : (c : Change) → Has c batch.changes → c.kind ≡ File → (place : Place) → Has place c.coming → (full : Perm) (acl : Option Acl)
      → c.fate ≡ Made full acl
      → IsIn (item c (NewFile (first_perm (shut c) full acl)) place)
  new_file_in c h k place p full acl e = record {
    change = h;
    place = p;
    apart = λ n. no_file_above c h k place p c h place p;
    linked = λ x. absurd (let y : NewFile (first_perm (shut c) full acl) ≡ Linked = x in cc);
    new_directory = λ perm x. absurd (let y : NewFile (first_perm (shut c) full acl) ≡ NewDirectory perm = x in cc);
    new_file = λ perm x. (k, (acl, full, e, same_file (first_perm (shut c) full acl) perm x));
    way = inr (inr (inr (first_perm (shut c) full acl, refl)));
    brought = λ x. absurd (let y : NewFile (first_perm (shut c) full acl) ≡ Brought = x in cc);
  }
    where
      same_file : (a b : Perm) → NewFile a ≡ NewFile b → b ≡ a
      same_file a b e = cc

  new_directory_in : (c : Change) → Has c batch.changes → c.kind ≡ Directory → (place : Place) → Has place c.coming → (full : Perm)
      (acl : Option Acl) → c.fate ≡ Made full acl
      → IsIn (item c (NewDirectory (first_perm (shut c) full acl)) place)
  new_directory_in c h k place p full acl e = record {
    change = h;
    place = p;
    apart = λ n. none_in_itself batch.changes o.order c h k place (subst (λ (x : Fate). Has place (stands_at x c.going c.coming)) (sym e) p);
    linked = λ x. absurd (let y : NewDirectory (first_perm (shut c) full acl) ≡ Linked = x in cc);
    new_directory = λ perm x. (k, (acl, full, e, same_directory (first_perm (shut c) full acl) perm x));
    new_file = λ perm x. absurd (let y : NewDirectory (first_perm (shut c) full acl) ≡ NewFile perm = x in cc);
    way = inr (inr (inl (first_perm (shut c) full acl, refl)));
    brought = λ x. absurd (let y : NewDirectory (first_perm (shut c) full acl) ≡ Brought = x in cc);
  }
    where
      same_directory : (a b : Perm) → NewDirectory a ≡ NewDirectory b → b ≡ a
      same_directory a b e = cc

  -- ---- each name that comes
  abbrev InOf : Change → Kind → Item → Type 0
  InOf c kind i = (i.change ≡ c) × IsIn i × (c.kind ≡ kind)

  directory_item : (c : Change) → Has c batch.changes → (k : Kind) → c.kind ≡ k → (d : Fate) → c.fate ≡ d → (i : Item)
      → Has i (directories_in (shut c) c k d)
      → InOf c Directory i
  directory_item c h Directory e (Stays rights other) d i g =
      let r = map_has (item c Brought) i c.coming g in
      let w = moves_with_names c h r.0 r.1.0 rights other e d in
      (sym (ap (λ (y : Item). y.change) r.1.1), subst IsIn r.1.1 (brought_in c h r.0 r.1.0 rights w.0 w.1), e)
  directory_item c h Directory e (Made full acl) d i g =
      let r = map_has (item c (NewDirectory (first_perm (shut c) full acl))) i c.coming g in
      (sym (ap (λ (y : Item). y.change) r.1.1), subst IsIn r.1.1 (new_directory_in c h e r.0 r.1.0 full acl d), e)
  directory_item c h Directory e Goes d i g = absurd g
  directory_item c h File e d x i g = absurd g

  come_first : (c : Change) → Has c batch.changes → c.kind ≡ File → (place : Place) → Has place c.coming → (d : Fate) → c.fate ≡ d
      → IsIn (item c (come_way (shut c) d (is_empty c.going)) place)
  come_first c h k place p (Stays rights true) e = linked_in c h k place p
  come_first c h k place p (Stays rights false) e =
      let some = going_by c h place p rights e in
      elim c.going as (λ places. places ≢ [] → IsIn (item c (cond {A = Way} (false || is_empty places) Linked Brought) place)) [
        | [] ↦ λ n. absurd (n refl)
        | one ∷ places ↦ λ n. brought_in c h place p rights e some
      ] some
  come_first c h k place p (Made full acl) e = new_file_in c h k place p full acl e
  come_first c h k place p Goes e = linked_in c h k place p

  file_item : (c : Change) → Has c batch.changes → (k : Kind) → c.kind ≡ k → (i : Item) → Has i (files_in (shut c) c k) → InOf c File i
  file_item c h Directory e i g = absurd g
  file_item c h File e i g =
      let r = of_first c (come_way (shut c) c.fate (is_empty c.going)) Linked c.coming i g in
      ⊎_elim
      (λ x. (sym (ap (λ (y : Item). y.change) x), subst IsIn x (come_first c h e r.0 r.1 c.fate refl), e))
      (λ x. (sym (ap (λ (y : Item). y.change) x), subst IsIn x (linked_in c h e r.0 r.1), e))
      r.2

  abbrev IsInAs : Kind → Item → Type 0
  IsInAs kind i = IsIn i × (i.change.kind ≡ kind)

  as_in : (c : Change) (kind : Kind) (i : Item) → InOf c kind i → IsInAs kind i
  as_in c kind i a = (a.1, ap (λ (x : Change). x.kind) a.0 ∙ a.2)

  directory_in : (i : Item) → Has i (directory_ins batch) → IsInAs Directory i
  directory_in i h =
      let r = flat_map_has (λ c. directories_in (is_shut (groups_change batch) c) c c.kind c.fate) i batch.changes h in
      as_in r.0 Directory i (directory_item r.0 r.1.0 r.0.kind refl r.0.fate refl i r.1.1)

  file_in : (i : Item) → Has i (file_ins batch) → IsInAs File i
  file_in i h =
      let r = flat_map_has (λ c. files_in (is_shut (groups_change batch) c) c c.kind) i batch.changes h in
      as_in r.0 File i (file_item r.0 r.1.0 r.0.kind refl i r.1.1)

  pub each_in : (i : Item) → Has i (ins batch) → IsIn i
  each_in i h =
      ⊎_elim (λ a. (directory_in i a).0) (λ a. (file_in i a).0) (Has-append_cases i (directory_ins batch) (file_ins batch) h)

  -- ---- their order
  differ : (i j : Item) → i.change.ino ≢ j.change.ino → (IsNew j.way → j.change.ino ≢ i.place.parent) → PairIn i j
  differ i j n a = record { apart = λ e. absurd (n e); above = a; linked = λ x y. n; brought = λ x y. n; made = λ x y. n }

  other_ino : (i j : Item) (c d : Change) → i.change ≡ c → j.change ≡ d → c.ino ≢ d.ino → i.change.ino ≢ j.change.ino
  other_ino i j c d e g n p = n (sym (ap (λ (x : Change). x.ino) e) ∙ p ∙ ap (λ (x : Change). x.ino) g)

  precede : Pairwise Precedes batch.changes
  precede = all_precede batch.changes l.apart o.order

  directories_within : (c : Change) → Has c batch.changes → (k : Kind) → c.kind ≡ k → (d : Fate) → Pairwise PairIn (directories_in (shut c) c k d)
  directories_within c h Directory e (Stays rights other) =
      pair_short PairIn c Brought c.coming ((all_has IsSound c batch.changes f.changes h).come_once e)
  directories_within c h Directory e (Made full acl) =
      pair_short PairIn c (NewDirectory (first_perm (shut c) full acl)) c.coming ((all_has IsSound c batch.changes f.changes h).come_once e)
  directories_within c h Directory e Goes = tt
  directories_within c h File e d = tt

  linked_last : (c : Change) (way : Way) (p q : Place) → IsElsewhere p q → PairIn (item c way p) (item c Linked q)
  linked_last c way p q x = record {
    apart = λ e. x;
    above = λ n. absurd (linked_new n);
    linked = λ a n. absurd (linked_new n);
    brought = λ a b. absurd (not_new b);
    made = λ a n. absurd (linked_new n);
  }

  files_within : (c : Change) → Has c batch.changes → (k : Kind) → Pairwise PairIn (files_in (shut c) c k)
  files_within c h Directory = tt
  files_within c h File =
      pair_first PairIn c (come_way (shut c) c.fate (is_empty c.going)) Linked c.coming (once_of c h).1
      (λ p q x. linked_last c (come_way (shut c) c.fate (is_empty c.going)) p q x)
      (λ p q x. linked_last c Linked p q x)

  -- a directory that comes stands where it comes, and not where it went
  comes_standing : (c : Change) → Has c batch.changes → (place : Place) → Has place c.coming → Has place (stands_at c.fate c.going c.coming)
  comes_standing c h place p =
      elim c.fate as (λ d. HasFate d c.kind c.ino before after → Has place (stands_at d c.going c.coming)) [
        | Stays rights other ↦ λ k. p
        | Made perm acl ↦ λ k. p
        | Goes ↦ λ k.
            let is = comes c h place p in
            let there : is_there after c.ino ≡ true = (facts after l.to place.parent place.name c.ino is.1).child in
            let none : is_there after c.ino ≡ false = ap is_some k in
            absurd cc
      ] (true_of c h).fate

  directory_pairs : Pairwise PairIn (directory_ins batch)
  directory_pairs =
      pair_flat Precedes PairIn (λ c. directories_in (is_shut (groups_change batch) c) c c.kind c.fate) batch.changes precede
      (λ c h. directories_within c h c.kind refl c.fate)
      (λ c d i j hc hd r hi hj.
      let a = directory_item c hc c.kind refl c.fate refl i hi in
      let b = directory_item d hd d.kind refl d.fate refl j hj in
      differ i j (other_ino i j c d a.0 b.0 r.apart)
      (λ n. subst (λ (x : Change). x.ino ≢ i.place.parent) (sym b.0)
      (r.above a.2 i.place (comes_standing c hc i.place (subst (λ (x : Change). Has i.place x.coming) a.0 a.1.place)))))

  file_pairs : Pairwise PairIn (file_ins batch)
  file_pairs =
      pair_flat Precedes PairIn (λ c. files_in (is_shut (groups_change batch) c) c c.kind) batch.changes precede (λ c h. files_within c h c.kind)
      (λ c d i j hc hd r hi hj.
      let a = file_item c hc c.kind refl i hi in
      let b = as_in d File j (file_item d hd d.kind refl j hj) in
      differ i j (other_ino i j c d a.0 (file_item d hd d.kind refl j hj).0 r.apart)
      (λ n. no_file_above j.change b.0.change b.1 j.place b.0.place i.change a.1.change i.place a.1.place))

  pub in_pairs : Pairwise PairIn (ins batch)
  in_pairs =
      pair_append PairIn (directory_ins batch) (file_ins batch) directory_pairs file_pairs
      (λ i j hi hj.
      let a = directory_in i hi in
      let b = file_in j hj in
      differ i j
      (λ e. never_kinds j.change.kind
      (sym (ap (λ (x : Change). x.kind) (apart_same batch.changes l.apart i.change j.change a.0.change b.0.change e)) ∙ a.1) b.1)
      (λ n. no_file_above j.change b.0.change b.1 j.place b.0.place i.change a.0.change i.place a.0.place))

  -- ---- what is made comes
  abbrev pub MadeAt : Change → Type 0
  MadeAt c = (i : Item) × Has i (ins batch) × IsNew i.way × (i.change ≡ c)

  one_of : (places : List Place) → nat_lt 0 (length places) ≡ true → (place : Place) × Has place places
  one_of [] e = absurd cc
  one_of (place ∷ places) e = (place, inl refl)

  pub made_at : (c : Change) → Has c batch.changes → (full : Perm) (acl : Option Acl) → c.fate ≡ Made full acl → c.ino ≢ 1 → MadeAt c
  made_at c h full acl e r =
      let n : ((length c.going == 0) && nat_lt 0 (length c.coming)) ≡ true =
      subst (λ (x : Fate). is_named c.kind x (length c.going) (length c.coming) ≡ true) e (named c h r) in
      let one = one_of c.coming (and_parts (length c.going == 0) (nat_lt 0 (length c.coming)) n).1 in
      let perm : Perm = first_perm (shut c) full acl in
      elim c.kind as (λ k. c.kind ≡ k → MadeAt c) [
        | Directory ↦ λ k. (
          item c (NewDirectory perm) one.0,
          Has-append_left (item c (NewDirectory perm) one.0) (directory_ins batch) (file_ins batch)
              (Has-flat_map (λ c. directories_in (is_shut (groups_change batch) c) c c.kind c.fate) (item c (NewDirectory perm) one.0) c
              batch.changes h
              (subst (λ (x : Kind). Has (item c (NewDirectory perm) one.0) (directories_in (shut c) c x c.fate)) (sym k)
              (subst (λ (x : Fate). Has (item c (NewDirectory perm) one.0) (directories_in (shut c) c Directory x)) (sym e)
              (Has-map (item c (NewDirectory perm)) one.0 c.coming one.1)))),
          inl (perm, refl),
          refl,
        )
        | File ↦ λ k.
            let first = first_of (come_way (shut c) c.fate (is_empty c.going)) c.coming one.0 one.1 in (
              first.0,
              Has-append_right first.0 (directory_ins batch) (file_ins batch)
                  (Has-flat_map (λ c. files_in (is_shut (groups_change batch) c) c c.kind) first.0 c batch.changes h
                  (subst (λ (x : Kind). Has first.0 (files_in (shut c) c x)) (sym k) first.1)),
              inr (perm, first.3 ∙ ap (λ (x : Fate). come_way (shut c) x (is_empty c.going)) e),
              first.2,
            )
      ] refl
    where
      first_of : (way : Way) (places : List Place) (place : Place) → Has place places
          → (i : Item) × Has i (first_then c way Linked places) × (i.change ≡ c) × (i.way ≡ way)
      first_of way [] place h = absurd h
      first_of way (one ∷ places) place h = (item c way one, inl refl, refl, refl)

  -- ---- what was set aside comes back
  abbrev pub BroughtAt : Change → Type 0
  BroughtAt c = (i : Item) × Has i (ins batch) × (i.way ≡ Brought) × (i.change ≡ c)

  -- a directory that goes from its place has no other name
  pub no_other : (c : Change) → Has c batch.changes → c.ino ≢ 1 → (place : Place) → Has place c.going → c.kind ≡ Directory
      → (rights : RightsChange) (other : Bool) → c.fate ≡ Stays rights other
      → other ≡ false
  no_other c h r place p k rights false e = refl
  no_other c h r place p k rights true e =
      let n : is_named Directory (Stays rights true) (length c.going) (length c.coming) ≡ true =
      subst (λ (x : Kind). is_named x (Stays rights true) (length c.going) (length c.coming) ≡ true) k
      (subst (λ (x : Fate). is_named c.kind x (length c.going) (length c.coming) ≡ true) e (named c h r)) in
      absurd (none_has c.going place (and_parts (length c.going == 0) (length c.coming == 0) n).0 p)

  pub brought_at : (c : Change) → Has c batch.changes → c.ino ≢ 1 → (place : Place) → Has place c.going → (rights : RightsChange)
      → c.fate ≡ Stays rights false
      → BroughtAt c
  brought_at c h r place p rights e =
      let n : (nat_lt 0 (length c.going) && nat_lt 0 (length c.coming)) ≡ true =
      subst (λ (x : Fate). is_named c.kind x (length c.going) (length c.coming) ≡ true) e (named c h r) in
      let one = one_of c.coming (and_parts (nat_lt 0 (length c.going)) (nat_lt 0 (length c.coming)) n).1 in
      elim c.kind as (λ k. c.kind ≡ k → BroughtAt c) [
        | Directory ↦ λ k. (
          item c Brought one.0,
          Has-append_left (item c Brought one.0) (directory_ins batch) (file_ins batch)
              (Has-flat_map (λ c. directories_in (is_shut (groups_change batch) c) c c.kind c.fate) (item c Brought one.0) c batch.changes h
              (subst (λ (x : Kind). Has (item c Brought one.0) (directories_in (shut c) c x c.fate)) (sym k)
              (subst (λ (x : Fate). Has (item c Brought one.0) (directories_in (shut c) c Directory x)) (sym e)
              (Has-map (item c Brought) one.0 c.coming one.1)))),
          refl,
          refl,
        )
        | File ↦ λ k.
            let first = first_come_of c c.coming one.0 one.1 in
            let way : come_way (shut c) c.fate (is_empty c.going) ≡ Brought =
            ap (λ (x : Fate). come_way (shut c) x (is_empty c.going)) e ∙ ap (λ b. cond {A = Way} (false || b) Linked Brought)
            (some_go c.going place p) in (
              first.0,
              Has-append_right first.0 (directory_ins batch) (file_ins batch)
                  (Has-flat_map (λ c. files_in (is_shut (groups_change batch) c) c c.kind) first.0 c batch.changes h
                  (subst (λ (x : Kind). Has first.0 (files_in (shut c) c x)) (sym k) first.1)),
              first.3 ∙ way,
              first.2,
            )
      ] refl
    where
      some_go : (places : List Place) (place : Place) → Has place places → is_empty places ≡ false
      some_go [] place h = absurd h
      some_go (one ∷ places) place h = refl

      first_come_of : (c : Change) (places : List Place) (place : Place) → Has place places
          → (i : Item) × Has i (first_then c (come_way (shut c) c.fate (is_empty c.going)) Linked places) × (i.change ≡ c)
          × (i.way ≡ come_way (shut c) c.fate (is_empty c.going))
      first_come_of c [] place h = absurd h
      first_come_of c (one ∷ places) place h = (item c (come_way (shut c) c.fate (is_empty c.going)) one, inl refl, refl, refl)
