-- The names of a batch that go and come, one after the other, and by which event each does.
use Rattle.std.proofs.Common.{◌≡◌, ◌≢◌, ℕ, ◌≤◌, List, [], ◌∷◌, ◌++◌, length, refl, ap, sym, ◌∙◌, subst, Bool, true, false, cond, inl, inr, ⊎_elim, append_assoc, arith}
use Rattle.std.specs.Prelude.{◌⊎◌, ◌||◌, ◌==◌, map, reverse}
use Rattle.std.specs.List.{flat_map}
use Rattle.std.proofs.lemmas.Bool.{eq-eqb}
use Rattle.wu_access.specs.declared.Perm.{Perm}
use Rattle.wu_tree.specs.declared.events.Event.{Event}
use Rattle.wu_tree.specs.declared.events.Kind.{Kind}
use Rattle.wu_tree.specs.declared.events.Kind.TheVariants.{Directory, File}
use Rattle.wu_base.proofs.Members.{Has, all_has, has_any, map_has}
use Rattle.wu_mirror.specs.declared.batches.Batch.{Batch}
use Rattle.wu_mirror.specs.declared.batches.Change.{Change}
use Rattle.wu_mirror.specs.declared.batches.Fate.{Fate}
use Rattle.wu_mirror.specs.declared.batches.Fate.TheVariants.{Stays, Made, Goes}
use Rattle.wu_mirror.specs.declared.batches.Place.{Place}
use Rattle.wu_mirror.specs.Acceptance.{AreInOrder, AreOnce, IsElsewhere, stands_at}
use Rattle.wu_mirror.specs.Moments.{AreApart, is_told}
use Rattle.wu_mirror.specs.Plans.{brought_back, directory_by_kind, directory_from, directory_made, directory_placed, directory_removed, directory_set_aside}
use Rattle.wu_mirror.specs.Plans.{file_by_kind, file_made, file_names_gone, file_placed, first_and_others, first_come, first_gone, first_perm, groups_change, is_empty}
use Rattle.wu_mirror.specs.Plans.{is_shut, linked, moved_from, placed_in, removed, removed_from, removed_in, set_aside, unlinked}
use Rattle.wu_mirror.proofs.Pairs.{Pairwise}

pub data Way : Type 0 where
  Unlinked : Way
  Removed : Way
  SetAside : Way
  Linked : Way
  Brought : Way
  NewDirectory : Perm → Way
  NewFile : Perm → Way

pub record Item : Type 0 where
  pub change : Change
  pub place : Place
  pub way : Way

abbrev pub item : Change → Way → Place → Item
item change way place = record { change = change; place = place; way = way }

abbrev pub event_by : Way → ℕ → Place → Event
event_by Unlinked ino place = unlinked place
event_by Removed ino place = removed place
event_by SetAside ino place = set_aside ino place
event_by Linked ino place = linked ino place
event_by Brought ino place = brought_back ino place
event_by (NewDirectory perm) ino place = directory_made ino perm place
event_by (NewFile perm) ino place = file_made ino perm place

abbrev pub event_of : Item → Event
event_of i = event_by i.way i.change.ino i.place

-- ---- the items
abbrev pub items_by : Change → Way → List Place → List Item
items_by c way places = map (item c way) places

abbrev pub first_then : Change → Way → Way → List Place → List Item
first_then c first other [] = []
first_then c first other (place ∷ places) = item c first place ∷ items_by c other places

abbrev pub gone_way : Fate → Way
gone_way (Stays rights true) = Unlinked
gone_way (Stays rights false) = SetAside
gone_way (Made perm acl) = Unlinked
gone_way Goes = Unlinked

abbrev pub files_out : Change → Kind → List Item
files_out c Directory = []
files_out c File = first_then c (gone_way c.fate) Unlinked c.going

abbrev pub moves_out : Change → Kind → Fate → List Item
moves_out c Directory (Stays rights other) = items_by c SetAside c.going
moves_out c Directory (Made perm acl) = []
moves_out c Directory Goes = []
moves_out c File fate = []

abbrev pub leaves_out : Change → Kind → Fate → List Item
leaves_out c Directory (Stays rights other) = []
leaves_out c Directory (Made perm acl) = []
leaves_out c Directory Goes = items_by c Removed c.going
leaves_out c File fate = []

abbrev pub come_way : Bool → Fate → Bool → Way
come_way shut (Stays rights other) none_goes = cond {A = Way} (other || none_goes) Linked Brought
come_way shut (Made perm acl) none_goes = NewFile (first_perm shut perm acl)
come_way shut Goes none_goes = Linked

abbrev pub directories_in : Bool → Change → Kind → Fate → List Item
directories_in shut c Directory (Stays rights other) = items_by c Brought c.coming
directories_in shut c Directory (Made perm acl) = items_by c (NewDirectory (first_perm shut perm acl)) c.coming
directories_in shut c Directory Goes = []
directories_in shut c File fate = []

abbrev pub files_in : Bool → Change → Kind → List Item
files_in shut c Directory = []
files_in shut c File = first_then c (come_way shut c.fate (is_empty c.going)) Linked c.coming

module _ (batch : Batch) where
  abbrev pub file_outs : List Item
  file_outs = flat_map (λ c. files_out c c.kind) batch.changes

  abbrev pub move_outs : List Item
  move_outs = flat_map (λ c. moves_out c c.kind c.fate) batch.changes

  abbrev pub leave_outs : List Item
  leave_outs = flat_map (λ c. leaves_out c c.kind c.fate) (reverse batch.changes)

  abbrev pub outs : List Item
  outs = file_outs ++ (move_outs ++ leave_outs)

  abbrev pub directory_ins : List Item
  directory_ins = flat_map (λ c. directories_in (is_shut (groups_change batch) c) c c.kind c.fate) batch.changes

  abbrev pub file_ins : List Item
  file_ins = flat_map (λ c. files_in (is_shut (groups_change batch) c) c c.kind) batch.changes

  abbrev pub ins : List Item
  ins = directory_ins ++ file_ins

-- ---- their events are those of the plan
events_append : (xs ys : List Item) → map event_of (xs ++ ys) ≡ map event_of xs ++ map event_of ys
events_append [] ys = refl
events_append (x ∷ xs) ys = ap (λ (l : List Event). event_of x ∷ l) (events_append xs ys)

events_by : (c : Change) (way : Way) (places : List Place) → map event_of (items_by c way places) ≡ map (event_by way c.ino) places
events_by c way [] = refl
events_by c way (place ∷ places) = ap (λ (l : List Event). event_by way c.ino place ∷ l) (events_by c way places)

flat_events : (f : Change → List Event) (g : Change → List Item) → ((c : Change) → f c ≡ map event_of (g c)) → (cs : List Change)
    → flat_map f cs ≡ map event_of (flat_map g cs)
flat_events f g e [] = refl
flat_events f g e (c ∷ cs) =
    ap (λ (l : List Event). l ++ flat_map f cs) (e c)
    ∙ ap (λ (l : List Event). map event_of (g c) ++ l) (flat_events f g e cs)
    ∙ sym (events_append (g c) (flat_map g cs))

first_events : (c : Change) (first : Way) (other : Way) (one : Place → Event) (more : Place → Event)
    → ((place : Place) → one place ≡ event_by first c.ino place) → ((places : List Place) → map more places ≡ map (event_by other c.ino) places)
    → (places : List Place)
    → first_and_others one more places ≡ map event_of (first_then c first other places)
first_events c first other one more e f [] = refl
first_events c first other one more e f (place ∷ places) =
    ap (λ (x : Event). x ∷ map more places) (e place)
    ∙ ap (λ (l : List Event). event_by first c.ino place ∷ l) (f places ∙ sym (events_by c other places))

file_out_events : (c : Change) → file_names_gone c.kind c ≡ map event_of (files_out c c.kind)
file_out_events c =
    elim c.kind as (λ k. file_names_gone k c ≡ map event_of (files_out c k)) [
      | Directory ↦ refl
      | File ↦ first_events c (gone_way c.fate) Unlinked (first_gone c.ino c.fate) unlinked (first c.ino c.fate) (λ places. refl) c.going
    ]
  where
    first : (ino : ℕ) (fate : Fate) (place : Place) → first_gone ino fate place ≡ event_by (gone_way fate) ino place
    first ino (Stays rights true) place = refl
    first ino (Stays rights false) place = refl
    first ino (Made perm acl) place = refl
    first ino Goes place = refl

move_out_events : (c : Change) → directory_set_aside c.kind c ≡ map event_of (moves_out c c.kind c.fate)
move_out_events c =
    elim c.kind as (λ k. directory_set_aside k c ≡ map event_of (moves_out c k c.fate)) [
      | Directory ↦ elim c.fate as (λ f. moved_from c.ino f c.going ≡ map event_of (moves_out c Directory f)) [
        | Stays rights other ↦ sym (events_by c SetAside c.going)
        | Made perm acl ↦ refl
        | Goes ↦ refl
      ]
      | File ↦ refl
    ]

leave_out_events : (c : Change) → directory_removed c.kind c ≡ map event_of (leaves_out c c.kind c.fate)
leave_out_events c =
    elim c.kind as (λ k. directory_removed k c ≡ map event_of (leaves_out c k c.fate)) [
      | Directory ↦ elim c.fate as (λ f. removed_from f c.going ≡ map event_of (leaves_out c Directory f)) [
        | Stays rights other ↦ refl
        | Made perm acl ↦ refl
        | Goes ↦ sym (events_by c Removed c.going)
      ]
      | File ↦ refl
    ]

directory_in_events : (shut : Bool) (c : Change) → directory_by_kind c.kind shut c ≡ map event_of (directories_in shut c c.kind c.fate)
directory_in_events shut c =
    elim c.kind as (λ k. directory_by_kind k shut c ≡ map event_of (directories_in shut c k c.fate)) [
      | Directory ↦ elim c.fate as (λ f. directory_from c.ino shut f c.coming ≡ map event_of (directories_in shut c Directory f)) [
        | Stays rights other ↦ sym (events_by c Brought c.coming)
        | Made perm acl ↦ sym (events_by c (NewDirectory (first_perm shut perm acl)) c.coming)
        | Goes ↦ refl
      ]
      | File ↦ refl
    ]

file_in_events : (shut : Bool) (c : Change) → file_by_kind c.kind shut c ≡ map event_of (files_in shut c c.kind)
file_in_events shut c =
    elim c.kind as (λ k. file_by_kind k shut c ≡ map event_of (files_in shut c k)) [
      | Directory ↦ refl
      | File ↦ first_events c (come_way shut c.fate (is_empty c.going)) Linked (first_come c.ino shut c.fate (is_empty c.going)) (linked c.ino)
          (first c.ino c.fate (is_empty c.going)) (λ places. refl) c.coming
    ]
  where
    by_bool : (ino : ℕ) (place : Place) (b : Bool)
        → cond b (linked ino place) (brought_back ino place) ≡ event_by (cond {A = Way} b Linked Brought) ino place
    by_bool ino place true = refl
    by_bool ino place false = refl

    first : (ino : ℕ) (fate : Fate) (none : Bool) (place : Place) → first_come ino shut fate none place ≡ event_by (come_way shut fate none) ino place
    first ino (Stays rights other) none place = by_bool ino place (other || none)
    first ino (Made perm acl) none place = refl
    first ino Goes none place = refl

module _ (batch : Batch) where
  pub out_events : removed_in batch ≡ map event_of (outs batch)
  out_events =
      let files : List Event = flat_map (λ change. file_names_gone change.kind change) batch.changes in
      let moves : List Event = flat_map (λ change. directory_set_aside change.kind change) batch.changes in
      let leaves : List Event = flat_map (λ change. directory_removed change.kind change) (reverse batch.changes) in
      let one : List Event = map event_of (file_outs batch) in
      let two : List Event = map event_of (move_outs batch) in
      append_assoc files moves leaves
      ∙ ap (λ (l : List Event). l ++ (moves ++ leaves))
      (flat_events (λ c. file_names_gone c.kind c) (λ c. files_out c c.kind) file_out_events batch.changes)
      ∙ ap (λ (l : List Event). one ++ (l ++ leaves))
      (flat_events (λ c. directory_set_aside c.kind c) (λ c. moves_out c c.kind c.fate) move_out_events batch.changes)
      ∙ ap (λ (l : List Event). one ++ (two ++ l))
      (flat_events (λ c. directory_removed c.kind c) (λ c. leaves_out c c.kind c.fate) leave_out_events (reverse batch.changes))
      ∙ ap (λ (l : List Event). one ++ l) (sym (events_append (move_outs batch) (leave_outs batch)))
      ∙ sym (events_append (file_outs batch) (move_outs batch ++ leave_outs batch))

  pub in_events : placed_in batch ≡ map event_of (ins batch)
  in_events =
      ap (λ (l : List Event). l ++ flat_map (file_placed (groups_change batch)) batch.changes)
      (flat_events (directory_placed (groups_change batch)) (λ c. directories_in (is_shut (groups_change batch) c) c c.kind c.fate)
      (λ c. directory_in_events (is_shut (groups_change batch) c) c) batch.changes)
      ∙ ap (λ (l : List Event). map event_of (directory_ins batch) ++ l)
      (flat_events (file_placed (groups_change batch)) (λ c. files_in (is_shut (groups_change batch) c) c c.kind)
      (λ c. file_in_events (is_shut (groups_change batch) c) c) batch.changes)
      ∙ sym (events_append (directory_ins batch) (file_ins batch))

-- ---- what the items of a change are
pub of_first : (c : Change) (first other : Way) (places : List Place) (i : Item) → Has i (first_then c first other places)
    → (place : Place) × Has place places × ((item c first place ≡ i) ⊎ (item c other place ≡ i))
of_first c first other [] i h = absurd h
of_first c first other (place ∷ places) i h =
    ⊎_elim
    (λ e. (place, inl refl, inl e))
    (λ q. let r = map_has (item c other) i places q in (r.0, inr r.1.0, inr r.1.1))
    h

-- items of a change at places that are there once
module _ (P : Item → Item → Type 0) where
  pub pair_short : (c : Change) (way : Way) (places : List Place) → length places ≤ 1 → Pairwise P (items_by c way places)
  pair_short c way [] l = tt
  pair_short c way (place ∷ []) l = ((λ y h. absurd h), tt)
  pair_short c way (place ∷ other ∷ places) l = absurd (omega arith)

  pair_once : (c : Change) (way : Way) (places : List Place) → AreOnce places
      → ((p q : Place) → IsElsewhere p q → P (item c way p) (item c way q))
      → Pairwise P (items_by c way places)
  pair_once c way [] a f = tt
  pair_once c way (place ∷ places) a f = (
    λ i h. (let r = map_has (item c way) i places h in
        subst (λ (x : Item). P (item c way place) x) r.1.1 (f place r.0 (all_has (IsElsewhere place) r.0 places a.0 r.1.0))),
    pair_once c way places a.1 f,
  )

  pub pair_first : (c : Change) (first other : Way) (places : List Place) → AreOnce places
      → ((p q : Place) → IsElsewhere p q → P (item c first p) (item c other q))
      → ((p q : Place) → IsElsewhere p q → P (item c other p) (item c other q))
      → Pairwise P (first_then c first other places)
  pair_first c first other [] a f g = tt
  pair_first c first other (place ∷ places) a f g = (
    λ i h. (let r = map_has (item c other) i places h in
        subst (λ (x : Item). P (item c first place) x) r.1.1 (f place r.0 (all_has (IsElsewhere place) r.0 places a.0 r.1.0))),
    pair_once c other places a.1 g,
  )

-- ---- the order of the changes
pub apart_told : (changes : List Change) (q : ℕ) → is_told changes q ≡ false → (c : Change) → Has c changes → c.ino ≢ q
apart_told changes q n c h e =
    let t : is_told changes q ≡ true = has_any (λ (c : Change). c.ino == q) c changes h (eq-eqb c.ino q e) in cc

-- the one stands before the other, and not in it
pub record Precedes (c d : Change) : Type 0 where
  pub apart : c.ino ≢ d.ino
  pub above : c.kind ≡ Directory → (place : Place) → Has place (stands_at c.fate c.going c.coming) → d.ino ≢ place.parent

pub all_precede : (changes : List Change) → AreApart changes → AreInOrder changes → Pairwise Precedes changes
all_precede [] a o = tt
all_precede (c ∷ changes) a o = (
  λ d h. record {
    apart = λ e. all_has (λ (other : Change). other.ino ≢ c.ino) d changes a.0 h (sym e);
    above = λ k place p. apart_told (c ∷ changes) place.parent
        (all_has (λ (p : Place). is_told (c ∷ changes) p.parent ≡ false) place (stands_at c.fate c.going c.coming) (o.0 k) p) d (inr h);
  },
  all_precede changes a.1 o.1,
)

-- none stands in itself
pub none_in_itself : (changes : List Change) → AreInOrder changes → (c : Change) → Has c changes → c.kind ≡ Directory → (place : Place)
    → Has place (stands_at c.fate c.going c.coming)
    → c.ino ≢ place.parent
none_in_itself [] o c h k place p = absurd h
none_in_itself (d ∷ changes) o c h k place p =
    ⊎_elim
    (λ e. apart_told (d ∷ changes) place.parent
    (all_has (λ (p : Place). is_told (d ∷ changes) p.parent ≡ false) place (stands_at d.fate d.going d.coming)
    (o.0 (ap (λ (x : Change). x.kind) e ∙ k))
    (subst (λ (x : Change). Has place (stands_at x.fate x.going x.coming)) (sym e) p)) c (inl e))
    (λ q. none_in_itself changes o.1 c q k place p)
    h
