-- All names that come, and those that are there afterwards.
use Rattle.std.proofs.Common.{◌≡◌, ◌≢◌, ℕ, List, [], ◌∷◌, ◌++◌, refl, ap, sym, ◌∙◌, subst, Bool, true, false, cond, inl, inr, ⊎_elim}
use Rattle.std.specs.Prelude.{◌⊎◌, ◌||◌, None, Some, is_some, map}
use Rattle.std.specs.List.{AllByRecursion, flat_map}
use Rattle.wu_access.specs.Access.{IsDecidedByCases}
use Rattle.wu_tree.specs.declared.events.Event.{Event}
use Rattle.wu_tree.specs.declared.events.Kind.{Kind}
use Rattle.wu_tree.specs.declared.events.Kind.TheVariants.{Directory, File}
use Rattle.wu_tree.specs.FileSystems.{FileSystem, node_of, child_of, is_there}
use Rattle.wu_tree.proofs.EventRules.{present}
use Rattle.wu_base.proofs.Members.{Has, Has-from_Contains}
use Rattle.wu_mirror.specs.declared.batches.Batch.{Batch}
use Rattle.wu_mirror.specs.declared.batches.Change.{Change}
use Rattle.wu_mirror.specs.declared.batches.Fate.{Fate}
use Rattle.wu_mirror.specs.declared.batches.Fate.TheVariants.{Stays, Made, Goes}
use Rattle.wu_mirror.specs.declared.batches.Place.{Place}
use Rattle.wu_mirror.specs.Plans.{brought_back, directory_by_kind, directory_from, directory_made, directory_placed, file_by_kind, file_placed}
use Rattle.wu_mirror.specs.Plans.{first_and_others, first_come, first_perm, groups_change, is_empty, linked, placed_in}
use Rattle.wu_view.proofs.LinkPaths.{link_facts}
use Rattle.wu_mirror.specs.Moments.{HasFate, IsTrueOf, LeadsTo}
use Rattle.wu_mirror.specs.Moments.{TellsAllNames}
use Rattle.wu_mirror.proofs.Lookups.{by_test, same_some}
use Rattle.wu_mirror.proofs.ViewGrowth.{link_found}
use Rattle.wu_mirror.proofs.Taking.{shut, truth}
use Rattle.wu_mirror.proofs.Coming.{Coming}
use Rattle.wu_mirror.proofs.Arrivals.{Filled, IsIn, Used, is_name}

module _ (law : IsDecidedByCases) (batch : Batch) (before after : FileSystem) (l : LeadsTo batch before after) (uid : ℕ) (u : uid ≢ 0)
    (End : FileSystem → Type 0) where
  abbrev Come : FileSystem → Type 0
  Come m = Coming law batch before after l uid u End m

  abbrev closed : Change → Bool
  closed c = shut law batch before after l uid u End c

  abbrev Comes : Event → Type 0
  Comes event = IsIn law batch before after l uid u End event

  abbrev IsFilled : FileSystem → Event → Type 0
  IsFilled m event = Filled law batch before after l uid u End m event

  abbrev IsUsed : FileSystem → Place → Type 0
  IsUsed m place = Used law batch before after l uid u End m place

  true_of : (c : Change) → Has c batch.changes → IsTrueOf before after c
  true_of c h = truth law batch before after l uid u End c h

  -- ---- all names that come
  each_in : (c : Change) → (way : Place → Event) (places : List Place) → ((place : Place) → Has place places → Comes (way place))
      → AllByRecursion Comes (map way places)
  each_in c way [] is = tt
  each_in c way (place ∷ places) is = (is place (inl refl), each_in c way places (λ p i. is p (inr i)))

  directory_ins : (c : Change) → Has c batch.changes → (kind : Kind) → c.kind ≡ kind → AllByRecursion Comes (directory_by_kind kind (closed c) c)
  directory_ins c h Directory e =
      elim c.fate as (λ f. c.fate ≡ f → AllByRecursion Comes (directory_from c.ino (closed c) f c.coming)) [
        | Stays rights has_other_name ↦ λ g. each_in c (brought_back c.ino) c.coming (λ p i. (c, p, h, i, inr (inl refl)))
        | Made perm list ↦ λ g.
            each_in c (directory_made c.ino (first_perm (closed c) perm list)) c.coming
            (λ p i. (c, p, h, i, inr (inr (perm, list, g, inl (e, refl)))))
        | Goes ↦ λ g. tt
      ] refl
  directory_ins c h File e = tt

  first_in : (c : Change) → Has c batch.changes → c.kind ≡ File → (none_goes : Bool) (place : Place) → Has place c.coming
      → Comes (first_come c.ino (closed c) c.fate none_goes place)
  first_in c h e none_goes place p =
      elim c.fate as (λ f. c.fate ≡ f → Comes (first_come c.ino (closed c) f none_goes place)) [
        | Stays rights has_other_name ↦ λ g.
            by_test (has_other_name || none_goes) (λ b. Comes (cond b (linked c.ino place) (brought_back c.ino place)))
            (λ y. (c, place, h, p, inl refl)) (λ y. (c, place, h, p, inr (inl refl)))
        | Made perm list ↦ λ g. (c, place, h, p, inr (inr (perm, list, g, inr (e, refl))))
        | Goes ↦ λ g. (c, place, h, p, inl refl)
      ] refl

  file_ins : (c : Change) → Has c batch.changes → (kind : Kind) → c.kind ≡ kind → AllByRecursion Comes (file_by_kind kind (closed c) c)
  file_ins c h Directory e = tt
  file_ins c h File e =
      elim c.coming as (λ places. ((place : Place) → Has place places → Has place c.coming)
      → AllByRecursion Comes (first_and_others (first_come c.ino (closed c) c.fate (is_empty c.going)) (linked c.ino) places)) [
        | [] ↦ λ sub. tt
        | place ∷ places ↦ λ sub. (
          first_in c h e (is_empty c.going) place (sub place (inl refl)),
          each_in c (linked c.ino) places (λ p i. (c, p, h, sub p (inr i), inl refl)),
        )
      ] (λ place i. i)

  both_ins : (xs ys : List Event) → AllByRecursion Comes xs → AllByRecursion Comes ys → AllByRecursion Comes (xs ++ ys)
  both_ins [] ys a b = b
  both_ins (x ∷ xs) ys a b = (a.0, both_ins xs ys a.1 b)

  all_ins : (f : Change → List Event) (changes : List Change) → ((c : Change) → Has c changes → AllByRecursion Comes (f c))
      → AllByRecursion Comes (flat_map f changes)
  all_ins f [] g = tt
  all_ins f (c ∷ changes) g = both_ins (f c) (flat_map f changes) (g c (inl refl)) (all_ins f changes (λ d h. g d (inr h)))

  pub placed_are_ins : AllByRecursion Comes (placed_in batch)
  placed_are_ins =
      both_ins (flat_map (directory_placed (groups_change batch)) batch.changes) (flat_map (file_placed (groups_change batch)) batch.changes)
      (all_ins (directory_placed (groups_change batch)) batch.changes (λ c h. directory_ins c h c.kind refl))
      (all_ins (file_placed (groups_change batch)) batch.changes (λ c h. file_ins c h c.kind refl))

  -- ---- all names that are there afterwards
  all_left : (P : Event → Type 0) (xs ys : List Event) → AllByRecursion P (xs ++ ys) → AllByRecursion P xs
  all_left P [] ys a = tt
  all_left P (x ∷ xs) ys a = (a.0, all_left P xs ys a.1)

  all_right : (P : Event → Type 0) (xs ys : List Event) → AllByRecursion P (xs ++ ys) → AllByRecursion P ys
  all_right P [] ys a = a
  all_right P (x ∷ xs) ys a = all_right P xs ys a.1

  all_of_one : (P : Event → Type 0) (f : Change → List Event) (changes : List Change) → AllByRecursion P (flat_map f changes) → (c : Change)
      → Has c changes → AllByRecursion P (f c)
  all_of_one P f [] a c h = absurd h
  all_of_one P f (d ∷ changes) a c h =
      ⊎_elim
      (λ e. subst (λ (x : Change). AllByRecursion P (f x)) e (all_left P (f d) (flat_map f changes) a))
      (λ i. all_of_one P f changes (all_right P (f d) (flat_map f changes) a) c i)
      h

  each_used : (to : FileSystem) (way : Place → Event) → ((place : Place) → IsFilled to (way place) → IsUsed to place) → (places : List Place)
      → AllByRecursion (IsFilled to) (map way places) → (place : Place) → Has place places → IsUsed to place
  each_used to way f [] a place h = absurd h
  each_used to way f (one ∷ places) a place h =
      ⊎_elim (λ e. subst (λ (x : Place). IsUsed to x) e (f one a.0)) (λ i. each_used to way f places a.1 place i) h

  first_used : (to : FileSystem) (ino : ℕ) (shut : Bool) (fate : Fate) (none_goes : Bool) (place : Place)
      → IsFilled to (first_come ino shut fate none_goes place) → IsUsed to place
  first_used to ino shut (Stays rights other) none_goes place h =
      by_test (other || none_goes) (λ b. IsFilled to (cond b (linked ino place) (brought_back ino place)) → IsUsed to place) (λ y f. f) (λ y f. f) h
  first_used to ino shut (Made perm list) none_goes place h = h
  first_used to ino shut Goes none_goes place h = h

  goes_nowhere : (c : Change) → Has c batch.changes → (place : Place) → Has place c.coming → c.fate ≡ Goes → ⊥
  goes_nowhere c h place p e =
      let is = is_name law batch before after l uid u End c h place p in
      let facts = link_facts after l.to ((place.parent, place.name), c.ino) (link_found after place.parent place.name c.ino is.1) in
      let gone : node_of after c.ino ≡ None = subst (λ (f : Fate). HasFate f c.kind c.ino before after) e (true_of c h).fate in
      let none : is_there after c.ino ≡ false = ap is_some gone in
      let there : is_there after c.ino ≡ true = facts.child in
      cc

  placed_used : (to : FileSystem) (c : Change) → Has c batch.changes → (place : Place) → Has place c.coming → (kind : Kind)
      → AllByRecursion (IsFilled to) (directory_by_kind kind (closed c) c)
      → AllByRecursion (IsFilled to) (file_by_kind kind (closed c) c)
      → IsUsed to place
  placed_used to c h place p Directory a b =
      elim c.fate as (λ f. c.fate ≡ f → AllByRecursion (IsFilled to) (directory_from c.ino (closed c) f c.coming) → IsUsed to place) [
        | Stays rights other ↦ λ g i. each_used to (brought_back c.ino) (λ q f. f) c.coming i place p
        | Made perm list ↦ λ g i. each_used to (directory_made c.ino (first_perm (closed c) perm list)) (λ q f. f) c.coming i place p
        | Goes ↦ λ g i. absurd (goes_nowhere c h place p g)
      ] refl a
  placed_used to c h place p File a b =
      elim c.coming as
      (λ places. AllByRecursion (IsFilled to) (first_and_others (first_come c.ino (closed c) c.fate (is_empty c.going)) (linked c.ino) places)
      → Has place places → IsUsed to place) [
        | [] ↦ λ i q. absurd q
        | one ∷ places ↦ λ i q.
            ⊎_elim
            (λ e. subst (λ (x : Place). IsUsed to x) e (first_used to c.ino (closed c) c.fate (is_empty c.going) one i.0))
            (λ r. each_used to (linked c.ino) (λ s f. f) places i.1 place r)
            q
      ] b p

  used_at_last : (to : FileSystem) → AllByRecursion (IsFilled to) (placed_in batch) → (c : Change) → Has c batch.changes → (place : Place)
      → Has place c.coming → IsUsed to place
  used_at_last to a c h place p =
      let directories : List Event = flat_map (directory_placed (groups_change batch)) batch.changes in
      let files : List Event = flat_map (file_placed (groups_change batch)) batch.changes in
      placed_used to c h place p c.kind
      (all_of_one (IsFilled to) (directory_placed (groups_change batch)) batch.changes (all_left (IsFilled to) directories files a) c h)
      (all_of_one (IsFilled to) (file_placed (groups_change batch)) batch.changes (all_right (IsFilled to) directories files a) c h)

  -- where the batch tells of all names, those that are there afterwards are there
  abbrev pub Back : FileSystem → Type 0
  Back m = TellsAllNames batch before after → (d : ℕ) (n : List ℕ) (x : ℕ) → d ≢ 2 → child_of after d n ≡ Some x → child_of m d n ≡ Some x

  pub all_back : (to : FileSystem) → Come to → AllByRecursion (IsFilled to) (placed_in batch) → Back to
  all_back to coming filled w d n x apart g =
      ⊎_elim
      (λ b. coming.stays d n x apart b (λ goes. w.go d n goes (g ∙ sym b)))
      (λ o.
      let c = o.0 in
      let place = o.1 in
      let h : Has c batch.changes = Has-from_Contains c batch.changes o.2 in
      let p : Has place c.coming = Has-from_Contains place c.coming o.3 in
      let f = present (child_of to place.parent place.name) (used_at_last to filled c h place p) in
      let there : child_of to d n ≡ Some f.0 = subst (λ (k : ℕ). child_of to k n ≡ Some f.0) o.4
      (subst (λ (k : List ℕ). child_of to place.parent k ≡ Some f.0) o.5 f.1) in
      there ∙ ap Some (same_some f.0 x (sym (coming.part.names d n f.0 apart there) ∙ g)))
      (w.come d n x apart g)
