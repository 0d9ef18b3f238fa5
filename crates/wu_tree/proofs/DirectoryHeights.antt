-- Heights of directories, and what keeps them.
use Rattle.std.proofs.Common.{◌≡◌, ◌≢◌, ℕ, ◌+◌, ◌<◌, ◌≤◌, min, max, List, [], ◌∷◌, refl, ap, sym, ◌∙◌, subst, Bool, true, false, cond}
use Rattle.std.proofs.Common.{arith, ⊎_elim}
use Rattle.std.specs.Prelude.{Option, None, Some, is_some, ◌==◌}
use Rattle.std.specs.Option.{option_map}
use Rattle.std.specs.Ordering.{is_eq, nat_cmp}
use Rattle.std.specs.Map.{lookup, set_value, remove_entry}
use Rattle.std.specs.BTreeMap.{is_at, insert_entry}
use Rattle.std.specs.Cmp.{nat_cmp_total}
use Rattle.std.specs.List.{AllByRecursion}
use Rattle.std.specs.List.Sorted.{IsStrictlySortedBy}
use Rattle.std.specs.Map.{keys_of}
use Rattle.std.proofs.lemmas.Map.{lookup-none}
use Rattle.std.proofs.lemmas.Map.Made.{lookup-map_values}
use Rattle.std.proofs.lemmas.Map.Steps.{set_value_same}
use borrow.Author.Tests.{eqb-true, eqb-false}
use Rattle.wu_tree.specs.declared.inodes.Inode.{Inode}
use Rattle.wu_tree.specs.Inodes.{height_in, height_at, height_over, higher_of, IsLower, AreHeights, with_height, without_height}
use Rattle.wu_tree.specs.Inodes.{without_heights, parent_in, kind_of, IsHeld}
use Rattle.wu_tree.specs.declared.inodes.Hold.{Hold}
use Rattle.wu_tree.specs.declared.inodes.Hold.TheVariants.{Entries, Links}
use Rattle.wu_tree.specs.FileSystems.{Link, parent_of, is_kind_file}
use Rattle.wu_base.proofs.MapEntries.{All-found, set_value-read, lookup-set_other, lookup-remove_other, lookup-insert_entry, none_left}
use Rattle.wu_tree.proofs.ParentPaths.{same_number, parent_found}
use Rattle.wu_tree.proofs.LinkRemovals.{apart_from}

same_some : {X : Type 0} (a b : X) → Some a ≡ Some b → a ≡ b
same_some a b h = cc

-- ---- a node that is replaced
module _ (inodes : List (ℕ × Inode)) (ino : ℕ) (old : Inode) (found : lookup (is_at (nat_cmp ino)) inodes ≡ Some old) where
  pub set_other : (v : Inode) (q : ℕ) → q ≢ ino
      → lookup (is_at (nat_cmp q)) (set_value (is_at (nat_cmp ino)) inodes v) ≡ lookup (is_at (nat_cmp q)) inodes
  set_other v q n = lookup-set_other (is_at (nat_cmp q)) (is_at (nat_cmp ino)) (λ k p. apart_from ino q k n p) inodes v

  pub set_here : (v : Inode) → lookup (is_at (nat_cmp ino)) (set_value (is_at (nat_cmp ino)) inodes v) ≡ Some v
  set_here v = here inodes found
    where
      here : (es : List (ℕ × Inode)) → lookup (is_at (nat_cmp ino)) es ≡ Some old
          → lookup (is_at (nat_cmp ino)) (set_value (is_at (nat_cmp ino)) es v) ≡ Some v
      here [] h = absurd cc
      here (e ∷ es) h =
          elim (is_eq (nat_cmp ino e.0)) as
          (λ b. is_eq (nat_cmp ino e.0) ≡ b → cond b (Some e.1) (lookup (is_at (nat_cmp ino)) es) ≡ Some old
          → lookup (is_at (nat_cmp ino)) (cond b ((e.0, v) ∷ es) (e ∷ set_value (is_at (nat_cmp ino)) es v)) ≡ Some v) [
            | true ↦ λ p q. rw p refl
            | false ↦ λ p q. rw p (here es q)
          ] refl h

  -- heights stay where the new one is lower than the parent's, and the nodes below are lower than it
  pub set_heights : (v : Inode) → AreHeights inodes → IsLower (set_value (is_at (nat_cmp ino)) inodes v) ino v
      → ((q : ℕ) (inode : Inode) → lookup (is_at (nat_cmp q)) inodes ≡ Some inode → higher_of q inode ≡ Some ino
      → min (inode.height + 1) 255 ≤ v.height)
      → AreHeights (set_value (is_at (nat_cmp ino)) inodes v)
  set_heights v a own below = λ q inode f parent h.
      elim (q == ino) as (λ b. (q == ino) ≡ b → min (inode.height + 1) 255 ≤ height_at (set_value (is_at (nat_cmp ino)) inodes v) parent) [
        | true ↦ λ e.
            let same : q ≡ ino = eqb-true q ino e in
            let value : v
            ≡ inode = same_some v inode
            (sym (set_here v) ∙ ap (λ k. lookup (is_at (nat_cmp k)) (set_value (is_at (nat_cmp ino)) inodes v)) (sym same) ∙ f) in
            let here : higher_of ino v ≡ Some parent = ap (λ k. higher_of k v) (sym same) ∙ ap (λ i. higher_of q i) value ∙ h in
            subst (λ (i : Inode). min (i.height + 1) 255 ≤ height_at (set_value (is_at (nat_cmp ino)) inodes v) parent) value
            (own parent here)
        | false ↦ λ e.
            let was : lookup (is_at (nat_cmp q)) inodes ≡ Some inode = sym (set_other v q (eqb-false q ino e)) ∙ f in
            elim (parent == ino) as
            (λ b. (parent == ino) ≡ b → min (inode.height + 1) 255 ≤ height_at (set_value (is_at (nat_cmp ino)) inodes v) parent) [
              | true ↦ λ g.
                  let same : parent ≡ ino = eqb-true parent ino g in
                  let height : height_at (set_value (is_at (nat_cmp ino)) inodes v) parent ≡ v.height =
                  ap (height_at (set_value (is_at (nat_cmp ino)) inodes v)) same ∙ ap height_in (set_here v) in
                  omega (arith, height, below q inode was (h ∙ ap Some same))
              | false ↦ λ g. rw (set_other v parent (eqb-false parent ino g)) (a q inode was parent h)
            ] refl
      ] refl

  -- a node that stays as high as it was, or comes to be higher
  pub kept_heights : (v : Inode) → AreHeights inodes → old.height ≤ v.height → IsLower inodes ino v
      → AreHeights (set_value (is_at (nat_cmp ino)) inodes v)
  kept_heights v a up own =
      set_heights v a (λ parent h. omega (arith, own parent h, no_lower v up parent))
      (λ q inode f h. omega (arith, a q inode f ino h, ap height_in found))
    where
      no_lower : (v : Inode) → old.height ≤ v.height → (q : ℕ) → height_at inodes q ≤ height_at (set_value (is_at (nat_cmp ino)) inodes v) q
      no_lower v up q =
          elim (q == ino) as (λ b. (q == ino) ≡ b → height_at inodes q ≤ height_at (set_value (is_at (nat_cmp ino)) inodes v) q) [
            | true ↦ λ e.
                let same : q ≡ ino = eqb-true q ino e in
                subst (λ k. height_at inodes k ≤ height_at (set_value (is_at (nat_cmp ino)) inodes v) k) (sym same)
                (omega (arith, ap height_in found, ap height_in (set_here v)))
            | false ↦ λ e. omega (arith, ap height_in (set_other v q (eqb-false q ino e)))
          ] refl

  -- another height changes nothing else
  pub set_height_alone : (n : ℕ)
      → without_heights (set_value (is_at (nat_cmp ino)) inodes (record old { height = n })) ≡ without_heights inodes
  set_height_alone n =
      sym (set_value-read without_height (is_at (nat_cmp ino)) inodes (record old { height = n }))
      ∙ set_value_same (is_at (nat_cmp ino)) (without_heights inodes) (without_height old)
      (lookup-map_values without_height (is_at (nat_cmp ino)) inodes ∙ ap (option_map without_height) found)

-- ---- nodes that differ in their heights alone
module _ (inodes others : List (ℕ × Inode)) (same : without_heights others ≡ without_heights inodes) (ino : ℕ) where
  found_both : option_map without_height (lookup (is_at (nat_cmp ino)) others)
      ≡ option_map without_height (lookup (is_at (nat_cmp ino)) inodes)
  found_both =
      sym (lookup-map_values without_height (is_at (nat_cmp ino)) others) ∙ ap (lookup (is_at (nat_cmp ino))) same
      ∙ lookup-map_values without_height (is_at (nat_cmp ino)) inodes

  some_like : (o : Option Inode) (i : Inode) → option_map without_height o ≡ Some (without_height i)
      → (j : Inode) × ((o ≡ Some j) × (without_height j ≡ without_height i))
  some_like None i h = absurd cc
  some_like (Some j) i h = (j, (refl, same_some (without_height j) (without_height i) h))

  pub found_again : (inode : Inode) → lookup (is_at (nat_cmp ino)) inodes ≡ Some inode
      → (other : Inode) × ((lookup (is_at (nat_cmp ino)) others ≡ Some other) × (without_height other ≡ without_height inode))
  found_again inode f = some_like (lookup (is_at (nat_cmp ino)) others) inode (found_both ∙ ap (option_map without_height) f)

-- a node that is there, from its height
pub high_there : (inodes : List (ℕ × Inode)) (ino : ℕ) → 1 ≤ height_at inodes ino → is_some (lookup (is_at (nat_cmp ino)) inodes) ≡ true
high_there inodes ino h = some_height (lookup (is_at (nat_cmp ino)) inodes) h
  where
    some_height : (o : Option Inode) → 1 ≤ height_in o → is_some o ≡ true
    some_height None h = absurd (omega arith)
    some_height (Some inode) h = refl

-- ---- a directory that is raised to a height, after its parent was raised over it
pub record IsRaised (before after : List (ℕ × Inode)) (directory height : ℕ) : Type 0 where
  pub nodes : without_heights after ≡ without_heights before
  pub heights : AreHeights after
  pub raised : height ≤ height_at after directory

pub higher_parent : (inodes : List (ℕ × Inode)) (directory : ℕ) (inode : Inode) (parent height : ℕ) → AreHeights inodes
    → lookup (is_at (nat_cmp directory)) inodes ≡ Some inode
    → higher_of directory inode ≡ Some parent → inode.height < height → height < 256 → inode.height < height_at inodes parent
higher_parent inodes directory inode parent height a f h low small = omega (arith, a directory inode f parent h)

higher_alike : (ino : ℕ) (i j : Inode) → without_height i ≡ without_height j → higher_of ino i ≡ higher_of ino j
higher_alike ino i j e = ap (λ (k : Inode). higher_of ino k) e

module _ (before inodes : List (ℕ × Inode)) (same : without_heights inodes ≡ without_heights before) (a : AreHeights inodes)
    (directory height : ℕ) (inode : Inode)
    (found : lookup (is_at (nat_cmp directory)) before ≡ Some inode) where
  -- with the heights that are kept by now, where the parent is there
  pub raise_below : (parent top n : ℕ) → higher_of directory inode ≡ Some parent → top ≡ min (height + 1) 255
      → top ≤ height_at inodes parent → n ≡ max (height_at inodes directory) height
      → IsRaised before (with_height n (lookup (is_at (nat_cmp directory)) inodes) directory inodes) directory height
  raise_below parent top n h t up m =
      let f = found_again before inodes same directory inode found in
      let now : height_at inodes directory ≡ f.0.height = ap height_in f.1.0 in
      let above : higher_of directory f.0 ≡ Some parent = higher_alike directory f.0 inode f.1.1 ∙ h in
      let own : IsLower inodes directory (record f.0 { height = n }) =
      λ q e. let is : parent ≡ q = same_some parent q (sym above ∙ e) in
      subst (λ k. min (n + 1) 255 ≤ height_at inodes k) is (omega (arith, a directory f.0 f.1.0 parent above)) in
      rw f.1.0 (record {
        nodes = set_height_alone inodes directory f.0 f.1.0 n ∙ same;
        heights = kept_heights inodes directory f.0 f.1.0 (record f.0 { height = n }) a (omega arith) own;
        raised = omega (arith, ap height_in (set_here inodes directory f.0 f.1.0 (record f.0 { height = n })));
      })

  pub raise_top : higher_of directory inode ≡ None → inode.height < height → inodes ≡ before
      → IsRaised before (with_height height (lookup (is_at (nat_cmp directory)) inodes) directory inodes) directory height
  raise_top h low e =
      let here : lookup (is_at (nat_cmp directory)) inodes ≡ Some inode = ap (lookup (is_at (nat_cmp directory))) e ∙ found in
      let own : IsLower inodes directory (record inode { height = height }) = λ q g. absurd (let no : None ≡ Some q = sym h ∙ g in cc) in
      rw here (record {
        nodes = set_height_alone inodes directory inode here height ∙ same;
        heights = kept_heights inodes directory inode here (record inode { height = height }) a (omega arith) own;
        raised = omega (arith, ap height_in (set_here inodes directory inode here (record inode { height = height })));
      })

pub there_again : (inodes others : List (ℕ × Inode)) → without_heights others ≡ without_heights inodes → (ino : ℕ)
    → is_some (lookup (is_at (nat_cmp ino)) inodes) ≡ true → is_some (lookup (is_at (nat_cmp ino)) others) ≡ true
there_again inodes others same ino h =
    elim (lookup (is_at (nat_cmp ino)) inodes) as
    (λ o. lookup (is_at (nat_cmp ino)) inodes ≡ o → is_some o ≡ true → is_some (lookup (is_at (nat_cmp ino)) others) ≡ true) [
      | None ↦ λ f g. absurd cc
      | Some inode ↦ λ f g. ap is_some (found_again inodes others same ino inode f).1.0
    ] refl h

-- ---- a node in another state that is as high and stands in the same directory
pub same_heights : (inodes : List (ℕ × Inode)) (ino : ℕ) (old v : Inode) → lookup (is_at (nat_cmp ino)) inodes ≡ Some old
    → AreHeights inodes
    → parent_in v.hold ≡ parent_in old.hold → v.height ≡ old.height → AreHeights (set_value (is_at (nat_cmp ino)) inodes v)
same_heights inodes ino old v found a parent height =
    kept_heights inodes ino old found v a (omega arith)
    (λ p h. let h' : higher_of ino old ≡ Some p = ap (λ (o : Option ℕ). cond (ino == 1) None o) (sym parent)
    ∙ h in omega (arith, a ino old found p h'))

-- ---- in which directory a node stands
pub higher_parts : (ino : ℕ) (inode : Inode) (parent : ℕ) → higher_of ino inode ≡ Some parent
    → (ino ≢ 1) × (parent_in inode.hold ≡ Some parent)
higher_parts ino inode parent h =
    elim (ino == 1) as
    (λ b. (ino == 1) ≡ b → cond b None (parent_in inode.hold) ≡ Some parent → (ino ≢ 1) × (parent_in inode.hold ≡ Some parent)) [
      | true ↦ λ e g. absurd cc
      | false ↦ λ e g. (eqb-false ino 1 e, g)
    ] refl h

held_parent : (links : List Link) (ino : ℕ) (hold : Hold) (parent : ℕ) → IsHeld links ino hold → ino ≢ 1 → parent_in hold ≡ Some parent
    → parent_of links ino ≡ Some parent
held_parent links ino (Entries p) parent h n e = ⊎_elim (λ r. absurd (n r)) (λ k. k ∙ e) h
held_parent links ino (Links count) parent h n e = absurd cc

module _ (links : List Link) (inodes : List (ℕ × Inode)) (held : AllByRecursion (λ e. IsHeld links e.0 e.1.hold) inodes) (ino : ℕ)
    (inode : Inode)
    (found : lookup (is_at (nat_cmp ino)) inodes ≡ Some inode) where
  pub higher_is_parent : (parent : ℕ) → higher_of ino inode ≡ Some parent → parent_of links ino ≡ Some parent
  higher_is_parent parent h =
      let parts = higher_parts ino inode parent h in
      let f = All-found (λ e. IsHeld links e.0 e.1.hold) (is_at (nat_cmp ino)) inodes inode held found in
      held_parent links ino inode.hold parent (subst (λ x. IsHeld links x inode.hold) (sym (same_number ino f.0 f.1)) f.2) parts.0 parts.1

  pub higher_has_links : (parent : ℕ) → AllByRecursion (λ l. l.0.0 ≢ parent) links → higher_of ino inode ≡ Some parent → ⊥
  higher_has_links parent bare h = (parent_found (λ l. l.0.0 ≢ parent) links ino parent bare (higher_is_parent parent h)).1 refl

-- the height that a node asks of its directory
directory_hold : (hold : Hold) (p : ℕ) → parent_in hold ≡ Some p → is_kind_file (kind_of hold) ≡ false
directory_hold (Entries q) p e = refl
directory_hold (Links count) p e = absurd cc

pub over_directory : (ino : ℕ) (inode : Inode) (parent : ℕ) → higher_of ino inode ≡ Some parent
    → height_over inode ≡ min (inode.height + 1) 255
over_directory ino inode parent h = rw (directory_hold inode.hold parent (higher_parts ino inode parent h).1) refl

pub lower_than : (inodes : List (ℕ × Inode)) (ino : ℕ) (inode : Inode) (parent : ℕ) → ((p : ℕ) → parent_in inode.hold ≡ Some p → p ≡ parent)
    → height_over inode ≤ height_at inodes parent → IsLower inodes ino inode
lower_than inodes ino inode parent one h p g =
    subst (λ x. min (inode.height + 1) 255 ≤ height_at inodes x) (sym (one p (higher_parts ino inode p g).1))
    (omega (arith, over_directory ino inode p g))

-- ---- a node that is new
module _ (inodes : List (ℕ × Inode)) (ino : ℕ) (v : Inode) (new : lookup (is_at (nat_cmp ino)) inodes ≡ None) where
  insert_no_lower : (p : ℕ) → height_at inodes p ≤ height_at (insert_entry nat_cmp inodes ino v) p
  insert_no_lower p =
      elim (is_eq (nat_cmp p ino)) as
      (λ b. is_eq (nat_cmp p ino) ≡ b
      → height_in (lookup (is_at (nat_cmp p)) inodes) ≤ height_at (insert_entry nat_cmp inodes ino v) p) [
        | true ↦ λ e.
            let none : height_at inodes p ≡ 0 = ap (height_at inodes) (same_number p ino e) ∙ ap height_in new in
            omega arith
        | false ↦ λ e. omega (
          arith,
          ap height_in
              (lookup-insert_entry nat_cmp_total inodes ino v p ∙ ap (λ (b : Bool). cond b (Some v) (lookup (is_at (nat_cmp p)) inodes)) e),
        )
      ] refl

  pub insert_heights : AreHeights inodes → IsLower inodes ino v → AreHeights (insert_entry nat_cmp inodes ino v)
  insert_heights a own = λ q inode f parent h.
      let g = sym (lookup-insert_entry nat_cmp_total inodes ino v q) ∙ f in
      elim (is_eq (nat_cmp q ino)) as (λ b. is_eq (nat_cmp q ino) ≡ b → cond b (Some v) (lookup (is_at (nat_cmp q)) inodes) ≡ Some inode
      → min (inode.height + 1) 255 ≤ height_at (insert_entry nat_cmp inodes ino v) parent) [
        | true ↦ λ e k.
            let value : v ≡ inode = same_some v inode k in
            let here : higher_of ino v ≡ Some parent = ap (λ x. higher_of x v) (sym (same_number q ino e)) ∙ ap (λ i. higher_of q i) value
            ∙ h in
            let low : min (v.height + 1) 255 ≤ height_at inodes parent = own parent here in
            omega (arith, insert_no_lower parent, ap (λ (i : Inode). i.height) value)
        | false ↦ λ e k. omega (arith, insert_no_lower parent, a q inode k parent h)
      ] refl g

-- ---- a node that goes, in which none stands
module _ (inodes : List (ℕ × Inode)) (ino : ℕ) (ascend : IsStrictlySortedBy nat_cmp (keys_of inodes)) where
  pub remove_heights : AreHeights inodes
      → ((q : ℕ) (inode : Inode) → lookup (is_at (nat_cmp q)) inodes ≡ Some inode → higher_of q inode ≡ Some ino → ⊥)
      → AreHeights (remove_entry (is_at (nat_cmp ino)) inodes)
  remove_heights a none = λ q inode f parent h.
      elim (q == ino) as (λ b. (q == ino) ≡ b → min (inode.height + 1) 255 ≤ height_at (remove_entry (is_at (nat_cmp ino)) inodes) parent) [
        | true ↦ λ e.
            let gone : lookup (is_at (nat_cmp ino)) (remove_entry (is_at (nat_cmp ino)) inodes) ≡ None =
            lookup-none (is_at (nat_cmp ino)) (remove_entry (is_at (nat_cmp ino)) inodes) (none_left ino inodes ascend) in
            absurd (let no : None ≡ Some inode = sym gone
            ∙ ap (λ k. lookup (is_at (nat_cmp k)) (remove_entry (is_at (nat_cmp ino)) inodes)) (sym (eqb-true q ino e)) ∙ f in cc)
        | false ↦ λ e.
            let was : lookup (is_at (nat_cmp q)) inodes ≡ Some inode = sym (stays q (eqb-false q ino e)) ∙ f in
            let apart : parent ≢ ino = λ same. none q inode was (h ∙ ap Some same) in
            rw (stays parent apart) (a q inode was parent h)
      ] refl
    where
      stays : (q : ℕ) → q ≢ ino → lookup (is_at (nat_cmp q)) (remove_entry (is_at (nat_cmp ino)) inodes) ≡ lookup (is_at (nat_cmp q)) inodes
      stays q n = lookup-remove_other (is_at (nat_cmp q)) (is_at (nat_cmp ino)) (λ k p. apart_from ino q k n p) inodes
