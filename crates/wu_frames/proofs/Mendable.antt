-- Right frames are made anew only where they were mended too often.
use Rattle.std.proofs.Common.{◌≡◌, ◌≢◌, ℕ, ◌+◌, ◌<◌, ◌≤◌, ◌^◌, Bool, true, false, ltb, List, [], ◌∷◌, ◌++◌, length, get_or, refl, ap, sym}
use Rattle.std.proofs.Common.{◌∙◌, subst, inl, inr, ⊎_elim, arith}
use Rattle.std.specs.Prelude.{◌==◌, ◌||◌, not, Some, map, filter, sum_by, IsPermutation}
use Rattle.std.specs.Coded.{le_prop}
use Rattle.std.specs.List.{AllByRecursion, HoldsAt, list_any}
use Rattle.std.specs.Map.{keys_of}
use Rattle.std.proofs.Math.Logic.{∥∥₁_elim}
use Rattle.std.proofs.lemmas.Bool.{eq-eqb, le-ltb, lt-ltb, ne_eqb}
use Rattle.std.proofs.lemmas.List.{length-map, map-append}
use Rattle.std.proofs.lemmas.List.Elements.{filter-append}
use Rattle.std.proofs.lemmas.List.Folds.{list_any_at}
use Rattle.std.proofs.lemmas.List.Sums.{get_or-le-sum_by}
use Rattle.wu_base.specs.declared.addresses.Range.{Range}
use Rattle.wu_base.proofs.Members.{Has-from_Contains, all_has}
use Rattle.wu_tree.specs.FileSystems.{FileSystem}
use Rattle.wu_view.specs.Views.{view_of}
use Rattle.wu_space.specs.Addresses.{Addresses, range_of}
use Rattle.wu_base.specs.Ranges.{AreApart}
use Rattle.wu_space.proofs.Apart.{apart-from_live, filled-from_live}
use Rattle.wu_space.proofs.Files.{sum_by-map}
use Rattle.wu_frames.specs.declared.Frame.{Frame}
use Rattle.wu_frames.specs.declared.Frames.{Frames}
use Rattle.wu_frames.specs.declared.mending.TheConstants.{MENDS_MAX}
use Rattle.wu_frames.specs.UserFrames.{AreFrames, IsMove, Kept, frames_in, is_mendable, length_of}
use Rattle.wu_frames.specs.Mending.{MayForget}
use Rattle.wu_frames.proofs.ViewFrames.{HasRange, all-have, length-of_frames}

-- ---- the reasons

module _ (space : Addresses) (ino : ℕ) (old new : Range) (m : IsMove space ino old new) (fits : new.start + new.len < 2 ^ 64)
    (fs : FileSystem) (uid : ℕ) (frames : Frames) (hers : AreFrames fs space.ranges uid frames) (place : ℕ)
    (inside : place < length frames.by_address) where
  module _ (p : IsPermutation (frames_in space.ranges (view_of fs uid)) frames.by_address) where
    have : AllByRecursion (HasRange space.ranges) frames.by_address
    have = all-have space.ranges (view_of fs uid) frames.by_address p

    -- the one that starts where the file's range does is the file's
    its : (frame : Frame) → frame ≡ get_or frames.by_address place frame → frame.range.start ≡ old.start → frame.ino ≢ ino → ⊥
    its frame there starts other =
        let is : range_of space.ranges frame.ino ≡ Some frame.range =
        all_has (HasRange space.ranges) frame frames.by_address have
        (Has-from_Contains frame frames.by_address (place, inside, sym there)) in
        let a : 0 < frame.range.len = filled-from_live space.next space.ranges m.rules.live frame.ino frame.range is in
        let b : 0 < old.len = filled-from_live space.next space.ranges m.rules.live ino old m.from in
        ⊎_elim (λ (i : frame.range.start + frame.range.len ≤ old.start). absurd (omega (arith, i)))
        (λ (i : old.start + old.len ≤ frame.range.start). absurd (omega (arith, i)))
        (apart-from_live space.next space.ranges m.rules.live frame.ino ino frame.range old is m.from other)

    -- all their addresses were given
    total-given : frames.total ≤ space.next
    total-given =
        let sum : frames.total ≡ length_of (map (λ (x : Frame). x.range) frames.by_address) = hers.sum ∙ ap length_of hers.ranges_alone in
        let given : length_of (map (λ (x : Frame). x.range) frames.by_address) ≤ space.next =
        length-of_frames space.ranges space.next m.rules.live frames.by_address have (subst AreApart hers.ranges_alone hers.ascending) in
        omega (arith, sum, given)

    worn-of : (r : MayForget place ino new frames) → r.frame.range.start ≡ old.start → MENDS_MAX ≤ frames.mends
    worn-of r starts =
        let all : frames.total ≡ sum_by (λ (x : Frame). x.range.len) frames.by_address =
        hers.sum ∙ ap length_of hers.ranges_alone ∙ sum_by-map (λ (x : Range). x.len) (λ (x : Frame). x.range) frames.by_address in
        let one : (get_or frames.by_address place r.frame).range.len ≤ sum_by (λ (x : Frame). x.range.len) frames.by_address =
        get_or-le-sum_by (λ (x : Frame). x.range.len) frames.by_address place r.frame inside in
        let same : r.frame.range.len ≡ (get_or frames.by_address place r.frame).range.len = ap (λ (x : Frame). x.range.len) r.there in
        let long : length frames.ranges ≡ length frames.by_address =
        ap (λ (l : List Range). length l) hers.ranges_alone ∙ length-map frames.by_address (λ (x : Frame). x.range) in
        let given : frames.total ≤ space.next = total-given in
        let to : space.next ≤ new.start = m.to in
        elim r.why [
          | inl other ↦ absurd (its r.frame r.there starts other)
          | inr rest ↦ elim rest [
            | inl worn ↦ worn
            | inr unlike ↦ elim unlike [
              | inl short ↦ absurd (omega (arith, short))
              | inr uncounted ↦ elim uncounted [
                | inl less ↦ absurd (omega (arith, less))
                | inr more ↦ absurd (omega (arith, more))
              ]
            ]
          ]
        ]

  pub only-worn : (r : MayForget place ino new frames) → HoldsAt (λ (x : Frame). x.range.start ≡ old.start) frames.by_address place
      → MENDS_MAX ≤ frames.mends
  only-worn r starts =
      ∥∥₁_elim hers.of_view le_prop (λ p. worn-of p r (ap (λ (x : Frame). x.range.start) r.there ∙ starts r.frame))

-- ---- the test

not-or : (a b : Bool) → a ≡ true → b ≡ false → (not a || b) ≡ false
not-or a b h g = rw (h, g) refl

not-first : (a b : Bool) → a ≡ false → (not a || b) ≡ true
not-first a b h = rw h refl

or-second : (a b : Bool) → b ≡ true → (a || b) ≡ true
or-second true b h = refl
or-second false b h = h

none-at : (start : ℕ) (frames : List Frame) → AllByRecursion (λ (x : Frame). x.range.start ≢ start) frames
    → list_any (λ (x : Frame). x.range.start == start) frames ≡ false
none-at start [] a = refl
none-at start (x ∷ xs) a = rw (ne_eqb x.range.start start a.0) (none-at start xs a.1)

module _ (old : Range) (frames : Frames) where
  pub mendable-without : AllByRecursion (λ (x : Frame). x.range.start ≢ old.start) frames.by_address → is_mendable old frames ≡ true
  mendable-without other =
      not-first (list_any (λ (x : Frame). x.range.start == old.start) frames.by_address) (ltb frames.mends MENDS_MAX)
      (none-at old.start frames.by_address other)

  pub mendable-few : frames.mends < MENDS_MAX → is_mendable old frames ≡ true
  mendable-few few =
      or-second (not (list_any (λ (x : Frame). x.range.start == old.start) frames.by_address)) (ltb frames.mends MENDS_MAX)
      (lt-ltb frames.mends MENDS_MAX few)

  pub unmendable : (place : ℕ) (frame : Frame) → place < length frames.by_address
      → HoldsAt (λ (x : Frame). x.range.start ≡ old.start) frames.by_address place → MENDS_MAX ≤ frames.mends
      → is_mendable old frames ≡ false
  unmendable place frame inside starts worn =
      not-or (list_any (λ (x : Frame). x.range.start == old.start) frames.by_address) (ltb frames.mends MENDS_MAX)
      (list_any_at (λ (x : Frame). x.range.start == old.start) frames.by_address place frame inside
      (eq-eqb (get_or frames.by_address place frame).range.start old.start (starts frame)))
      (le-ltb frames.mends MENDS_MAX worn)

-- ---- the users for whom a test holds

module _ (p : ℕ × Frames → Bool) where
  pub keys-one : (entry : ℕ × Frames) → p entry ≡ true → entry.0 ∷ [] ≡ keys_of (filter p (entry ∷ []))
  keys-one entry h = rw h refl

  pub keys-none : (entry : ℕ × Frames) → p entry ≡ false → [] ≡ keys_of (filter p (entry ∷ []))
  keys-none entry h = rw h refl

  pub keys-both : (entry : ℕ × Frames) (first gone done : Kept) → keys_of first ≡ keys_of (filter p (entry ∷ []))
      → keys_of done ≡ keys_of (filter p gone) → keys_of (first ++ done) ≡ keys_of (filter p (entry ∷ gone))
  keys-both entry first gone done a b =
      map-append (λ (x : ℕ × Frames). x.0) first done
      ∙ ap (λ (l : List ℕ). l ++ keys_of done) a
      ∙ ap (λ (l : List ℕ). keys_of (filter p (entry ∷ [])) ++ l) b
      ∙ sym (map-append (λ (x : ℕ × Frames). x.0) (filter p (entry ∷ [])) (filter p gone))
      ∙ sym (ap (λ (l : Kept). keys_of l) (filter-append p (entry ∷ []) gone))
