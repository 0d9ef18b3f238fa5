-- What an operator makes of the extents of all frames is what it makes of them frame by frame.
use Rattle.std.proofs.Common.{◌≡◌, ℕ, ◌<◌, ◌≤◌, Bool, true, false, List, [], ◌∷◌, ◌++◌, map, refl, sym, ap, ◌∙◌, subst, inl, inr, arith}
use Rattle.std.specs.Prelude.{filter}
use Rattle.std.specs.Cmp.{both_ways}
use Rattle.std.specs.List.{list_any, flat_map}
use Rattle.std.proofs.lemmas.List.Elements.{filter-append}
use Rattle.wu_base.specs.declared.addresses.Extent.{Extent}
use Rattle.wu_base.specs.declared.addresses.Range.{Range}
use Rattle.wu_base.specs.declared.addresses.TermList.{TermList}
use Rattle.wu_gcl.specs.declared.expressions.Op.{Op}
use Rattle.wu_gcl.specs.declared.expressions.Op.TheVariants.{Containing, ContainedIn, NotContaining, NotContainedIn, OneOf, BothOf}
use Rattle.wu_gcl.specs.declared.expressions.Op.TheVariants.{FollowedBy}
use Rattle.wu_gcl.specs.Regions.{Region, Both}
use Rattle.wu_gcl.specs.Extents.{holds, is_in, hits}
use Rattle.wu_solve.specs.Addresses.{stands_by}
use Rattle.wu_solve.specs.Frames.{lies_in_one}
use Rattle.wu_solve.specs.Listing.{Has, Lists}
use Rattle.wu_solve.specs.Merging.{is_wanted, holding, held, cover, IsOneOf, IsCover, IsSpan, AreInnermost}
use Rattle.wu_solve.specs.Solving.{moved, frame_hits, frames_hits}
use Rattle.wu_base.specs.Ranges.{AreApart}
use Rattle.wu_solve.proofs.Sets.{Holds, holds_means, found, finds}
use Rattle.wu_solve.proofs.Order.{listed}
use Rattle.wu_solve.proofs.Unions.{union, union_inner}
use Rattle.wu_solve.proofs.Covers.{covers, covers_inner}
use Rattle.wu_solve.proofs.Spans.{spans, spans_inner}
use Rattle.wu_solve.proofs.Combining.{containing_combined, not_containing_combined, contained_in_combined, not_contained_in_combined}
use Rattle.wu_solve.proofs.Combining.{one_of_combined, both_of_combined, followed_by_combined, both_listed}
use Rattle.wu_solve.proofs.Results.{LiesIn, extent_lies, hits_listed, filter_alike}
use Rattle.wu_solve.proofs.Moving.{holds_moved, filter_moved, any_moved, unions_moved, covers_moved, spans_moved}
use Rattle.wu_solve.proofs.OneFrame.{HasFrame, in_some_frame, from_frame, one_frame, has_in, is_ordered, lies_within, lies_one, framed}

-- a list of an expression's extents in a text is what the expression means there
pub hits_are : (region : Region) (stands : List ℕ → ℕ → Bool) (n : ℕ) (xs : List Extent) → Lists n (is_in region stands n) xs
    → xs ≡ hits region stands n
unfolding hits
hits_are region stands n xs is = listed n (is_in region stands n) xs is

-- ---- the operators that keep innermost extents
-- in each frame they are the innermost candidates of the frame's own extents

one_of_each : (left right : Region) (lists : List TermList) (f : Range)
    → AreInnermost (IsOneOf (frame_hits left lists f) (frame_hits right lists f)) (frame_hits (Both OneOf left right) lists f)
one_of_each left right lists f =
    let stands = stands_by lists f.start in
    let n = f.len in
    let ly = hits_listed left stands n in
    let lz = hits_listed right stands n in
    let ys = hits left stands n in
    let zs = hits right stands n in
    let inner = union_inner ys zs ly.ascending lz.ascending in
    let is : union ys zs ≡ hits (Both OneOf left right) stands n =
    hits_are (Both OneOf left right) stands n (union ys zs)
    (both_listed n stands (union ys zs) OneOf left right (one_of_combined n _ _ ys zs ly lz (union ys zs) inner)) in
    subst (λ (xs : List Extent). AreInnermost (IsOneOf (map (moved f.start) ys) (map (moved f.start) zs)) (map (moved f.start) xs)) is
    (unions_moved f.start ys zs (union ys zs) inner)

both_of_each : (left right : Region) (lists : List TermList) (f : Range)
    → AreInnermost (IsCover (frame_hits left lists f) (frame_hits right lists f)) (frame_hits (Both BothOf left right) lists f)
both_of_each left right lists f =
    let stands = stands_by lists f.start in
    let n = f.len in
    let ly = hits_listed left stands n in
    let lz = hits_listed right stands n in
    let ys = hits left stands n in
    let zs = hits right stands n in
    let inner = covers_inner ys zs ly.ascending lz.ascending in
    let is : covers ys zs ≡ hits (Both BothOf left right) stands n =
    hits_are (Both BothOf left right) stands n (covers ys zs)
    (both_listed n stands (covers ys zs) BothOf left right (both_of_combined n _ _ ys zs ly lz (covers ys zs) inner)) in
    subst (λ (xs : List Extent). AreInnermost (IsCover (map (moved f.start) ys) (map (moved f.start) zs)) (map (moved f.start) xs)) is
    (covers_moved f.start ys zs (covers ys zs) inner)

pub followed_by_each : (left right : Region) (lists : List TermList) (f : Range)
    → AreInnermost (IsSpan (frame_hits left lists f) (frame_hits right lists f)) (frame_hits (Both FollowedBy left right) lists f)
followed_by_each left right lists f =
    let stands = stands_by lists f.start in
    let n = f.len in
    let ly = hits_listed left stands n in
    let lz = hits_listed right stands n in
    let ys = hits left stands n in
    let zs = hits right stands n in
    let inner = spans_inner ys zs ly.ascending lz.ascending in
    let is : spans ys zs ≡ hits (Both FollowedBy left right) stands n =
    hits_are (Both FollowedBy left right) stands n (spans ys zs)
    (both_listed n stands (spans ys zs) FollowedBy left right (followed_by_combined n _ _ ys zs ly lz (spans ys zs) inner)) in
    subst (λ (xs : List Extent). AreInnermost (IsSpan (map (moved f.start) ys) (map (moved f.start) zs)) (map (moved f.start) xs)) is
    (spans_moved f.start ys zs (spans ys zs) inner)

-- where every one passes, a filter keeps all
pub keeps_all : (p : Extent → Bool) (xs : List Extent) → ((x : Extent) → Has xs x → p x ≡ true) → filter p xs ≡ xs
keeps_all p [] passes = refl
keeps_all p (x ∷ xs) passes = rw (passes x (inl refl), keeps_all p xs (λ y has. passes y (inr has))) refl

module _ (left right : Region) (lists : List TermList) (frames : List Range) (apart : AreApart frames) (xs : List Extent) where
  one_lies_in : (region : Region) (x : Extent) → Has (frames_hits region lists frames) x → lies_in_one frames x ≡ true
  one_lies_in region x has =
      let s = in_some_frame region lists frames x has in
      lies_one frames s.0 x s.1 (extent_lies region lists s.0 x s.2)

  union_lies : (x : Extent) → IsOneOf (frames_hits left lists frames) (frames_hits right lists frames) x → lies_in_one frames x ≡ true
  union_lies x (inl has) = one_lies_in left x has
  union_lies x (inr has) = one_lies_in right x has

  union_ordered : (x : Extent) → IsOneOf (frames_hits left lists frames) (frames_hits right lists frames) x → x.start ≤ x.end
  union_ordered x (inl has) = is_ordered left lists frames x has
  union_ordered x (inr has) = is_ordered right lists frames x has

  union_wide : (f : Range) (x : Extent) → HasFrame frames f → IsOneOf (frame_hits left lists f) (frame_hits right lists f) x
      → IsOneOf (frames_hits left lists frames) (frames_hits right lists frames) x
  union_wide f x sees (inl has) = inl (from_frame left lists frames f x sees has)
  union_wide f x sees (inr has) = inr (from_frame right lists frames f x sees has)

  union_narrow : (f : Range) (x : Extent) → HasFrame frames f → IsOneOf (frames_hits left lists frames) (frames_hits right lists frames) x
      → LiesIn f x → IsOneOf (frame_hits left lists f) (frame_hits right lists f) x
  union_narrow f x sees (inl has) lies = inl (has_in left lists frames f x apart sees has lies)
  union_narrow f x sees (inr has) lies = inr (has_in right lists frames f x apart sees has lies)

  pub one_of_whole : AreInnermost (IsOneOf (frames_hits left lists frames) (frames_hits right lists frames)) xs
      → xs ≡ frames_hits (Both OneOf left right) lists frames
  one_of_whole inner =
      sym (keeps_all (lies_in_one frames) xs (λ x has. union_lies x (inner.sound x has)))
      ∙ framed (Both OneOf left right) lists frames apart (IsOneOf (frames_hits left lists frames) (frames_hits right lists frames))
      (λ f. IsOneOf (frame_hits left lists f) (frame_hits right lists f)) xs inner
      (λ f sees. one_of_each left right lists f) union_wide union_narrow union_ordered

  pub both_of_whole : AreInnermost (IsCover (frames_hits left lists frames) (frames_hits right lists frames)) xs
      → filter (lies_in_one frames) xs ≡ frames_hits (Both BothOf left right) lists frames
  both_of_whole inner =
      framed (Both BothOf left right) lists frames apart (IsCover (frames_hits left lists frames) (frames_hits right lists frames))
      (λ f. IsCover (frame_hits left lists f) (frame_hits right lists f)) xs inner
      (λ f sees. both_of_each left right lists f)
      (λ f x sees c. (c.0, c.1, from_frame left lists frames f c.0 sees c.2, from_frame right lists frames f c.1 sees c.3, c.4))
      (λ f x sees c lies.
      let starts : (cover c.0 c.1).start ≡ x.start = ap (λ (e : Extent). e.start) c.4 in
      let ends : (cover c.0 c.1).end ≡ x.end = ap (λ (e : Extent). e.end) c.4 in
      let one : Holds x c.0 = record { start = omega (arith, starts); last = omega (arith, ends) } in
      let other : Holds x c.1 = record { start = omega (arith, starts); last = omega (arith, ends) } in (
        c.0,
        c.1,
        has_in left lists frames f c.0 apart sees c.2 (lies_within f x c.0 lies one (is_ordered left lists frames c.0 c.2)),
        has_in right lists frames f c.1 apart sees c.3 (lies_within f x c.1 lies other (is_ordered right lists frames c.1 c.3)),
        c.4,
      ))
      (λ x c.
      let starts : (cover c.0 c.1).start ≡ x.start = ap (λ (e : Extent). e.start) c.4 in
      let ends : (cover c.0 c.1).end ≡ x.end = ap (λ (e : Extent). e.end) c.4 in
      let ordered : c.0.start ≤ c.0.end = is_ordered left lists frames c.0 c.2 in
      omega (arith, starts, ends))

  pub followed_by_whole : AreInnermost (IsSpan (frames_hits left lists frames) (frames_hits right lists frames)) xs
      → filter (lies_in_one frames) xs ≡ frames_hits (Both FollowedBy left right) lists frames
  followed_by_whole inner =
      framed (Both FollowedBy left right) lists frames apart (IsSpan (frames_hits left lists frames) (frames_hits right lists frames))
      (λ f. IsSpan (frame_hits left lists f) (frame_hits right lists f)) xs inner
      (λ f sees. followed_by_each left right lists f)
      (λ f x sees c. (c.0, c.1, from_frame left lists frames f c.0 sees c.2, from_frame right lists frames f c.1 sees c.3, c.4, c.5))
      (λ f x sees c lies.
      let starts : c.0.start ≡ x.start = ap (λ (e : Extent). e.start) c.5 in
      let ends : c.1.end ≡ x.end = ap (λ (e : Extent). e.end) c.5 in
      let later : c.0.end < c.1.start = c.4 in
      let left_ordered : c.0.start ≤ c.0.end = is_ordered left lists frames c.0 c.2 in
      let right_ordered : c.1.start ≤ c.1.end = is_ordered right lists frames c.1 c.3 in
      let one : Holds x c.0 = record { start = omega arith; last = omega arith } in
      let other : Holds x c.1 = record { start = omega arith; last = omega arith } in (
        c.0,
        c.1,
        has_in left lists frames f c.0 apart sees c.2 (lies_within f x c.0 lies one left_ordered),
        has_in right lists frames f c.1 apart sees c.3 (lies_within f x c.1 lies other right_ordered),
        later,
        c.5,
      ))
      (λ x c.
      let starts : c.0.start ≡ x.start = ap (λ (e : Extent). e.start) c.5 in
      let ends : c.1.end ≡ x.end = ap (λ (e : Extent). e.end) c.5 in
      let later : c.0.end < c.1.start = c.4 in
      let left_ordered : c.0.start ≤ c.0.end = is_ordered left lists frames c.0 c.2 in
      let right_ordered : c.1.start ≤ c.1.end = is_ordered right lists frames c.1 c.3 in
      omega arith)

-- ---- the operators that keep extents of their left operand

flat_alike : (g h : Range → List Extent) (frames : List Range) → ((f : Range) → HasFrame frames f → g f ≡ h f)
    → flat_map g frames ≡ flat_map h frames
flat_alike g h [] same = refl
flat_alike g h (f ∷ frames) same = rw (same f (inl refl), flat_alike g h frames (λ k sees. same k (inr sees))) refl

filter_flat : (p : Extent → Bool) (g : Range → List Extent) (frames : List Range)
    → filter p (flat_map g frames) ≡ flat_map (λ f. filter p (g f)) frames
filter_flat p g [] = refl
filter_flat p g (f ∷ frames) = filter-append p (g f) (flat_map g frames)
    ∙ ap (λ (xs : List Extent). filter p (g f) ++ xs) (filter_flat p g frames)

-- a test that is each frame's own on the frame's extents
pub kept_whole : (left region : Region) (lists : List TermList) (frames : List Range) (p : Extent → Bool) (q : Range → Extent → Bool)
    → ((f : Range) (x : Extent) → HasFrame frames f → Has (frame_hits left lists f) x → p x ≡ q f x)
    → ((f : Range) → filter (q f) (frame_hits left lists f) ≡ frame_hits region lists f)
    → filter p (frames_hits left lists frames) ≡ frames_hits region lists frames
kept_whole left region lists frames p q same each =
    filter_flat p (frame_hits left lists) frames
    ∙ flat_alike (λ f. filter p (frame_hits left lists f)) (frame_hits region lists) frames
    (λ f sees. filter_alike p (q f) (frame_hits left lists f) (λ x has. same f x sees has) ∙ each f)

-- the test of a frame, at places
pub kept_each : (left region : Region) (lists : List TermList) (f : Range) (q r : Extent → Bool)
    → ((x : Extent) → q (moved f.start x) ≡ r x)
    → Lists f.len (is_in region (stands_by lists f.start) f.len) (filter r (hits left (stands_by lists f.start) f.len))
    → filter q (frame_hits left lists f) ≡ frame_hits region lists f
kept_each left region lists f q r same is =
    filter_moved f.start q r (hits left (stands_by lists f.start) f.len) same
    ∙ ap (map (moved f.start)) (hits_are region (stands_by lists f.start) f.len _ is)

module _ (left right : Region) (lists : List TermList) (frames : List Range) (apart : AreApart frames) where
  holds_alike : (f : Range) (x : Extent) → HasFrame frames f → Has (frame_hits left lists f) x
      → list_any (λ y. holds x y) (frames_hits right lists frames) ≡ list_any (λ y. holds x y) (frame_hits right lists f)
  holds_alike f x sees has = both_ways _ _
      (λ is.
      let o = found (λ y. holds x y) (frames_hits right lists frames) is in
      let lies = lies_within f x o.0 (extent_lies left lists f x has) (holds_means x o.0 o.2) (is_ordered right lists frames o.0 o.1) in
      finds (λ y. holds x y) (frame_hits right lists f) o.0 (has_in right lists frames f o.0 apart sees o.1 lies) o.2)
      (λ is.
      let o = found (λ y. holds x y) (frame_hits right lists f) is in
      finds (λ y. holds x y) (frames_hits right lists frames) o.0 (from_frame right lists frames f o.0 sees o.1) o.2)

  held_alike : (f : Range) (x : Extent) → HasFrame frames f → Has (frame_hits left lists f) x
      → list_any (λ y. holds y x) (frames_hits right lists frames) ≡ list_any (λ y. holds y x) (frame_hits right lists f)
  held_alike f x sees has = both_ways _ _
      (λ is.
      let o = found (λ y. holds y x) (frames_hits right lists frames) is in
      let s = in_some_frame right lists frames o.0 o.1 in
      let lies = extent_lies left lists f x has in
      let outer = extent_lies right lists s.0 o.0 s.2 in
      let inside : LiesIn s.0 x = lies_within s.0 o.0 x outer (holds_means o.0 x o.2) lies.ordered in
      let same : s.0 ≡ f = one_frame frames s.0 f x apart s.1 sees inside lies in
      finds (λ y. holds y x) (frame_hits right lists f) o.0 (subst (λ (g : Range). Has (frame_hits right lists g) o.0) same s.2) o.2)
      (λ is.
      let o = found (λ y. holds y x) (frame_hits right lists f) is in
      finds (λ y. holds y x) (frames_hits right lists frames) o.0 (from_frame right lists frames f o.0 sees o.1) o.2)

  holds_each : (w : Bool) (f : Range) (x : Extent)
      → is_wanted w (list_any (λ y. holds (moved f.start x) y) (frame_hits right lists f))
      ≡ is_wanted w (list_any (λ y. holds x y) (hits right (stands_by lists f.start) f.len))
  holds_each w f x = ap (is_wanted w) (any_moved f.start (λ y. holds (moved f.start x) y) (λ y. holds x y)
      (hits right (stands_by lists f.start) f.len) (λ y. holds_moved f.start x y))

  held_each : (w : Bool) (f : Range) (x : Extent)
      → is_wanted w (list_any (λ y. holds y (moved f.start x)) (frame_hits right lists f))
      ≡ is_wanted w (list_any (λ y. holds y x) (hits right (stands_by lists f.start) f.len))
  held_each w f x = ap (is_wanted w) (any_moved f.start (λ y. holds y (moved f.start x)) (λ y. holds y x)
      (hits right (stands_by lists f.start) f.len) (λ y. holds_moved f.start y x))

  holding_whole : (w : Bool) (op : Op)
      → ((f : Range) → Lists f.len (is_in (Both op left right) (stands_by lists f.start) f.len)
      (holding w (hits left (stands_by lists f.start) f.len) (hits right (stands_by lists f.start) f.len)))
      → holding w (frames_hits left lists frames) (frames_hits right lists frames) ≡ frames_hits (Both op left right) lists frames
  holding_whole w op each =
      kept_whole left (Both op left right) lists frames (λ x. is_wanted w (list_any (λ y. holds x y) (frames_hits right lists frames)))
      (λ f x. is_wanted w (list_any (λ y. holds x y) (frame_hits right lists f)))
      (λ f x sees has. ap (is_wanted w) (holds_alike f x sees has))
      (λ f. kept_each left (Both op left right) lists f (λ x. is_wanted w (list_any (λ y. holds x y) (frame_hits right lists f)))
      (λ x. is_wanted w (list_any (λ y. holds x y) (hits right (stands_by lists f.start) f.len))) (holds_each w f) (each f))

  held_whole : (w : Bool) (op : Op)
      → ((f : Range) → Lists f.len (is_in (Both op left right) (stands_by lists f.start) f.len)
      (held w (hits left (stands_by lists f.start) f.len) (hits right (stands_by lists f.start) f.len)))
      → held w (frames_hits left lists frames) (frames_hits right lists frames) ≡ frames_hits (Both op left right) lists frames
  held_whole w op each =
      kept_whole left (Both op left right) lists frames (λ x. is_wanted w (list_any (λ y. holds y x) (frames_hits right lists frames)))
      (λ f x. is_wanted w (list_any (λ y. holds y x) (frame_hits right lists f)))
      (λ f x sees has. ap (is_wanted w) (held_alike f x sees has))
      (λ f. kept_each left (Both op left right) lists f (λ x. is_wanted w (list_any (λ y. holds y x) (frame_hits right lists f)))
      (λ x. is_wanted w (list_any (λ y. holds y x) (hits right (stands_by lists f.start) f.len))) (held_each w f) (each f))

  pub containing_whole :
      holding true (frames_hits left lists frames) (frames_hits right lists frames) ≡ frames_hits (Both Containing left right) lists frames
  containing_whole = holding_whole true Containing (λ f. both_listed f.len (stands_by lists f.start) _ Containing left right
      (containing_combined f.len _ _ _ _ (hits_listed left (stands_by lists f.start) f.len)
      (hits_listed right (stands_by lists f.start) f.len)))

  pub not_containing_whole :
      holding false (frames_hits left lists frames) (frames_hits right lists frames)
      ≡ frames_hits (Both NotContaining left right) lists frames
  not_containing_whole = holding_whole false NotContaining (λ f. both_listed f.len (stands_by lists f.start) _ NotContaining left right
      (not_containing_combined f.len _ _ _ _ (hits_listed left (stands_by lists f.start) f.len)
      (hits_listed right (stands_by lists f.start) f.len)))

  pub contained_in_whole :
      held true (frames_hits left lists frames) (frames_hits right lists frames) ≡ frames_hits (Both ContainedIn left right) lists frames
  contained_in_whole = held_whole true ContainedIn (λ f. both_listed f.len (stands_by lists f.start) _ ContainedIn left right
      (contained_in_combined f.len _ _ _ _ (hits_listed left (stands_by lists f.start) f.len)
      (hits_listed right (stands_by lists f.start) f.len)))

  pub not_contained_in_whole :
      held false (frames_hits left lists frames) (frames_hits right lists frames)
      ≡ frames_hits (Both NotContainedIn left right) lists frames
  not_contained_in_whole = held_whole false NotContainedIn (λ f. both_listed f.len (stands_by lists f.start) _ NotContainedIn left right
      (not_contained_in_combined f.len _ _ _ _ (hits_listed left (stands_by lists f.start) f.len)
      (hits_listed right (stands_by lists f.start) f.len)))
