-- Of an operand only what stands near the other one's extents, where the operator tests no more.
use Rattle.std.proofs.Common.{◌≡◌, ℕ, ◌+◌, ◌-◌, ◌^◌, ◌<◌, ◌≤◌, Bool, true, false, List, [], ◌∷◌, sym, ap, ◌∙◌, subst, inl, inr, arith}
use Rattle.std.proofs.Common.{filter}
use Rattle.std.proofs.Common.{le-leb, nat_le}
use Rattle.std.specs.Cmp.{both_ways}
use Rattle.std.proofs.lemmas.Bool.{false≢true}
use Rattle.std.specs.Prelude.{IfSome}
use Rattle.std.specs.List.{All, list_any}
use Rattle.std.proofs.lemmas.List.Elements.{All-from_recursion, recursion_from_All}
use Rattle.wu_base.specs.Ranges.{AreApart}
use Rattle.wu_base.specs.declared.addresses.Extent.{Extent}
use Rattle.wu_base.specs.declared.addresses.Range.{Range}
use Rattle.wu_base.specs.declared.addresses.TermList.{TermList}
use Rattle.wu_gcl.specs.declared.expressions.Op.{Op}
use Rattle.wu_gcl.specs.declared.expressions.Op.TheVariants.{Containing, ContainedIn, NotContaining, NotContainedIn, OneOf, BothOf}
use Rattle.wu_gcl.specs.declared.expressions.Op.TheVariants.{FollowedBy}
use Rattle.wu_gcl.specs.Extents.{holds}
use Rattle.wu_gcl.specs.Regions.{Region, Phrase, Both}
use Rattle.wu_solve.specs.Addresses.{is_among, AreAddressesOf}
use Rattle.wu_solve.specs.Frames.{lies_in_one}
use Rattle.wu_solve.specs.Listing.{Has}
use Rattle.wu_solve.specs.Merging.{IsTest, KeepsByOne, is_wanted, holding, held, tested}
use Rattle.wu_solve.specs.Operands.{run_around, runs_around}
use Rattle.wu_solve.specs.Solving.{AreHits, frames_hits, IsFrame}
use Rattle.wu_solve.specs.Spanning.{IsNear, IsPlaceOf, ArePlacesNear, AreHitsNear}
use Rattle.wu_solve.proofs.OneFrame.{frame_all, in_some_frame, is_ordered, lies_one}
use Rattle.wu_solve.proofs.Order.{one_list, filter_ordered, ordered_from}
use Rattle.wu_solve.proofs.Phrases.{from_among, to_among, has_map, map_has, from_kept, to_kept}
use Rattle.wu_solve.proofs.PhrasesInFrames.{term_whole}
use Rattle.wu_solve.proofs.Results.{extent_lies, filter_alike, frames_ascend}
use Rattle.wu_solve.proofs.Sets.{holds_means, found, finds, all_from, same_ends, from_filter, to_filter}
use Rattle.wu_solve.proofs.Whole.{containing_whole, contained_in_whole, not_containing_whole, not_contained_in_whole}

module _ (region : Region) (lists : List TermList) (frames : List Range) (apart : AreApart frames) (extents xs : List Extent)
    (near : AreHitsNear region lists frames extents xs) where
  holds_near : (x : Extent) → Has extents x
      → list_any (λ y. holds x y) xs ≡ list_any (λ y. holds x y) (frames_hits region lists frames)
  holds_near x has = both_ways _ _
      (λ is. let f = found (λ y. holds x y) xs is in
      finds (λ y. holds x y) (frames_hits region lists frames) f.0 (near.sound f.0 f.1) f.2)
      (λ is. let f = found (λ y. holds x y) (frames_hits region lists frames) is in
      finds (λ y. holds x y) xs f.0 (near.complete x f.0 has (inl f.2) f.1) f.2)

  held_near : (x : Extent) → Has extents x
      → list_any (λ y. holds y x) xs ≡ list_any (λ y. holds y x) (frames_hits region lists frames)
  held_near x has = both_ways _ _
      (λ is. let f = found (λ y. holds y x) xs is in
      finds (λ y. holds y x) (frames_hits region lists frames) f.0 (near.sound f.0 f.1) f.2)
      (λ is. let f = found (λ y. holds y x) (frames_hits region lists frames) is in
      finds (λ y. holds y x) xs f.0 (near.complete x f.0 has (inr f.2) f.1) f.2)

  -- as the right operand

  pub holding_near : (w : Bool) → holding w extents xs ≡ holding w extents (frames_hits region lists frames)
  holding_near w = filter_alike _ _ extents (λ x has. ap (is_wanted w) (holds_near x has))

  pub held_by_near : (w : Bool) → held w extents xs ≡ held w extents (frames_hits region lists frames)
  held_by_near w = filter_alike _ _ extents (λ x has. ap (is_wanted w) (held_near x has))

  -- as the left operand

  kept_alike : (p : Extent → Bool) → ((y : Extent) → p y ≡ true → (x : Extent) × Has extents x × IsNear x y)
      → filter p xs ≡ filter p (frames_hits region lists frames)
  kept_alike p close = one_list (filter p xs) (filter p (frames_hits region lists frames))
      (filter_ordered p xs (ordered_from xs near.ascending))
      (filter_ordered p (frames_hits region lists frames)
      (ordered_from (frames_hits region lists frames) (frames_ascend region lists frames apart)))
      (λ y has.
      let k = from_filter p xs y has in
      to_filter p (frames_hits region lists frames) y (near.sound y k.0) k.1)
      (λ y has.
      let k = from_filter p (frames_hits region lists frames) y has in
      let c = close y k.1 in
      to_filter p xs y (near.complete c.0 y c.1 c.2 k.0) k.1)

  pub near_holding : holding true xs extents ≡ holding true (frames_hits region lists frames) extents
  near_holding = kept_alike (λ y. list_any (λ x. holds y x) extents) (λ y is.
      let f = found (λ x. holds y x) extents is in (f.0, f.1, inr f.2))

  pub near_held : held true xs extents ≡ held true (frames_hits region lists frames) extents
  near_held = kept_alike (λ y. list_any (λ x. holds x y) extents) (λ y is.
      let f = found (λ x. holds x y) extents is in (f.0, f.1, inl f.2))

-- ---- the extents of an expression

pub all_ordered : (region : Region) (lists : List TermList) (frames : List Range)
    → All (λ x. x.start ≤ x.end) (frames_hits region lists frames)
all_ordered region lists frames =
    All-from_recursion (λ x. x.start ≤ x.end) (frames_hits region lists frames)
    (all_from (λ x. x.start ≤ x.end) (frames_hits region lists frames) (λ x has. is_ordered region lists frames x has))

pub all_low : (region : Region) (lists : List TermList) (frames : List Range) → All IsFrame frames
    → All (λ x. x.end < 2 ^ 47) (frames_hits region lists frames)
all_low region lists frames are =
    All-from_recursion (λ x. x.end < 2 ^ 47) (frames_hits region lists frames)
    (all_from (λ x. x.end < 2 ^ 47) (frames_hits region lists frames) (λ x has.
    let s = in_some_frame region lists frames x has in
    let frame : s.0.start + s.0.len ≤ 2 ^ 47 = frame_all IsFrame frames s.0 (recursion_from_All IsFrame frames are) s.1 in
    let lies = extent_lies region lists s.0 x s.2 in
    omega (arith, lies.high, frame)))

-- ---- the places of a term

module _ (lists : List TermList) (frames : List Range) (apart : AreApart frames) (term addresses : List ℕ)
    (are : AreAddressesOf lists term addresses) where
  places_are : (x : Extent) → Has (frames_hits (Phrase (term ∷ [])) lists frames) x → IsPlaceOf addresses x
  places_are x has =
      let kept = subst (λ (xs : List Extent). Has xs x) (sym (term_whole lists frames apart term addresses are)) has in
      let m = has_map (run_around 0 0) (filter (λ a. nat_le 0 a) addresses) x
      (from_filter (lies_in_one frames) (runs_around 0 0 addresses) x kept).0 in
      let starts : m.0 - 0 ≡ x.start = ap (λ (e : Extent). e.start) m.2 in
      let ends : m.0 + 0 ≡ x.end = ap (λ (e : Extent). e.end) m.2 in
      let among = to_among addresses m.0 (from_kept (λ a. nat_le 0 a) addresses m.0 m.1).0 in
      let same : m.0 ≡ x.start = omega (arith, starts) in
      record { alone = omega (arith, starts, ends); among = subst (λ (a : ℕ). is_among addresses a ≡ true) same among }

  are_places : (x : Extent) → IsPlaceOf addresses x → lies_in_one frames x ≡ true → Has (frames_hits (Phrase (term ∷ [])) lists frames) x
  are_places x place lies =
      let alone : x.start ≡ x.end = place.alone in
      let run = map_has (run_around 0 0) (filter (λ a. nat_le 0 a) addresses) x.start
      (to_kept (λ a. nat_le 0 a) addresses x.start (from_among addresses x.start place.among) (le-leb 0 x.start (omega arith))) in
      let same : run_around 0 0 x.start ≡ x = same_ends (run_around 0 0 x.start) x (omega arith) (omega (arith, alone)) in
      subst (λ (xs : List Extent). Has xs x) (term_whole lists frames apart term addresses are)
      (to_filter (lies_in_one frames) (runs_around 0 0 addresses) x
      (subst (λ (e : Extent). Has (runs_around 0 0 addresses) e) same run) lies)

  pub places_hits_near : (extents xs : List Extent) → AreHits lists frames extents → ArePlacesNear addresses extents xs
      → AreHitsNear (Phrase (term ∷ [])) lists frames extents xs
  places_hits_near extents xs hits near = record {
    ascending = near.ascending;
    sound = λ y has.
        let s = near.sound y has in
        let x = s.1.0 in
        let h = holds_means x y s.1.2 in
        let f = in_some_frame hits.0 lists frames x (subst (λ (es : List Extent). Has es x) hits.1 s.1.1) in
        let lies = extent_lies hits.0 lists f.0 x f.2 in
        let alone : y.start ≡ y.end = s.0.alone in
        are_places y s.0 (lies_one frames f.0 y f.1 (record {
          low = omega (arith, lies.low, h.start);
          ordered = omega (arith, alone);
          high = omega (arith, lies.high, h.last);
        }));
    complete = λ x y has close hit. near.complete x y has close (places_are y hit);
  }

-- ---- what an operator makes of them

module _ (lists : List TermList) (frames : List Range) (apart : AreApart frames) (one other : Region) where
  -- of the right operand, where the operator only tests the left one's extents
  pub right_near : (op : Op) (xs all : List Extent) → AreHitsNear other lists frames (frames_hits one lists frames) xs
      → IfSome (tested op (frames_hits one lists frames) xs) (λ kept. all ≡ kept) → IsTest op
      → all ≡ frames_hits (Both op one other) lists frames
  right_near Containing xs all near is test =
      is ∙ holding_near other lists frames apart (frames_hits one lists frames) xs near true ∙ containing_whole one other lists frames apart
  right_near ContainedIn xs all near is test =
      is ∙ held_by_near other lists frames apart (frames_hits one lists frames) xs near true
      ∙ contained_in_whole one other lists frames apart
  right_near NotContaining xs all near is test =
      is ∙ holding_near other lists frames apart (frames_hits one lists frames) xs near false
      ∙ not_containing_whole one other lists frames apart
  right_near NotContainedIn xs all near is test =
      is ∙ held_by_near other lists frames apart (frames_hits one lists frames) xs near false
      ∙ not_contained_in_whole one other lists frames apart
  right_near OneOf xs all near is test = absurd (false≢true test)
  right_near BothOf xs all near is test = absurd (false≢true test)
  right_near FollowedBy xs all near is test = absurd (false≢true test)

  -- of the left operand, where each that is kept stands near one of the right one's extents
  pub left_near : (op : Op) (xs all : List Extent) → AreHitsNear one lists frames (frames_hits other lists frames) xs
      → IfSome (tested op xs (frames_hits other lists frames)) (λ kept. all ≡ kept) → KeepsByOne op
      → all ≡ frames_hits (Both op one other) lists frames
  left_near Containing xs all near is keeps =
      is ∙ near_holding one lists frames apart (frames_hits other lists frames) xs near ∙ containing_whole one other lists frames apart
  left_near ContainedIn xs all near is keeps =
      is ∙ near_held one lists frames apart (frames_hits other lists frames) xs near ∙ contained_in_whole one other lists frames apart
  left_near NotContaining xs all near is keeps = absurd keeps
  left_near NotContainedIn xs all near is keeps = absurd keeps
  left_near OneOf xs all near is keeps = absurd keeps
  left_near BothOf xs all near is keeps = absurd keeps
  left_near FollowedBy xs all near is keeps = absurd keeps

-- the same of an expression that has the same extents
pub near_alike : (region same : Region) (lists : List TermList) (frames : List Range) (extents xs : List Extent)
    → frames_hits region lists frames ≡ frames_hits same lists frames → AreHitsNear region lists frames extents xs
    → AreHitsNear same lists frames extents xs
near_alike region same lists frames extents xs is near = record {
  ascending = near.ascending;
  sound = λ y has. subst (λ (es : List Extent). Has es y) is (near.sound y has);
  complete = λ x y has close hit. near.complete x y has close (subst (λ (es : List Extent). Has es y) (sym is) hit);
}
