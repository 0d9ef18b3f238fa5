-- Lines and files over frames that lie apart, as spans of the addresses of two tags; and what operators make of those near extents.
use Rattle.std.proofs.Common.{◌≡◌, ℕ, ◌+◌, ◌<◌, ◌≤◌, true, ◌⊎◌, List, [], ◌∷◌, refl, sym, ap, ◌∙◌, subst, inl, inr, arith, map}
use Rattle.std.proofs.lemmas.Bool.{and_parts, and_from}
use Rattle.wu_base.specs.declared.addresses.Extent.{Extent}
use Rattle.wu_base.specs.declared.addresses.Range.{Range}
use Rattle.wu_base.specs.declared.addresses.TermList.{TermList}
use Rattle.wu_gcl.specs.declared.expressions.Op.TheVariants.{FollowedBy}
use Rattle.wu_gcl.specs.declared.expressions.Tag.{Tag}
use Rattle.wu_gcl.specs.Reading.{tag_text}
use Rattle.wu_gcl.specs.Regions.{Region, Phrase, Mark, Both}
use Rattle.wu_solve.specs.Addresses.{has_address, stands_by, AreAddressesOf}
use Rattle.wu_solve.specs.Frames.{lies_in_one}
use Rattle.wu_solve.specs.Listing.{Has}
use Rattle.wu_solve.specs.Merging.{span, IsSpan, AreInnermost}
use Rattle.wu_solve.specs.Solving.{moved, frame_hits, frames_hits}
use Rattle.wu_solve.specs.Spanning.{IsSpanOf, AreSpansNear, AreHitsNear}
use Rattle.wu_solve.proofs.OneFrame.{in_some_frame, from_frame, one_lies, lies_one}
use Rattle.wu_solve.proofs.Operators.{no_other}
use Rattle.wu_solve.proofs.PhrasesInFrames.{phrase_at, at_phrase}
use Rattle.wu_solve.proofs.Results.{LiesIn, extent_lies}
use Rattle.wu_solve.proofs.SameRegions.{tag_is_word}
use Rattle.wu_solve.proofs.Sets.{holds_means, same_ends}
use Rattle.wu_solve.proofs.Whole.{followed_by_each}

-- ---- one tag in a frame

tag_of_frame : (lists : List TermList) (tag : Tag) (f : Range)
    → frame_hits (Phrase (tag_text tag ∷ [])) lists f ≡ frame_hits (Mark tag) lists f
tag_of_frame lists tag f = ap (map (moved f.start)) (tag_is_word tag (stands_by lists f.start) f.len)

mark_at : (lists : List TermList) (tag : Tag) (f : Range) (x : Extent) → Has (frame_hits (Mark tag) lists f) x
    → (x.start ≡ x.end) × (has_address lists (tag_text tag) x.start ≡ true)
mark_at lists tag f x has =
    let s = phrase_at lists (tag_text tag ∷ []) f x (subst (λ (xs : List Extent). Has xs x) (sym (tag_of_frame lists tag f)) has) in
    let long : x.start + 1 ≡ x.end + 1 = s.long in
    (omega arith, (and_parts (has_address lists (tag_text tag) x.start) true s.stand).0)

at_mark : (lists : List TermList) (tag : Tag) (f : Range) (a : ℕ) → f.start ≤ a → a < f.start + f.len
    → has_address lists (tag_text tag) a ≡ true → Has (frame_hits (Mark tag) lists f) (record { start = a; end = a })
at_mark lists tag f a low high stands =
    let x : Extent = record { start = a; end = a } in
    subst (λ (xs : List Extent). Has xs x) (tag_of_frame lists tag f)
    (at_phrase lists (tag_text tag ∷ []) f x (record { low = low; ordered = omega arith; high = high })
    (record { long = refl; stand = and_from (has_address lists (tag_text tag) a) true stands refl }))

-- ---- from one tag to another

module _ (lists : List TermList) (first last : Tag) (starts ends : List ℕ) (starts_are : AreAddressesOf lists (tag_text first) starts)
    (ends_are : AreAddressesOf lists (tag_text last) ends) where
  abbrev pub between : Region
  between = Both FollowedBy (Mark first) (Mark last)

  abbrev candidates : Range → Extent → Type 0
  candidates f = IsSpan (frame_hits (Mark first) lists f) (frame_hits (Mark last) lists f)

  inner : (f : Range) → AreInnermost (candidates f) (frame_hits between lists f)
  inner f = followed_by_each (Mark first) (Mark last) lists f

  -- no candidate lies in an extent of the frame but itself
  alone : (f : Range) (x : Extent) → Has (frame_hits between lists f) x → (y z : Extent) → Has (frame_hits (Mark first) lists f) y
      → Has (frame_hits (Mark last) lists f) z → y.end < z.start → x.start ≤ y.start → z.end ≤ x.end → (y.start ≤ x.start) × (x.end ≤ z.end)
  alone f x has y z hy hz apart low high =
      let d = (inner f).dense (span y z) (y, z, hy, hz, apart, refl) in
      let h = holds_means (span y z) d.0 d.2 in
      let same : x ≡ d.0 = no_other (frame_hits between lists f) x d.0 (inner f).ascending has d.1
      (record { start = omega (arith, low, h.start); last = omega (arith, high, h.last) }) in
      let starts_alike : x.start ≡ d.0.start = ap (λ (e : Extent). e.start) same in
      let ends_alike : x.end ≡ d.0.end = ap (λ (e : Extent). e.end) same in
      (omega (arith, starts_alike, h.start), omega (arith, ends_alike, h.last))

  span_of_frame : (f : Range) (x : Extent) → Has (frame_hits between lists f) x → IsSpanOf starts ends x
  span_of_frame f x has =
      let c = (inner f).sound x has in
      let y = c.0 in
      let z = c.1 in
      let apart : y.end < z.start = c.4 in
      let begins : y.start ≡ x.start = ap (λ (e : Extent). e.start) c.5 in
      let stops : z.end ≡ x.end = ap (λ (e : Extent). e.end) c.5 in
      let at_start = mark_at lists first f y c.2 in
      let at_end = mark_at lists last f z c.3 in
      let one : y.start ≡ y.end = at_start.0 in
      let other : z.start ≡ z.end = at_end.0 in
      let lies = extent_lies between lists f x has in
      let forward : x.start < x.end = omega (arith, apart, begins, stops, one, other) in
      let stops_there : z.start ≡ x.end = other ∙ stops in
      record {
        from_start = starts_are.same x.start ∙ subst (λ (a : ℕ). has_address lists (tag_text first) a ≡ true) begins at_start.1;
        to_end = ends_are.same x.end ∙ subst (λ (a : ℕ). has_address lists (tag_text last) a ≡ true) stops_there at_end.1;
        forward = forward;
        no_start = λ a is less. elim (beside x.end a) [
          | inl over ↦ over
          | inr low ↦
              let between_them = alone f x has (record { start = a; end = a }) z
              (at_mark lists first f a (omega (arith, lies.low, less)) (omega (arith, lies.high, low)) (sym (starts_are.same a) ∙ is)) c.3
              (omega (arith, low, stops_there)) (omega (arith, less)) (omega (arith, stops)) in
              absurd (omega (arith, less, between_them.0))
        ];
        no_end = λ a is less. elim (beside x.end a) [
          | inl over ↦ over
          | inr low ↦
              let between_them = alone f x has y (record { start = a; end = a }) c.2
              (at_mark lists last f a (omega (arith, lies.low, less)) (omega (arith, lies.high, low)) (sym (ends_are.same a) ∙ is))
              (omega (arith, less, begins, one)) (omega (arith, begins)) (omega (arith, low)) in
              absurd (omega (arith, low, between_them.1))
        ];
      }
    where
      beside : (a b : ℕ) → (a ≤ b) ⊎ (b < a)
      beside a b = grind arith

  frame_of_span : (f : Range) (x : Extent) → LiesIn f x → IsSpanOf starts ends x → Has (frame_hits between lists f) x
  frame_of_span f x lies is =
      let y : Extent = record { start = x.start; end = x.start } in
      let z : Extent = record { start = x.end; end = x.end } in
      let forward = is.forward in
      let hy = at_mark lists first f x.start lies.low (omega (arith, lies.ordered, lies.high))
      (sym (starts_are.same x.start) ∙ is.from_start) in
      let hz = at_mark lists last f x.end (omega (arith, lies.low, lies.ordered)) lies.high (sym (ends_are.same x.end) ∙ is.to_end) in
      let d = (inner f).dense (span y z) (y, z, hy, hz, forward, refl) in
      let h = holds_means (span y z) d.0 d.2 in
      let s = span_of_frame f d.0 d.1 in
      let ahead = s.forward in
      let begins : d.0.start ≤ x.start = elim (beside d.0.start x.start) [
        | inl low ↦ low
        | inr far ↦ let over = is.no_start d.0.start s.from_start far in absurd (omega (arith, over, ahead, h.last))
      ] in
      let stops = is.no_end d.0.end s.to_end (omega (arith, h.start, ahead)) in
      subst (λ (e : Extent). Has (frame_hits between lists f) e)
      (same_ends d.0 x (omega (arith, begins, h.start)) (omega (arith, stops, h.last))) d.1
    where
      beside : (a b : ℕ) → (a ≤ b) ⊎ (b < a)
      beside a b = grind arith

  module _ (frames : List Range) where
    spans_are : (x : Extent) → Has (frames_hits between lists frames) x → IsSpanOf starts ends x × (lies_in_one frames x ≡ true)
    spans_are x has =
        let s = in_some_frame between lists frames x has in
        (span_of_frame s.0 x s.2, lies_one frames s.0 x s.1 (extent_lies between lists s.0 x s.2))

    are_spans : (x : Extent) → IsSpanOf starts ends x → lies_in_one frames x ≡ true → Has (frames_hits between lists frames) x
    are_spans x is lies =
        let o = one_lies frames x lies in
        let forward = is.forward in
        from_frame between lists frames o.0 x o.1
        (frame_of_span o.0 x (record { low = o.2; ordered = omega (arith, forward); high = o.3 }) is)

    pub hits_near : (extents xs : List Extent) → AreSpansNear starts ends frames extents xs → AreHitsNear between lists frames extents xs
    hits_near extents xs near = record {
      ascending = near.ascending;
      sound = λ y has. let s = near.sound y has in are_spans y s.0 s.1;
      complete = λ x y has close hit. let s = spans_are y hit in near.complete x y has close s.0 s.1;
    }
