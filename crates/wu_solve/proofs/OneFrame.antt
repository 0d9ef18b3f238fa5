-- The extents of frames that lie apart, and the frames that they lie in.
use Rattle.std.proofs.Common.{◌≡◌, ◌+◌, ◌<◌, ◌≤◌, true, ◌⊎◌, List, [], ◌∷◌, refl, sym, ap, ◌∙◌, subst, inl, inr, arith, leb, ltb, leb-true}
use Rattle.std.proofs.Common.{le-leb, ltb-true, lt-ltb}
use Rattle.std.specs.Prelude.{filter}
use Rattle.std.specs.List.{AllByRecursion}
use Rattle.std.proofs.lemmas.Bool.{false≢true, and_parts, and_from, or_cases, or_left, or_right}
use Rattle.wu_base.specs.declared.addresses.Extent.{Extent}
use Rattle.wu_base.specs.declared.addresses.Range.{Range}
use Rattle.wu_base.specs.declared.addresses.TermList.{TermList}
use Rattle.wu_gcl.specs.Regions.{Region}
use Rattle.wu_solve.specs.Frames.{is_place_of, lies_in, lies_in_one}
use Rattle.wu_solve.specs.Listing.{Has}
use Rattle.wu_solve.specs.Merging.{AreInnermost}
use Rattle.wu_solve.specs.Solving.{frame_hits, frames_hits}
use Rattle.wu_base.specs.Ranges.{AreApart}
use Rattle.wu_solve.proofs.Sets.{Holds, holds_means, same_ends, has_left, has_right, has_either, from_filter, to_filter}
use Rattle.wu_solve.proofs.Order.{one_list, filter_ordered, ordered_from}
use Rattle.wu_solve.proofs.Operators.{no_other, holds_through}
use Rattle.wu_solve.proofs.Results.{LiesIn, extent_lies, frames_ascend}

-- one of the frames is the frame
abbrev pub HasFrame : List Range → Range → Type 0
HasFrame [] f = ⊥
HasFrame (g ∷ gs) f = (g ≡ f) ⊎ HasFrame gs f

pub frame_all : (P : Range → Type 0) (frames : List Range) (f : Range) → AllByRecursion P frames → HasFrame frames f → P f
frame_all P [] f all has = absurd has
frame_all P (g ∷ gs) f all (inl here) = subst P here all.0
frame_all P (g ∷ gs) f all (inr more) = frame_all P gs f all.1 more

pub in_some_frame : (region : Region) (lists : List TermList) (frames : List Range) (x : Extent) → Has (frames_hits region lists frames) x
    → (f : Range) × HasFrame frames f × Has (frame_hits region lists f) x
in_some_frame region lists [] x has = absurd has
in_some_frame region lists (frame ∷ frames) x has =
    elim (has_either (frame_hits region lists frame) (frames_hits region lists frames) x has) [
      | inl here ↦ (frame, inl refl, here)
      | inr more ↦ let r = in_some_frame region lists frames x more in (r.0, inr r.1, r.2)
    ]

pub from_frame : (region : Region) (lists : List TermList) (frames : List Range) (f : Range) (x : Extent) → HasFrame frames f
    → Has (frame_hits region lists f) x → Has (frames_hits region lists frames) x
from_frame region lists [] f x sees has = absurd sees
from_frame region lists (frame ∷ frames) f x (inl here) has =
    has_left (frame_hits region lists frame) (frames_hits region lists frames) x
    (subst (λ (g : Range). Has (frame_hits region lists g) x) (sym here) has)
from_frame region lists (frame ∷ frames) f x (inr more) has =
    has_right (frame_hits region lists frame) (frames_hits region lists frames) x (from_frame region lists frames f x more has)

-- an extent lies in one of them at most
not_both : (h g : Range) (x : Extent) → h.start + h.len ≤ g.start → LiesIn h x → LiesIn g x → ⊥
not_both h g x behind lh lg = omega (arith, lh.ordered, lh.high, lg.low)

pub one_frame : (frames : List Range) (f g : Range) (x : Extent) → AreApart frames → HasFrame frames f → HasFrame frames g → LiesIn f x
    → LiesIn g x → f ≡ g
one_frame [] f g x apart hf hg lf lg = absurd hf
one_frame (h ∷ frames) f g x apart (inl a) (inl b) lf lg = sym a ∙ b
one_frame (h ∷ frames) f g x apart (inl a) (inr b) lf lg = absurd
    (not_both h g x (frame_all (λ next. h.start + h.len ≤ next.start) frames g apart.0 b)
    (subst (λ (e : Range). LiesIn e x) (sym a) lf) lg)
one_frame (h ∷ frames) f g x apart (inr a) (inl b) lf lg = absurd
    (not_both h f x (frame_all (λ next. h.start + h.len ≤ next.start) frames f apart.0 a)
    (subst (λ (e : Range). LiesIn e x) (sym b) lg) lf)
one_frame (h ∷ frames) f g x apart (inr a) (inr b) lf lg = one_frame frames f g x apart.1 a b lf lg

pub has_in : (region : Region) (lists : List TermList) (frames : List Range) (f : Range) (x : Extent) → AreApart frames → HasFrame frames f
    → Has (frames_hits region lists frames) x → LiesIn f x → Has (frame_hits region lists f) x
has_in region lists frames f x apart sees has lies =
    let s = in_some_frame region lists frames x has in
    let same : s.0 ≡ f = one_frame frames s.0 f x apart s.1 sees (extent_lies region lists s.0 x s.2) lies in
    subst (λ (g : Range). Has (frame_hits region lists g) x) same s.2

pub is_ordered : (region : Region) (lists : List TermList) (frames : List Range) (x : Extent) → Has (frames_hits region lists frames) x
    → x.start ≤ x.end
is_ordered region lists frames x has =
    let s = in_some_frame region lists frames x has in (extent_lies region lists s.0 x s.2).ordered

-- what lies in an extent lies in its frame
pub lies_within : (f : Range) (x y : Extent) → LiesIn f x → Holds x y → y.start ≤ y.end → LiesIn f y
lies_within f x y l h ordered = record {
  low = omega (arith, l.low, h.start);
  ordered = ordered;
  high = omega (arith, l.high, h.last);
}

lies_means : (f : Range) (x : Extent) → lies_in f x ≡ true → (f.start ≤ x.start) × (x.start < f.start + f.len) × (x.end < f.start + f.len)
lies_means f x is =
    let b = and_parts (is_place_of f x.start) (ltb x.end (f.start + f.len)) is in
    let c = and_parts (leb f.start x.start) (ltb x.start (f.start + f.len)) b.0 in
    (leb-true f.start x.start c.0, ltb-true x.start (f.start + f.len) c.1, ltb-true x.end (f.start + f.len) b.1)

lies_from : (f : Range) (x : Extent) → f.start ≤ x.start → x.start < f.start + f.len → x.end < f.start + f.len → lies_in f x ≡ true
lies_from f x low first last =
    and_from (is_place_of f x.start) _
    (and_from (leb f.start x.start) _ (le-leb f.start x.start low) (lt-ltb x.start (f.start + f.len) first))
    (lt-ltb x.end (f.start + f.len) last)

pub one_lies : (frames : List Range) (x : Extent) → lies_in_one frames x ≡ true
    → (f : Range) × HasFrame frames f × (f.start ≤ x.start) × (x.end < f.start + f.len) × (x.start < f.start + f.len)
one_lies [] x is = absurd (false≢true is)
one_lies (f ∷ frames) x is =
    elim (or_cases (lies_in f x) (lies_in_one frames x) is) [
      | inl here ↦ let b = lies_means f x here in (f, inl refl, b.0, b.2, b.1)
      | inr more ↦ let r = one_lies frames x more in (r.0, inr r.1, r.2, r.3, r.4)
    ]

pub lies_one_by : (frames : List Range) (f : Range) (x : Extent) → HasFrame frames f → f.start ≤ x.start → x.start < f.start + f.len
    → x.end < f.start + f.len → lies_in_one frames x ≡ true
lies_one_by [] f x sees low first last = absurd sees
lies_one_by (g ∷ frames) f x (inl here) low first last =
    or_left (lies_in g x) (lies_in_one frames x) (subst (λ (e : Range). lies_in e x ≡ true) (sym here) (lies_from f x low first last))
lies_one_by (g ∷ frames) f x (inr more) low first last =
    or_right (lies_in g x) (lies_in_one frames x) (lies_one_by frames f x more low first last)

pub lies_one : (frames : List Range) (f : Range) (x : Extent) → HasFrame frames f → LiesIn f x → lies_in_one frames x ≡ true
lies_one frames f x sees lies = lies_one_by frames f x sees lies.low (omega (arith, lies.ordered, lies.high)) lies.high

-- Candidates over all frames and in each: the innermost that lie in one frame are those of the frames.
module _ (region : Region) (lists : List TermList) (frames : List Range) (apart : AreApart frames)
    (IsCandidate : Extent → Type 0) (IsInFrame : Range → Extent → Type 0) (xs : List Extent) (all : AreInnermost IsCandidate xs)
    (each : (f : Range) → HasFrame frames f → AreInnermost (IsInFrame f) (frame_hits region lists f))
    (wide : (f : Range) (x : Extent) → HasFrame frames f → IsInFrame f x → IsCandidate x)
    (narrow : (f : Range) (x : Extent) → HasFrame frames f → IsCandidate x → LiesIn f x → IsInFrame f x)
    (ordered : (x : Extent) → IsCandidate x → x.start ≤ x.end) where
  kept : (x : Extent) → Has (filter (lies_in_one frames) xs) x → Has (frames_hits region lists frames) x
  kept x has =
      let k = from_filter (lies_in_one frames) xs x has in
      let o = one_lies frames x k.1 in
      let f = o.0 in
      let candidate = all.sound x k.0 in
      let lies : LiesIn f x = record { low = o.2; ordered = ordered x candidate; high = o.3 } in
      let inner = each f o.1 in
      let d = inner.dense x (narrow f x o.1 candidate lies) in
      let e = all.dense d.0 (wide f d.0 o.1 (inner.sound d.0 d.1)) in
      let one = holds_means x d.0 d.2 in
      let other = holds_means d.0 e.0 e.2 in
      let same : x ≡ e.0 = no_other xs x e.0 all.ascending k.0 e.1 (holds_through x d.0 e.0 one other) in
      let starts : x.start ≡ e.0.start = ap (λ (w : Extent). w.start) same in
      let ends : x.end ≡ e.0.end = ap (λ (w : Extent). w.end) same in
      let is : d.0 ≡ x = same_ends d.0 x (omega (arith, one.start, other.start)) (omega (arith, one.last, other.last)) in
      from_frame region lists frames f x o.1 (subst (λ (w : Extent). Has (frame_hits region lists f) w) is d.1)

  found : (x : Extent) → Has (frames_hits region lists frames) x → Has (filter (lies_in_one frames) xs) x
  found x has =
      let s = in_some_frame region lists frames x has in
      let f = s.0 in
      let lies = extent_lies region lists f x s.2 in
      let inner = each f s.1 in
      let d = all.dense x (wide f x s.1 (inner.sound x s.2)) in
      let candidate = all.sound d.0 d.1 in
      let one = holds_means x d.0 d.2 in
      let e = inner.dense d.0 (narrow f d.0 s.1 candidate (lies_within f x d.0 lies one (ordered d.0 candidate))) in
      let other = holds_means d.0 e.0 e.2 in
      let same : x ≡ e.0 =
      no_other (frame_hits region lists f) x e.0 inner.ascending s.2 e.1 (holds_through x d.0 e.0 one other) in
      let starts : x.start ≡ e.0.start = ap (λ (w : Extent). w.start) same in
      let ends : x.end ≡ e.0.end = ap (λ (w : Extent). w.end) same in
      let is : d.0 ≡ x = same_ends d.0 x (omega (arith, one.start, other.start)) (omega (arith, one.last, other.last)) in
      to_filter (lies_in_one frames) xs x (subst (λ (w : Extent). Has xs w) is d.1) (lies_one frames f x s.1 lies)

  pub framed : filter (lies_in_one frames) xs ≡ frames_hits region lists frames
  framed =
      one_list (filter (lies_in_one frames) xs) (frames_hits region lists frames)
      (filter_ordered (lies_in_one frames) xs (ordered_from xs all.ascending))
      (ordered_from (frames_hits region lists frames) (frames_ascend region lists frames apart)) kept found
