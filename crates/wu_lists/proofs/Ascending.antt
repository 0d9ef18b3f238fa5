-- Frames in order; and, of the layout's, the lemmas on addresses that ascend.
use Rattle.std.proofs.Common.{ℕ, zero, suc, ◌+◌, ◌-◌, ◌^◌, ◌<◌, ◌≤◌, List, [], ◌∷◌, length, get_or, take, drop, arith, All}
use Rattle.std.specs.List.{AllByRecursion}
use Rattle.std.specs.List.Sorted.{IsNonDecreasingBy}
use Rattle.wu_base.specs.declared.addresses.Range.{Range}
use Rattle.wu_base.specs.declared.limits.TheConstants.{ADDRESSES_MAX}
use Rattle.wu_base.specs.Ranges.{AreApart}
use Rattle.wu_lists.specs.Ascending.{AreInOrder}
pub use Rattle.wu_layout.proofs.Ascending.{addresses-rise, addresses_increase, all_from, all_from_place, ascend-bounds, ascend-drop}
pub use Rattle.wu_layout.proofs.Ascending.{ascend-filter, ascend-first, ascend-from, ascend-higher, ascend-join, ascend-last, ascend-length}
pub use Rattle.wu_layout.proofs.Ascending.{ascend-lower, ascend-push, ascend-take}

order-bounds : (low high : ℕ) (frames : List Range) → AreInOrder low high frames → low ≤ high
order-bounds low high [] o = o
order-bounds low high (f ∷ fs) o = let r : f.start + f.len ≤ high = order-bounds (f.start + f.len) high fs o.1 in omega (arith, o.0)

-- the first frame ends by the high address
pub first_end : (low high : ℕ) (frames : List Range) (d : Range) → 0 < length frames → AreInOrder low high frames
    → (get_or frames 0 d).start + (get_or frames 0 d).len ≤ high
first_end low high [] d l o = absurd (omega arith)
first_end low high (f ∷ fs) d l o = order-bounds (f.start + f.len) high fs o.1

pub first_start : (low high : ℕ) (frames : List Range) (d : Range) → 0 < length frames → AreInOrder low high frames
    → (get_or frames 0 d).start ≤ high
first_start low high frames d l o = let e = first_end low high frames d l o in omega arith

pub order-lower : (least low high : ℕ) (frames : List Range) → least ≤ low → AreInOrder low high frames → AreInOrder least high frames
order-lower least low high [] l o = omega arith
order-lower least low high (f ∷ fs) l o = (omega (arith, o.0), o.1)

pub order-take : (n low high : ℕ) (frames : List Range) → AreInOrder low high frames → AreInOrder low high (take n frames)
order-take zero low high frames o = order-bounds low high frames o
order-take (suc n) low high [] o = o
order-take (suc n) low high (f ∷ fs) o = (o.0, order-take n (f.start + f.len) high fs o.1)

pub order-drop : (n low high : ℕ) (frames : List Range) → AreInOrder low high frames → AreInOrder low high (drop n frames)
order-drop zero low high frames o = o
order-drop (suc n) low high [] o = o
order-drop (suc n) low high (f ∷ fs) o = order-drop n low high fs (order-lower low (f.start + f.len) high fs (omega (arith, o.0)) o.1)

ends_after : (address low high : ℕ) (frames : List Range) → address < low → AreInOrder low high frames
    → AllByRecursion (λ f. address < f.start + f.len) frames
ends_after address low high [] l o = tt
ends_after address low high (f ∷ fs) l o =
    (omega (arith, o.0), ends_after address (f.start + f.len) high fs (omega (arith, o.0)) o.1)

-- from a frame on that ends after the address, all do
pub ends_from_place : (address low high k : ℕ) (frames : List Range) (d : Range) → AreInOrder low high frames → k < length frames
    → address < (get_or frames k d).start + (get_or frames k d).len → AllByRecursion (λ f. address < f.start + f.len) (drop k frames)
ends_from_place address low high k [] d o l h = absurd (omega arith)
ends_from_place address low high zero (f ∷ fs) d o l h = (h, ends_after address (f.start + f.len) high fs h o.1)
ends_from_place address low high (suc k) (f ∷ fs) d o l h = ends_from_place address (f.start + f.len) high k fs d o.1 (omega arith) h

end_at_least : (low high : ℕ) (frames : List Range) (j : ℕ) (d : Range) → AreInOrder low high frames → j < length frames
    → low ≤ (get_or frames j d).start + (get_or frames j d).len
end_at_least low high [] j d o l = absurd (omega arith)
end_at_least low high (f ∷ fs) zero d o l = omega (arith, o.0)
end_at_least low high (f ∷ fs) (suc j) d o l =
    let r : f.start + f.len ≤ (get_or fs j d).start + (get_or fs j d).len = end_at_least (f.start + f.len) high fs j d o.1 (omega arith) in
    omega (arith, o.0)

pub ends-rise : (low high : ℕ) (frames : List Range) → AreInOrder low high frames
    → IsNonDecreasingBy (λ (f : Range). f.start + f.len) frames
ends-rise low high [] o i j d l h = absurd (omega arith)
ends-rise low high (f ∷ fs) o zero zero d l h = omega arith
ends-rise low high (f ∷ fs) o zero (suc j) d l h = end_at_least (f.start + f.len) high fs j d o.1 (omega arith)
ends-rise low high (f ∷ fs) o (suc i) zero d l h = absurd (omega arith)
ends-rise low high (f ∷ fs) o (suc i) (suc j) d l h = ends-rise (f.start + f.len) high fs o.1 i j d (omega arith) (omega arith)

-- frames that are apart are in order
pub order-from_apart : (low high : ℕ) (frames : List Range) → low ≤ high → AllByRecursion (λ f. low ≤ f.start) frames → AreApart frames
    → All (λ f. f.start + f.len ≤ high) frames → AreInOrder low high frames
order-from_apart low high [] l s a b = l
order-from_apart low high (f ∷ fs) l s a b =
    (s.0, order-from_apart (f.start + f.len) high fs (b 0 f (omega arith)) a.0 a.1 (λ k d h. b (suc k) d (omega arith)))

pub all_from_zero : (frames : List Range) → AllByRecursion (λ f. 0 ≤ f.start) frames
all_from_zero [] = tt
all_from_zero (f ∷ fs) = (omega arith, all_from_zero fs)

-- so are those that end where addresses do
pub frames_in_order : (frames : List Range) → AreApart frames → All (λ frame. frame.start + frame.len ≤ ADDRESSES_MAX) frames
    → AreInOrder 0 (2 ^ 64 - 1) frames
frames_in_order frames apart bounded =
    order-from_apart 0 (2 ^ 64 - 1) frames (omega arith) (all_from_zero frames) apart
    (λ k d l. let within = bounded k d l in omega arith)
