-- What is gained of blocks' addresses: those in frames are put at the end of others, or counted, or all are gathered.
use Rattle.std.specs.Prelude.{ℕ, ◌≡◌, ◌+◌, ◌-◌, ◌≤◌, ◌^◌, ◌&&◌, Bool, true, false, min, nat_le, nat_lt, length, List, [], ◌∷◌, ◌++◌, if◌then◌else◌}
use Rattle.std.specs.Prelude.{filter}
use Rattle.std.specs.List.{AllByRecursion, list_any}
use Rattle.std.proofs.Common.{refl, ap, ap₂, ◌∙◌, cond}
use Rattle.wu_base.specs.declared.addresses.Range.{Range}
use Rattle.wu_base.specs.Ranges.{is_in}
use Rattle.wu_layout.specs.Postings.{is_live}
use Rattle.wu_lists.specs.declared.blocks.Block.{Block}
use Rattle.wu_lists.specs.declared.tallies.Tally.{Tally}
use Rattle.wu_lists.specs.Tallying.{after_last}

-- addresses of a kind were gained
pub record Gains {X : Type 0} (Gain : List ℕ → X → X → Type 0) (Kind : List ℕ → Type 0) (before after : X) : Type 0 where
  pub more : List ℕ
  pub gained : Gain more before after
  pub kind : Kind more

-- some frame has the address, and begins at `after` or later
abbrev pub opens : List Range → ℕ → ℕ → Bool
opens frames after address = list_any (λ frame. is_in frame address && nat_le after frame.start) frames

-- from an address on the frames that are left open as all frames do
abbrev pub OpenAlike : ℕ → List Range → List Range → Type 0
OpenAlike low left frames = (after address : ℕ) → low ≤ address → opens left after address ≡ opens frames after address

-- from an address on those that lie in the frames that are left are those that lie in all frames
abbrev pub LiveAlike : ℕ → List Range → List Range → Type 0
LiveAlike low left frames = (address : ℕ) → low ≤ address → is_live left address ≡ is_live frames address

pub filter-alike : (p q : ℕ → Bool) (low : ℕ) (xs : List ℕ) → ((x : ℕ) → low ≤ x → p x ≡ q x) → AllByRecursion (λ x. low ≤ x) xs
    → filter p xs ≡ filter q xs
filter-alike p q low [] same a = refl
filter-alike p q low (x ∷ xs) same a =
    ap₂ (λ (b : Bool) (l : List ℕ). cond b (x ∷ l) l) (same x a.0) (filter-alike p q low xs same a.1)

pub from-filter : (p : ℕ → Bool) (low : ℕ) (xs : List ℕ) → AllByRecursion (λ x. low ≤ x) xs → AllByRecursion (λ x. low ≤ x) (filter p xs)
from-filter p low [] a = tt
from-filter p low (x ∷ xs) a =
    elim (p x) as (λ b. AllByRecursion (λ y. low ≤ y) (cond b (x ∷ filter p xs) (filter p xs))) [
      | true ↦ (a.0, from-filter p low xs a.1)
      | false ↦ from-filter p low xs a.1
    ]

-- one more address; sums stand still at 2^64 - 1
abbrev pub with_address : List Range → Tally → ℕ → Tally
with_address frames tally address = record {
  hits = min (tally.hits + 1) (2 ^ 64 - 1);
  frames = (if opens frames tally.after address then min (tally.frames + 1) (2 ^ 64 - 1) else tally.frames);
  after = address + 1;
}

-- several, in turn
abbrev pub tally_on : List Range → Tally → List ℕ → Tally
tally_on frames tally [] = tally
tally_on frames tally (address ∷ later) = tally_on frames (with_address frames tally address) later

pub tally_on-append : (frames : List Range) (tally : Tally) (xs ys : List ℕ)
    → tally_on frames tally (xs ++ ys) ≡ tally_on frames (tally_on frames tally xs) ys
tally_on-append frames tally [] ys = refl
tally_on-append frames tally (x ∷ xs) ys = tally_on-append frames (with_address frames tally x) xs ys

pub tally_on-alike : (left frames : List Range) (low : ℕ) → OpenAlike low left frames → (tally : Tally) (xs : List ℕ)
    → AllByRecursion (λ x. low ≤ x) xs → tally_on left tally xs ≡ tally_on frames tally xs
tally_on-alike left frames low alike tally [] a = refl
tally_on-alike left frames low alike tally (x ∷ xs) a =
    tally_on-alike left frames low alike (with_address left tally x) xs a.1
    ∙ ap (λ (b : Bool). tally_on frames (record {
      hits = min (tally.hits + 1) (2 ^ 64 - 1);
      frames = cond b (min (tally.frames + 1) (2 ^ 64 - 1)) tally.frames;
      after = x + 1;
    }) xs) (alike tally.after x a.0)

-- so many addresses of a frame that begins at `start`, all at once, the last of them right before `after`
abbrev pub with_several : ℕ → Tally → ℕ → ℕ → Tally
with_several start tally count after = record {
  hits = min (tally.hits + count) (2 ^ 64 - 1);
  frames = (if nat_le tally.after start then min (tally.frames + 1) (2 ^ 64 - 1) else tally.frames);
  after = after;
}

-- these addresses of it
abbrev pub with_frame : ℕ → Tally → List ℕ → Tally
with_frame start tally [] = tally
with_frame start tally (address ∷ later) = with_several start tally (length (address ∷ later)) (after_last (address + 1) later)

-- the frame has all of the block's span, from its first address to its last
abbrev pub is_inside : Range → Block → Bool
is_inside frame block = nat_le frame.start block.first && nat_lt block.last (frame.start + frame.len)

-- the first of the frames has
abbrev pub is_inside_first : List Range → Block → Bool
is_inside_first [] block = false
is_inside_first (frame ∷ later) block = is_inside frame block
