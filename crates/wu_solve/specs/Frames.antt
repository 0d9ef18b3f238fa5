-- Extents that lie in frames.
use Rattle.std.specs.Prelude.{ℕ, ◌+◌, ◌≤◌, ◌<◌, ◌&&◌, Bool, List, nat_le, nat_lt, length, slice_index_or}
use Rattle.std.specs.List.{list_any}
use Rattle.wu_base.specs.declared.addresses.Extent.{Extent}
use Rattle.wu_base.specs.declared.addresses.Range.{Range}

-- the place is one of the frame's
abbrev pub is_place_of : Range → ℕ → Bool
is_place_of frame place = nat_le frame.start place && nat_lt place (frame.start + frame.len)

-- starts in the frame, and ends before its end
abbrev pub lies_in : Range → Extent → Bool
lies_in frame x = is_place_of frame x.start && nat_lt x.end (frame.start + frame.len)

abbrev pub lies_in_one : List Range → Extent → Bool
lies_in_one frames x = list_any (λ frame. lies_in frame x) frames

-- the frames before it end at the place or before it, and the others, from it on, behind the place
pub record EndsAfter (frames : List Range) (place at_frame : ℕ) : Type 0 where
  pub within : at_frame ≤ length frames
  pub before : (k : ℕ) (d : Range) → k < at_frame → (slice_index_or frames k d).start + (slice_index_or frames k d).len ≤ place
  pub after : (k : ℕ) (d : Range) → at_frame ≤ k → k < length frames
      → place < (slice_index_or frames k d).start + (slice_index_or frames k d).len

-- one of the addresses lies in the frame
abbrev pub has_one_of : List ℕ → Range → Bool
has_one_of addresses frame = list_any (λ address. is_place_of frame address) addresses
