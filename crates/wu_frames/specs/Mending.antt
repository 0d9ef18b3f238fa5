-- Frames, mended after a file had a new text.
use Rattle.std.specs.Prelude.{◌≡◌, ◌≢◌, ◌⊎◌, ℕ, ◌+◌, ◌^◌, ◌<◌, ◌≤◌, [], ◌∷◌, ◌++◌, length}
use Rattle.std.specs.List.{remove, slice_index_or}
use Rattle.wu_base.specs.declared.addresses.Range.{Range}
use Rattle.wu_tree.specs.FileSystems.{FileSystem}
use Rattle.wu_space.specs.Addresses.{Addresses}
use Rattle.wu_frames.specs.declared.Frame.{Frame}
use Rattle.wu_frames.specs.declared.Frames.{Frames}
use Rattle.wu_frames.specs.declared.mending.TheConstants.{MENDS_MAX}
use Rattle.wu_frames.specs.UserFrames.{CacheMatchesTree, IsMove, Kept, StayMendable, StayOrMove, with_range}

-- the frame at that place, which is the file's, comes last, with the new range
pub record IsMoved (place ino : ℕ) (new : Range) (before after : Frames) : Type 0 where
  pub frame : Frame
  pub there : frame ≡ slice_index_or before.by_address place frame
  pub its : frame.ino ≡ ino
  pub by_address : after.by_address ≡ remove before.by_address place ++ record frame { range = new } ∷ []
  pub seen : after.seen ≡ before.seen
  pub ranges : after.ranges ≡ remove before.ranges place ++ new ∷ []
  pub total : after.total + frame.range.len ≡ before.total + new.len

-- the frame at that place is the file's, and may move to the new range: it is `last` then, and all frames have `sum` addresses
pub record MayMove (place ino : ℕ) (new : Range) (frames : Frames) (last : Frame) (sum : ℕ) : Type 0 where
  pub frame : Frame
  pub there : frame ≡ slice_index_or frames.by_address place frame
  pub its : frame.ino ≡ ino
  pub moved : last ≡ record frame { range = new }
  pub ranges : place < length frames.ranges
  pub few : frames.mends < MENDS_MAX
  pub counted : sum + frame.range.len ≡ frames.total + new.len

-- the reasons for which frames are made anew, where the frame at that place would have to move: it isn't the file's, they were mended too
-- often, it has no range among the ranges, or their addresses can't be counted. The second alone is one where they are right.
pub record MayForget (place ino : ℕ) (new : Range) (frames : Frames) : Type 0 where
  pub frame : Frame
  pub there : frame ≡ slice_index_or frames.by_address place frame
  pub why :
      (frame.ino ≢ ino) ⊎ (MENDS_MAX ≤ frames.mends) ⊎ (length frames.ranges ≤ place)
      ⊎ (frames.total < frame.range.len) ⊎ (2 ^ 64 + frame.range.len ≤ frames.total + new.len)

-- the frames without the one at that place, and with `last` behind all others; one mend more is counted
abbrev pub with_last : ℕ → Frame → ℕ → Frames → Frames
with_last place last sum frames = record {
  by_address = remove frames.by_address place ++ last ∷ [];
  seen = frames.seen;
  ranges = remove frames.ranges place ++ last.range ∷ [];
  total = sum;
  mends = frames.mends + 1;
}

-- what is kept after a file went from the old range to the new one
pub record IsCacheAfterMove (ino : ℕ) (old new : Range) (before after : Kept) : Type 0 where
  pub stays : StayOrMove old before after
  pub users : StayMendable ino old new before after
  pub right : (fs : FileSystem) (space : Addresses) → IsMove space ino old new → CacheMatchesTree fs space.ranges before
      → CacheMatchesTree fs (with_range ino new space.ranges) after

-- the user who asked longest ago stands before all others now, or is forgotten
abbrev pub MendsLast : ℕ → Range → Range → Kept → Kept → Type 0
MendsLast ino old new before after = (rest : Kept) (entry : ℕ × Frames) → before ≡ rest ++ entry ∷ []
    → (first : Kept) × (after ≡ first ++ rest) × IsCacheAfterMove ino old new (entry ∷ []) first
