-- A user's frames: the live ranges of the files of her view, each with the file's number and its place in the view.
use Rattle.std.specs.Prelude.{◌≡◌, ◌⊎◌, ℕ, ◌+◌, ◌-◌, ◌^◌, ◌<◌, ◌≤◌, ◌==◌, nat_eq, nat_lt, Bool, ◌||◌, not, Option, Some, IfSome, option_map}
use Rattle.std.specs.Prelude.{List, [], ◌∷◌, map, take, filter, filter_map, sum_by, IsPermutation}
use Rattle.std.specs.Ordering.{nat_cmp}
use Rattle.std.specs.List.{AllByRecursion, Any, enumerate_from, list_any}
use Rattle.std.specs.Map.{keys_of, lookup, remove_entry}
use Rattle.std.specs.BTreeMap.{is_at, insert_entry}
use Rattle.wu_base.specs.declared.addresses.Range.{Range}
use Rattle.wu_tree.specs.FileSystems.{FileSystem}
use Rattle.wu_view.specs.declared.Seen.{Seen}
use Rattle.wu_view.specs.Views.{view_of}
use Rattle.wu_space.specs.Addresses.{Addresses, Ranges, IsSpace, range_of}
use Rattle.wu_base.specs.Ranges.{AreApart}
use Rattle.wu_frames.specs.declared.caches.TheConstants.{USERS_KEPT}
use Rattle.wu_frames.specs.declared.mending.TheConstants.{MENDS_MAX}
use Rattle.wu_frames.specs.declared.Frame.{Frame}
use Rattle.wu_frames.specs.declared.Frames.{Frames}

abbrev pub frame_with : ℕ → ℕ → Range → Frame
frame_with place ino range = record { range = range; ino = ino; place = place }

-- the frame of a file of the view, with its place there; none where the file has no live range
abbrev pub frame_of : Ranges → ℕ × Seen → Option Frame
frame_of ranges file = option_map (frame_with file.0 file.1.ino) (range_of ranges file.1.ino)

-- a frame for each file of the view that has a live range, in the order of the view
abbrev pub frames_in : Ranges → List Seen → List Frame
frames_in ranges view = filter_map (frame_of ranges) (enumerate_from 0 view)

abbrev pub length_of : List Range → ℕ
length_of ranges = sum_by (λ range. range.len) ranges

-- the frames of the user of that number, for that tree and those live ranges
pub record AreFrames (fs : FileSystem) (live : Ranges) (uid : ℕ) (frames : Frames) : Type 0 where
  pub view : frames.seen ≡ view_of fs uid
  -- one frame for each file of the view that has a live range, and no other
  pub of_view : ∥ IsPermutation (frames_in live (view_of fs uid)) frames.by_address ∥₁
  pub ascending : AreApart frames.ranges
  pub ranges_alone : frames.ranges ≡ map (λ frame. frame.range) frames.by_address
  pub sum : frames.total ≡ length_of frames.ranges

-- users, the one who asked last first, each with frames
abbrev pub Kept : Type 0
Kept = List (ℕ × Frames)

-- the frames that are kept of the user
abbrev pub frames_for : Kept → ℕ → Option Frames
frames_for kept uid = lookup (nat_eq uid) kept

-- what is kept was made for that tree and those live ranges
abbrev pub CacheMatchesTree : FileSystem → Ranges → Kept → Type 0
CacheMatchesTree fs live kept = AllByRecursion (λ entry. AreFrames fs live entry.0 entry.1) kept

-- nobody's frames were mended more often than that since she asked
abbrev pub AreSeldomMended : Kept → Type 0
AreSeldomMended kept = AllByRecursion (λ entry. entry.1.mends ≤ MENDS_MAX) kept

-- the user is the one who asked last: her frames come first, and no mend of them is counted
abbrev pub AskedLast : ℕ → Kept → Type 0
AskedLast uid [] = ⊥
AskedLast uid (entry ∷ kept) = (entry.0 ≡ uid) × (entry.1.mends ≡ 0)

-- the user with these frames, and behind her the others in their order, as many as have room
abbrev pub after_asked : ℕ → Frames → Kept → Kept
after_asked uid frames kept = (uid, frames) ∷ take (USERS_KEPT - 1) (remove_entry (nat_eq uid) kept)

-- what is kept once the user asked: her frames are those that she had, with no mend counted, or new ones where she had none
pub record HasAsked (uid : ℕ) (before after : Kept) : Type 0 where
  pub hers : Frames
  pub entries : after ≡ after_asked uid hers before
  pub unmended : hers.mends ≡ 0
  pub same : IfSome (frames_for before uid) (λ frames. hers ≡ record frames { mends = 0 })

-- ---- a file that has a new text

-- the live ranges with that one of the file in place of the one before
abbrev pub with_range : ℕ → Range → Ranges → Ranges
with_range ino new live = insert_entry nat_cmp (remove_entry (is_at (nat_cmp ino)) live) ino new

-- the file has the old range, and the new one lies behind all addresses that were given
pub record IsMove (space : Addresses) (ino : ℕ) (old new : Range) : Type 0 where
  pub rules : IsSpace space
  pub from : range_of space.ranges ino ≡ Some old
  pub to : space.next ≤ new.start

-- one of the frames starts at the address
abbrev pub HasFrameAt : ℕ → Frames → Type 0
HasFrameAt start frames = Any (λ frame. frame.range.start ≡ start) frames.by_address

-- one mend more is counted
abbrev pub IsMended : Frames → Frames → Type 0
IsMended before after = (before.mends < MENDS_MAX) × (after.mends ≡ before.mends + 1)

-- what is kept once a file has left the old range: users in their old order. One with no frame that starts there has the frames that
-- she had; one with such a frame has mended ones, or isn't kept
abbrev pub StayOrMove : Range → Kept → Kept → Type 0
StayOrMove old [] now = now ≡ []
StayOrMove old (entry ∷ kept) [] = HasFrameAt old.start entry.1 × StayOrMove old kept []
StayOrMove old (entry ∷ kept) (first ∷ now) =
    ((first ≡ entry) × StayOrMove old kept now)
    ⊎ (HasFrameAt old.start entry.1
    × (((first.0 ≡ entry.0) × IsMended entry.1 first.1 × StayOrMove old kept now) ⊎ StayOrMove old kept (first ∷ now)))

-- whether a user's frames stay once a file has left the old range: none of them starts there, or they may be mended once more
abbrev pub is_mendable : Range → Frames → Bool
is_mendable old frames = not (list_any (λ frame. frame.range.start == old.start) frames.by_address) || nat_lt frames.mends MENDS_MAX

-- of those users for whom that is so
abbrev pub kept_mendable : Range → Kept → Kept
kept_mendable old kept = filter (λ entry. is_mendable old entry.1) kept

-- where what is kept was right, and the file moves to a range whose addresses have 64 bits, frames stay for exactly these users
abbrev pub StayMendable : ℕ → Range → Range → Kept → Kept → Type 0
StayMendable ino old new before after = (fs : FileSystem) (space : Addresses) → IsMove space ino old new → new.start + new.len < 2 ^ 64
    → CacheMatchesTree fs space.ranges before → keys_of after ≡ keys_of (kept_mendable old before)
