-- The extents of an expression over frames of the address space.
use Rattle.std.specs.Prelude.{◌≡◌, ℕ, ◌+◌, ◌^◌, ◌≤◌, List, map}
use Rattle.std.specs.List.{flat_map}
use Rattle.wu_base.specs.declared.addresses.Extent.{Extent}
use Rattle.wu_base.specs.declared.addresses.Range.{Range}
use Rattle.wu_base.specs.declared.addresses.TermList.{TermList}
use Rattle.wu_gcl.specs.Regions.{Region}
use Rattle.wu_gcl.specs.Extents.{hits}
use Rattle.wu_solve.specs.Addresses.{stands_by}

-- the extent at places counted from the start, at addresses
abbrev pub moved : ℕ → Extent → Extent
moved start x = record { start = start + x.start; end = start + x.end }

-- The frame's extents: those of a text as long as the frame, whose token is a term exactly where the
-- term's list has the token's address.
abbrev pub frame_hits : Region → List TermList → Range → List Extent
frame_hits region lists frame = map (moved frame.start) (hits region (stands_by lists frame.start) frame.len)

-- frame by frame, so that no operator sees two frames at once
abbrev pub frames_hits : Region → List TermList → List Range → List Extent
frames_hits region lists frames = flat_map (frame_hits region lists) frames

-- they are those of some expression
abbrev pub AreHits : List TermList → List Range → List Extent → Type 0
AreHits lists frames xs = (region : Region) × (xs ≡ frames_hits region lists frames)

-- ends at or before 2 ^ 47
abbrev pub IsFrame : Range → Type 0
IsFrame frame = frame.start + frame.len ≤ 2 ^ 47
