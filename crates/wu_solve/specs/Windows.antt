-- Containment in windows, and of windows: the extents of a fixed length, one from each place on that leaves room for it.
use Rattle.std.specs.Prelude.{ℕ, ◌-◌, ◌&&◌, Bool, List, filter, nat_le, nat_lt}
use Rattle.wu_base.specs.declared.addresses.Extent.{Extent}
use Rattle.wu_base.specs.declared.addresses.Range.{Range}
use Rattle.wu_solve.specs.Frames.{lies_in_one}

-- A window of that size in one of the frames holds the extent: it is no longer than the window, and its frame has room for one.
abbrev pub lies_in_window : ℕ → List Range → Extent → Bool
lies_in_window size frames x = nat_lt (x.end - x.start) size && lies_in_one (filter (λ frame. nat_le size frame.len) frames) x

-- the extent holds a window of that size: it is no shorter than it
abbrev pub holds_window : ℕ → Extent → Bool
holds_window size x = nat_lt 0 size && nat_le (size - 1) (x.end - x.start)
