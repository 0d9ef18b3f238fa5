-- Frames in order; and addresses that ascend, as the layout says it.
use Rattle.std.specs.Prelude.{ℕ, ◌+◌, ◌≤◌, List, [], ◌∷◌}
use Rattle.wu_base.specs.declared.addresses.Range.{Range}
pub use Rattle.wu_layout.specs.Ascending.{AscendBetween}

-- from low on, each frame ends before the next one starts, and the last one by high
abbrev pub AreInOrder : ℕ → ℕ → List Range → Type 0
AreInOrder low high [] = low ≤ high
AreInOrder low high (frame ∷ frames) = (low ≤ frame.start) × AreInOrder (frame.start + frame.len) high frames
