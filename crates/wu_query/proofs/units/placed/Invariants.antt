use Rattle.std.proofs.Common.{◌≡◌, ◌+◌, ◌≤◌, ◌<◌, ◌^◌, ◌++◌, length, map}
use Rattle.std.specs.Prelude.{All}
use Rattle.wu_base.specs.Ranges.{AreApart}
use Rattle.wu_query.specs.Units.{placed}
use Rattle.wu_query.proofs.units.placed.Given as goal

-- with the units of the frames to come they are all units
abbrev pub invariant-loop-first : goal.invariant-loop-first
invariant-loop-first l = record {
  whole : l.units.items ++ placed l.left l.rest ≡ placed l.frames l.extents;
  fits : length l.rest ≤ length l.extents;
  ends : All (λ frame. frame.range.start + frame.range.len < 2 ^ 64) l.left;
  apart : AreApart (map (λ frame. frame.range) l.left);
}

abbrev pub decreases-loop-first : goal.decreases-loop-first
decreases-loop-first l = length l.left
