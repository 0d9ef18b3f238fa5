use Rattle.std.proofs.Common.{◌≡◌, length}
use Rattle.wu_gcl.specs.Extents.{is_token_at}
use Rattle.wu_solve.specs.Prefixes.{PrefixStands, AreOverlaps}
use Rattle.wu_solve.proofs.overlaps.overlaps.Given as goal

abbrev pub invariant-loop-place : goal.invariant-loop-place
invariant-loop-place l = record {
  each : length l.overlaps.items ≡ l.place;
  told : AreOverlaps l.words l.overlaps.items;
  stretch : PrefixStands (is_token_at l.words) l.words l.stretch.start l.stretch.count;
}
