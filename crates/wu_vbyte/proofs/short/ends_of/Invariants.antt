use Rattle.std.proofs.Common.{◌≡◌, ℕ, length, take, drop}
use Rattle.wu_vbyte.specs.Blocks.{HasEnd}
use Rattle.wu_vbyte.proofs.ShortLemmas.{BeginEach}
use Rattle.wu_vbyte.proofs.short.ends_of.Given as goal

abbrev pub invariant-loop-at : goal.invariant-loop-at
invariant-loop-at l = record {
  room : length l.ends ≡ 255;
  begin : (before : ℕ) × BeginEach HasEnd l.bytes (take l.at l.ends) before (drop l.at l.bytes);
}
