use Rattle.std.proofs.Common.{◌≡◌, length, take, drop}
use Rattle.wu_vbyte.specs.Blocks.{HasPart}
use Rattle.wu_vbyte.proofs.ShortLemmas.{BeginEach}
use Rattle.wu_vbyte.proofs.short.parts_of.Given as goal

abbrev pub invariant-loop-at : goal.invariant-loop-at
invariant-loop-at l = record {
  room : length l.parts ≡ 255;
  begin : BeginEach HasPart l.bytes (take l.at l.parts) l.before (drop l.at l.bytes);
}
