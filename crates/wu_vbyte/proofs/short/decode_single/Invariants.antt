use Rattle.std.proofs.Common.{◌≡◌, ◌+◌, ◌*◌, ◌^◌, ◌≤◌, length, take, drop}
use Rattle.wu_vbyte.specs.Blocks.{AreSingle}
use Rattle.wu_vbyte.proofs.BlockLemmas.{Taken}
use Rattle.wu_vbyte.proofs.short.decode_single.Given as goal

abbrev pub invariant-loop-at : goal.invariant-loop-at
invariant-loop-at l = record {
  room : length l.addresses ≡ 256;
  small : l.total ≤ l.first + 2 ^ 7 * l.at;
  single : AreSingle (drop l.at l.bytes);
  taken : Taken l.first (2 ^ 64) l.bytes (drop l.at l.bytes) (take (l.at + 1) l.addresses) l.total;
}
