use Rattle.std.proofs.Common.{◌≡◌, ◌+◌, ◌*◌, ◌^◌, ◌≤◌, length, take, drop}
use Rattle.wu_vbyte.proofs.ShortLemmas.{Adds}
use Rattle.wu_vbyte.proofs.short.decode_short.Given as goal

abbrev pub invariant-loop-at : goal.invariant-loop-at
invariant-loop-at l = record {
  room : length l.addresses ≡ 256;
  some : 1 ≤ l.taken;
  few : l.taken ≤ l.at + 1;
  small : l.total ≤ l.first + 2 ^ 16 * l.at;
  adds : Adds l.first l.bytes (drop l.at l.bytes) (drop l.at l.parts) (drop l.at l.ends) (take l.taken l.addresses) l.total;
}
