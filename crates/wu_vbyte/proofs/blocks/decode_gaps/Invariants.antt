use Rattle.std.proofs.Common.{◌≡◌, ◌≤◌, length}
use Rattle.std.specs.Vec.{vec_len, vec_capacity}
use Rattle.wu_vbyte.proofs.BlockLemmas.{Taken}
use Rattle.wu_vbyte.proofs.blocks.decode_gaps.Given as goal

abbrev pub invariant-loop : goal.invariant-loop
invariant-loop l = record {
  number : length l.addresses.items ≡ l.counter;
  len : vec_len l.addresses ≡ l.counter;
  room : l.count ≤ vec_capacity l.addresses;
  taken : Taken l.first l.last l.bytes l.rest l.addresses.items l.before;
}
