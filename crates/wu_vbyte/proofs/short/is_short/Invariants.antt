use Rattle.std.proofs.Common.{◌+◌, ◌-◌, ◌*◌, ◌^◌, ◌≤◌, drop}
use Rattle.wu_vbyte.specs.Blocks.{AreShort}
use Rattle.wu_vbyte.proofs.ShortLemmas.{Counted}
use Rattle.wu_vbyte.proofs.short.is_short.Given as goal

abbrev pub invariant-loop-at : goal.invariant-loop-at
invariant-loop-at l = record {
  all : l.all ≤ 127 * l.at;
  high : l.high ≤ 127 * l.at;
  unended : l.unended ≤ l.at;
  short : AreShort l.before (drop l.at l.bytes);
  counted : Counted l.first (2 ^ 64) l.bytes (drop l.at l.bytes) (l.at + 1 - l.unended) l.before (l.first + l.all + l.high * 127);
}
