use Rattle.std.proofs.Common.{◌≤◌, drop}
use Rattle.wu_vbyte.specs.Blocks.{AreShort}
use Rattle.wu_vbyte.proofs.ShortLemmas.{Passed}
use Rattle.wu_vbyte.proofs.short.are_short.Given as goal

abbrev pub invariant-loop-at : goal.invariant-loop-at
invariant-loop-at l = record {
  few : l.faults ≤ l.at;
  passed : Passed l.faults (AreShort 0 l.bytes) (AreShort l.before (drop l.at l.bytes));
}
