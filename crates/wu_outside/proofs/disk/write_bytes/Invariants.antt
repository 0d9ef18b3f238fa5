use Rattle.std.proofs.Common.{◌≡◌, ◌-◌, ◌≤◌, length, take}
use Rattle.std.specs.Io.KnownBytes.{Appends}
use Rattle.wu_outside.proofs.disk.write_bytes.Given as goal

-- the bytes up to the place were written, and no call failed
abbrev pub invariant-loop-at : goal.invariant-loop-at
invariant-loop-at g l = record {
  within : l.at ≤ length l.bytes;
  written : Appends (g.F.Write.contents l.fn.file) (g.F.Write.contents l.file) (take l.at l.bytes);
  calm : l.failures.count ≡ l.fn.failures.count;
}

abbrev pub decreases-loop-at : goal.decreases-loop-at
decreases-loop-at g l = length l.bytes - l.at
