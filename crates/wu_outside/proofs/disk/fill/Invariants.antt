use Rattle.std.proofs.Common.{◌≡◌, ◌-◌, ◌≤◌, length, take}
use Rattle.std.specs.Io.KnownBytes.{Consumes}
use Rattle.wu_outside.proofs.disk.fill.Given as goal

-- the front of the buffer was read, and no call failed
abbrev pub invariant-loop-count : goal.invariant-loop-count
invariant-loop-count g l = record {
  room : length l.buf ≡ length l.initial.buf;
  within : l.count ≤ length l.buf;
  taken : Consumes (g.F.Read.remaining l.fn.file) (g.F.Read.remaining l.file) (take l.count l.buf);
  calm : l.failures.count ≡ l.fn.failures.count;
}

abbrev pub decreases-loop-count : goal.decreases-loop-count
decreases-loop-count g l = length l.initial.buf - l.count
