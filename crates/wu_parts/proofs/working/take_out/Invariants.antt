use Rattle.std.proofs.Common.{◌≡◌, ◌++◌, [], take, drop, map}
use Rattle.wu_parts.specs.Units.{replaced}
use Rattle.wu_parts.proofs.working.take_out.Given as goal

-- the first parts of those to be taken out are out, and their blobs are noted
abbrev pub invariant-loop : goal.invariant-loop
invariant-loop l = record {
  parts : l.parts.items ≡ replaced l.place l.counter [] l.fn.parts.items;
  stale : l.stale.items ≡ l.fn.stale.items ++ map (λ part. part.recorded.blob) (take l.counter (drop l.place l.fn.parts.items));
}
