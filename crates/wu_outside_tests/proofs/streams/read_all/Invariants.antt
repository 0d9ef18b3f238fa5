use Rattle.std.proofs.Common.{◌≡◌, false}
use Rattle.wu_outside_tests.proofs.streams.read_all.Given as goal

-- the source hasn't given its end
abbrev pub invariant-loop : goal.invariant-loop
invariant-loop g l = g.I.Source.ended l.source ≡ false
