use Rattle.std.proofs.Common.{subst, arith}
use Rattle.wu_space.specs.Addresses.{Addresses, IsSpace}
use Rattle.wu_space.proofs.Live.{space-from_sound}
use Rattle.wu_space.proofs.spaces.Space.keeps_the_rules.Goals as goal

pub returns : goal.returns
returns c = subst (λ (s : Addresses). IsSpace s) c.self.view_is (space-from_sound _ _ _ _ c.self.invariant (omega arith))
