use Rattle.std.proofs.Common.{length, map}
use Rattle.wu_gcl.specs.Views.{token_of}
use Rattle.wu_gcl.proofs.Texts.{Progress}
use Rattle.wu_gcl.proofs.lexing.tokens.Given as goal

abbrev pub invariant-texts : goal.invariant-texts
invariant-texts l = Progress l.text (map token_of l.tokens.items) l.rest

abbrev pub decreases-texts : goal.decreases-texts
decreases-texts l = length l.rest
