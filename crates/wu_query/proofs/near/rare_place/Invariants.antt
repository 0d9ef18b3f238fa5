use Rattle.std.specs.Prelude.{IfSome}
use Rattle.wu_query.specs.Near.{IsNeededAt}
use Rattle.wu_query.proofs.near.rare_place.Given as goal

-- what was found so far is the place of a needed term
abbrev pub invariant-loop-i : goal.invariant-loop-i
invariant-loop-i l = IfSome l.rarest (IsNeededAt l.needed l.gathered)
