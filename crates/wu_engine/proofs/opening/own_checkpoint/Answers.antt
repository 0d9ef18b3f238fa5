use Rattle.std.proofs.Common.{refl, rules}
use Rattle.std.specs.Prelude.{IfSome}
use Rattle.wu_engine.specs.Opened.{MatchesRoot}
use Rattle.wu_engine.proofs.opening.own_checkpoint.Goals.{in_default-via-in-Some+else-is_of, in_default-via-in_default}
use Rattle.wu_engine.proofs.opening.own_checkpoint.Goals as goal

pub returns-in_default-clause-damaged : goal.returns-in_default-clause-damaged
returns-in_default-clause-damaged c =
    let other : IfSome c.args.found (λ checkpoint. MatchesRoot c.args.root.now checkpoint → ⊥) =
    elim c.in_default.branch [ in_default-via-in-Some+else-is_of w ↦ search rules | in_default-via-in_default w ↦ search rules ] in
    (refl, other)
