use Rattle.std.proofs.Common.{Option, refl, sym, subst}
use Rattle.std.specs.Prelude.{IfSome}
use Rattle.std.proofs.lemmas.Bool.Decides.{when_false}
use Rattle.wu_part.specs.Directories.{PartDirectory}
use Rattle.wu_part.specs.Parts.{IsRecorded}
use Rattle.wu_parts.proofs.OpenedLemmas.{none-said}
use Rattle.wu_parts.proofs.loading.as_recorded.Goals as goal
use Rattle.wu_parts.proofs.loading.as_recorded.Goals.{in_default-via-in-Some+else-tells, in_default-via-in_default}

pub returns-in_default-clause-err : goal.returns-in_default-clause-err
returns-in_default-clause-err c =
    let recorded = c.args.recorded.now in
    let untold : IfSome c.args.found (λ (directory : PartDirectory). IsRecorded recorded directory → ⊥) =
    elim c.in_default.branch [
      | in_default-via-in-Some+else-tells w ↦
          subst (λ (o : Option PartDirectory). IfSome o (λ (directory : PartDirectory). IsRecorded recorded directory → ⊥))
          (sym w.in-Some.is)
          (when_false (IsRecorded recorded w.in-Some.directory) (IsRecorded recorded w.in-Some.directory → ⊥) w.if-tells.false
          w.tells.ensures)
      | in_default-via-in_default w ↦
          none-said c.args.found (λ (directory : PartDirectory). IsRecorded recorded directory → ⊥) w.in_default.not-Some
    ] in
    (refl, untold)
