use Rattle.std.proofs.Common.{ℕ, ◌∙◌, length, ap}
use Rattle.std.specs.Prelude.{unwrap_or}
use Rattle.wu_script.specs.Commands.{is_colon}
use Rattle.wu_script.proofs.AclLemmas.{first_or_length}
use Rattle.wu_script.proofs.acls.before_colon.Goals as goal

pub returns : goal.returns
returns c =
    c.unwrap_or.ensures ∙ ap (λ first. unwrap_or first (length c.args.bytes.now)) c.first_colon.ensures
    ∙ first_or_length {X = ℕ} is_colon c.args.bytes.now
