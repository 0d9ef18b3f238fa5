use Rattle.std.proofs.Common.{◌∙◌, length, ap}
use Rattle.std.specs.Prelude.{not, unwrap_or}
use Rattle.wu_script.specs.declared.acls.Piece.{Piece}
use Rattle.wu_script.specs.Commands.{is_group}
use Rattle.wu_script.proofs.AclLemmas.{first_or_length}
use Rattle.wu_script.proofs.acls.groups_at_front.Goals as goal

pub returns : goal.returns
returns c =
    c.unwrap_or.ensures ∙ ap (λ first. unwrap_or first (length c.args.pieces.now)) c.first_but_groups.ensures
    ∙ first_or_length {X = Piece} (λ piece. not (is_group piece.tag)) c.args.pieces.now
