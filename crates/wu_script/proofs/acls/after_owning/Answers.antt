use Rattle.std.proofs.Common.{arith}
use Rattle.std.specs.Prelude.{not}
use Rattle.wu_script.specs.declared.acls.Piece.{Piece}
use Rattle.wu_script.specs.Commands.{is_group, is_user}
use Rattle.wu_script.proofs.AclLemmas.{at_most_length}
use Rattle.wu_script.proofs.acls.after_owning.Goals as goal

pub split_at-requires : goal.split_at-requires
split_at-requires c =
    omega (arith, c.users_at_front.ensures, at_most_length {X = Piece} (λ piece. not (is_user piece.tag)) c.args.pieces.now)

pub split_at-requires-2 : goal.split_at-requires-2
split_at-requires-2 c =
    omega (arith, c.groups_at_front.ensures, at_most_length {X = Piece} (λ piece. not (is_group piece.tag)) c.split_at.result.1.now)
