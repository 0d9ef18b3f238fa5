use Rattle.std.proofs.Common.{◌≡◌, map, Some}
use Rattle.wu_fields.specs.Fields.{all_some}
use Rattle.wu_script.specs.Commands.{piece_of}
use Rattle.wu_script.proofs.acls.pieces_of.Given as goal

abbrev pub invariant-loop-written : goal.invariant-loop-written
invariant-loop-written l = all_some (map piece_of (map (λ piece. piece.now) l.yielded)) ≡ Some l.pieces.items
