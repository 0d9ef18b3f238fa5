use Rattle.std.proofs.Common.{◌≡◌, map, Some}
use Rattle.wu_fields.specs.Fields.{all_some, unescaped}
use Rattle.wu_fields.proofs.splitting.split_fields.Given as goal

abbrev pub invariant-loop-written : goal.invariant-loop-written
invariant-loop-written l = all_some (map unescaped (map (λ piece. piece.now) l.yielded)) ≡ Some l.fields.items
