use Rattle.std.proofs.Common.{◌≡◌, ◌++◌, take}
use Rattle.wu_fields.specs.Fields.{escaped}
use Rattle.wu_fields.proofs.escaping.append_escaped.Given as goal

abbrev pub invariant-loop-byte : goal.invariant-loop-byte
invariant-loop-byte l = l.out.items ≡ l.fn.out.items ++ escaped (take l.byte-index l.field)
