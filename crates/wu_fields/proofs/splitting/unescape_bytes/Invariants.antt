use Rattle.std.proofs.Common.{◌≡◌, drop}
use Rattle.wu_fields.specs.Fields.{unescaped}
use Rattle.wu_fields.proofs.FieldLemmas.{onto, held}
use Rattle.wu_fields.proofs.splitting.unescape_bytes.Given as goal

abbrev pub invariant-loop-byte : goal.invariant-loop-byte
invariant-loop-byte l = unescaped l.written ≡ onto l.field.items (unescaped (held l.after_backslash (drop l.byte-index l.written)))
