use Rattle.std.proofs.Common.{Some, ap, sym, ◌∙◌}
use Rattle.wu_fields.proofs.FieldLemmas.{unescaped_nowhere}
use Rattle.wu_fields.proofs.splitting.unescape.Goals as goal

pub returns-in_ok-from_slice-in-None : goal.returns-in_ok-from_slice-in-None
returns-in_ok-from_slice-in-None c =
    ap Some c.in_ok-from_slice-in-None.ensures
    ∙ sym (unescaped_nowhere c.args.written.now c.in-None.ensures)
