use Rattle.std.proofs.Common.{arith, ◌∙◌, sym, ap, drop, ◌+◌}
use Rattle.std.proofs.lemmas.List.{nil_from_length}
use Rattle.std.proofs.lemmas.Grind.{common_steps}
use Rattle.wu_outside.proofs.Reading.{taken_from_rest}
use Rattle.wu_outside.proofs.plain.PlainSourceSource.read.Goals as goal

pub returns-clause-bytes : goal.returns-clause-bytes
returns-clause-bytes c =
    let place = c.self.inside.at in
    let bytes = c.self.inside.bytes.items in
    let n = c.min-count.result in
    let rest = drop n c.args.buf.now in (
      sym (ap (λ s. s.left) c.self.view_is)
          ∙ taken_from_rest bytes c.copy_from_slice.new.self rest place n (grind (arith, common_steps)) (grind (arith, common_steps)),
      λ none room. nil_from_length (drop (place + n) bytes) (grind (arith, common_steps)),
    )
