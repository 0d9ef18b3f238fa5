use Rattle.std.proofs.Common.{ℕ, ◌-◌, ◌∙◌, drop, length, ap, take_all, arith}
use Rattle.std.proofs.lemmas.List.{drop-drop, length-drop}
use Rattle.std.specs.List.{position_or_len}
use Rattle.wu_script.specs.Commands.{is_colon}
use Rattle.wu_script.proofs.AclLemmas.{at_most_length}
use Rattle.wu_script.proofs.acls.cut.Goals as goal

pub split_at-requires : goal.split_at-requires
split_at-requires c = omega (arith, c.before_colon.ensures, at_most_length {X = ℕ} is_colon c.args.bytes.now)

pub returns-in-len1-up-clause-after : goal.returns-in-len1-up-clause-after
returns-in-len1-up-clause-after c =
    let bytes = c.args.bytes.now in
    let rest = c.split_at.result.1.now in
    let first = position_or_len is_colon bytes in
    take_all (length rest - 1) (drop 1 rest) (omega (arith, length-drop 1 rest))
    ∙ ap (drop 1) (c.split_at.ensures.back ∙ ap (λ n. drop n bytes) c.before_colon.ensures)
    ∙ drop-drop 1 first bytes
