use Rattle.std.proofs.Common.{length, sym, ◌∙◌, le-ltb}
use Rattle.wu_solve.proofs.Numbers.{not_at_end, there_at_end}
use Rattle.wu_solve.proofs.lookup.is_at.Goals as goal

pub returns-then-place-addresses : goal.returns-then-place-addresses
returns-then-place-addresses c =
    there_at_end c.args.addresses.now c.args.address c.args.place c.requires.ascending c.requires.ends c.if-place-addresses.true

pub returns-else-place-addresses : goal.returns-else-place-addresses
returns-else-place-addresses c =
    le-ltb c.args.place (length c.args.addresses.now) c.if-place-addresses.false
    ∙ sym (not_at_end c.args.addresses.now c.args.address c.args.place c.requires.ends c.if-place-addresses.false)
