use Rattle.std.proofs.Common.{arith, sym, ◌∙◌}
use Rattle.wu_part.proofs.HeaderLemmas.{header_read}
use Rattle.wu_part.proofs.headers.read_header.Goals as goal

pub returns-clause-found : goal.returns-clause-found
returns-clause-found c =
    header_read c.args.bytes.now c.from_be_bytes.result (omega (arith, c.if-bytes-ne-HEADER_LEN.false))
    (λ i. omega (arith, c.type_inv.bytes i))
    (sym c.if-not-starts_with.false ∙ c.starts_with.ensures.value) c.from_be_bytes.ensures (omega arith)
