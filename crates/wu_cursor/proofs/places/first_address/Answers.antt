use Rattle.std.proofs.Common.{arith}
use Rattle.wu_cursor.proofs.Searching.{first_at, none_from}
use Rattle.wu_cursor.proofs.places.first_address.Goals as goal

pub returns-then-index-addresses : goal.returns-then-index-addresses
returns-then-index-addresses c =
    none_from c.args.addresses.now c.requires.ascending c.args.frame.start c.args.frame.len c.args.from c.below-index.result
    c.below-index.ensures
    (λ within. absurd (omega arith))

pub returns-then-address-frame : goal.returns-then-address-frame
returns-then-address-frame c =
    none_from c.args.addresses.now c.requires.ascending c.args.frame.start c.args.frame.len c.args.from c.below-index.result
    c.below-index.ensures
    (λ within. omega arith)

pub returns : goal.returns
returns c =
    first_at c.args.addresses.now c.requires.ascending c.args.frame.start c.args.frame.len c.args.from c.below-index.result
    c.below-index.ensures (omega (arith, c.below-index.ensures.within)) (omega arith)
