use Rattle.std.proofs.Common.{◌≡◌, ◌+◌, ◌⊎◌, arith}
use Rattle.wu_cursor.proofs.Searching.{last_at, none_to}
use Rattle.wu_cursor.proofs.places.last_address.Goals as goal

pub returns-then-index-eq0 : goal.returns-then-index-eq0
returns-then-index-eq0 c =
    let top = c.min-top.result in
    let is : (top ≡ c.args.to) ⊎ (top + 1 ≡ c.args.frame.len) = grind arith in
    none_to c.args.addresses.now c.requires.ascending c.args.frame.start c.args.frame.len c.args.to top c.below-index.result
    (omega arith) is
    c.below-index.ensures (λ some. absurd (omega arith))

pub returns-then-address-frame : goal.returns-then-address-frame
returns-then-address-frame c =
    let top = c.min-top.result in
    let is : (top ≡ c.args.to) ⊎ (top + 1 ≡ c.args.frame.len) = grind arith in
    none_to c.args.addresses.now c.requires.ascending c.args.frame.start c.args.frame.len c.args.to top c.below-index.result
    (omega arith) is
    c.below-index.ensures (λ some. omega arith)

pub returns : goal.returns
returns c =
    let top = c.min-top.result in
    let is : (top ≡ c.args.to) ⊎ (top + 1 ≡ c.args.frame.len) = grind arith in
    last_at c.args.addresses.now c.requires.ascending c.args.frame.start c.args.frame.len c.args.to top c.below-index.result
    (omega arith) (omega arith) is c.below-index.ensures (omega arith) (omega arith)
