use Rattle.std.proofs.Common.{◌≡◌, ◌+◌, ◌∙◌, [], false, length, get_or, sym, ap, arith, nat_eq, eq-eqb}
use Rattle.std.proofs.lemmas.Bool.Decides.{nat_tests}
use Rattle.std.proofs.lemmas.List.{get_or_default}
use Rattle.wu_solve.specs.Addresses.{has_address}
use Rattle.wu_solve.proofs.Carrying.{all_stand, one_fails}
use Rattle.wu_solve.proofs.operands.words_from.Goals as goal

pub returns-then-not-has_address-clause-whole : goal.returns-then-not-has_address-clause-whole
returns-then-not-has_address-clause-whole c =
    let words = c.args.words.now in
    let count = c.loop-count.count in
    let same : get_or words count [] ≡ c.as_slice-word.result.now =
    get_or_default words count [] c.index-words-count.result c.loop-count-test.true ∙ sym c.index-words-count.is
    ∙ sym c.as_slice-word.ensures in
    let fails : has_address c.args.lists.now (get_or words count []) (c.args.address + count) ≡ false =
    ap (λ word. has_address c.args.lists.now word (c.args.address + count)) same ∙ sym c.if-not-has_address.ensures in
    let fewer : nat_eq count (length words) ≡ false = grind (arith, nat_tests) in
    one_fails (has_address c.args.lists.now) words c.args.address count c.loop-count-test.true fails ∙ sym fewer

pub returns-clause-whole : goal.returns-clause-whole
returns-clause-whole c =
    let words = c.args.words.now in
    all_stand (has_address c.args.lists.now) words c.args.address
    (λ k less. c.loop-count.invariant k (omega (arith, c.loop-count-test.false, less)))
    ∙ sym (eq-eqb (length words) (length words) (omega arith))
