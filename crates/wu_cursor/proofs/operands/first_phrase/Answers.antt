use Rattle.std.proofs.Common.{◌≡◌, ◌<◌, length, arith}
use Rattle.std.proofs.lemmas.Bool.Decides.{nat_tests}
use Rattle.wu_solve.specs.Addresses.{stands_by}
use Rattle.wu_cursor.proofs.Leaves.{first_phrase, no_phrase, no_words_first}
use Rattle.wu_cursor.proofs.operands.first_phrase.Goals as goal

pub returns-then-is_empty : goal.returns-then-is_empty
returns-then-is_empty c =
    let none : length c.args.words.now ≡ 0 = grind (arith, nat_tests, c.is_empty.ensures, c.if-is_empty.true) in
    no_words_first c.args.words.now (stands_by c.args.lists.now c.args.frame.start) c.args.frame.len c.args.from none

pub returns-in_err-start : goal.returns-in_err-start
returns-in_err-start c =
    let some : 0 < length c.args.words.now = grind (arith, nat_tests, c.is_empty.ensures, c.if-is_empty.false) in
    rw c.from_residual.ensures
    (no_phrase c.args.words.now (stands_by c.args.lists.now c.args.frame.start) c.args.frame.len some c.args.from c.in_err-start.ensures)

pub returns : goal.returns
returns c =
    let some : 0 < length c.args.words.now = grind (arith, nat_tests, c.is_empty.ensures, c.if-is_empty.false) in
    first_phrase c.args.words.now (stands_by c.args.lists.now c.args.frame.start) c.args.frame.len some c.args.from c.in_ok-start.start
    c.in_ok-start.ensures
