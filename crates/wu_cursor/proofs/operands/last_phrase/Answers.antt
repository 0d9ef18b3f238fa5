use Rattle.std.proofs.Common.{◌≡◌, ◌<◌, length, arith}
use Rattle.std.proofs.lemmas.Bool.Decides.{nat_tests}
use Rattle.wu_solve.specs.Addresses.{stands_by}
use Rattle.wu_cursor.proofs.Leaves.{last_phrase, no_phrase_back, short_phrase_back, no_words_last}
use Rattle.wu_cursor.proofs.operands.last_phrase.Goals as goal

pub returns-then-is_empty : goal.returns-then-is_empty
returns-then-is_empty c =
    let none : length c.args.words.now ≡ 0 = grind (arith, nat_tests, c.is_empty.ensures, c.if-is_empty.true) in
    no_words_last c.args.words.now (stands_by c.args.lists.now c.args.frame.start) c.args.frame.len c.args.to none

pub returns-in_err-start : goal.returns-in_err-start
returns-in_err-start c =
    let some : 0 < length c.args.words.now = grind (arith, nat_tests, c.is_empty.ensures, c.if-is_empty.false) in
    rw c.from_residual.ensures
    (no_phrase_back c.args.words.now (stands_by c.args.lists.now c.args.frame.start) c.args.frame.len some c.args.to c.in_err-start.ensures)

pub returns : goal.returns
returns c =
    let some : 0 < length c.args.words.now = grind (arith, nat_tests, c.is_empty.ensures, c.if-is_empty.false) in
    last_phrase c.args.words.now (stands_by c.args.lists.now c.args.frame.start) c.args.frame.len some c.args.to c.in_ok-start.start
    (omega arith) c.in_ok-start.ensures

pub returns-then-to-after : goal.returns-then-to-after
returns-then-to-after c =
    let some : 0 < length c.args.words.now = grind (arith, nat_tests, c.is_empty.ensures, c.if-is_empty.false) in
    short_phrase_back c.args.words.now (stands_by c.args.lists.now c.args.frame.start) c.args.frame.len some c.args.to (omega arith)
