use Rattle.std.proofs.Common.{arith, sym, ◌≡◌, [], ◌<◌, Some, map, length}
use Rattle.std.proofs.lemmas.List.{map_push, nil_from_length}
use Rattle.std.proofs.lemmas.Bool.Decides.{nat_tests}
use Rattle.wu_gcl.specs.Views.{token_of}
use Rattle.wu_gcl.specs.Scanning.{first_token}
use Rattle.wu_gcl.proofs.Texts.{progress_start, progress_more, lexed_none, lexed_end, front_shorter, after_blanks-shorter}
use Rattle.wu_gcl.proofs.lexing.tokens.Goals as goal

pub texts-init : goal.texts-init
texts-init c = rw (c.after_blanks-rest.ensures, c.new-tokens.ensures.items) (progress_start c.args.text.now)

pub returns-in_default : goal.returns-in_default
returns-in_default c =
    let some : 0 < length c.texts.rest.now = grind (arith, nat_tests, c.is_empty.ensures, c.texts-test.true) in
    lexed_none c.args.text.now _ c.texts.rest.now c.texts.invariant.lexed c.texts.invariant.clear some (sym c.in_default.ensures)

pub texts-smaller : goal.texts-smaller
texts-smaller c =
    let found : first_token c.texts.rest.now ≡ Some (token_of c.in-Some.token, c.in-Some.after.now) = sym c.in-Some.ensures in
    rw c.after_blanks-rest-in-texts.ensures
    (omega (
      arith,
      front_shorter c.texts.rest.now
          (token_of c.in-Some.token) c.in-Some.after.now found,
      after_blanks-shorter c.in-Some.after.now,
    ))

pub texts-preserved : goal.texts-preserved
texts-preserved c =
    let some : 0 < length c.texts.rest.now = grind (arith, nat_tests, c.is_empty.ensures, c.texts-test.true) in
    let found : first_token c.texts.rest.now ≡ Some (token_of c.in-Some.token, c.in-Some.after.now) = sym c.in-Some.ensures in
    rw (c.after_blanks-rest-in-texts.ensures, c.in_ok-push.ensures.items, map_push token_of c.texts.tokens.items c.in-Some.token)
    (progress_more c.args.text.now (map token_of c.texts.tokens.items) c.texts.rest.now
    (token_of c.in-Some.token) c.in-Some.after.now c.texts.invariant some found)

pub returns : goal.returns
returns c =
    let none : c.texts.rest.now
    ≡ [] = nil_from_length c.texts.rest.now (grind (arith, nat_tests, c.is_empty.ensures, c.texts-test.false)) in
    lexed_end c.args.text.now (map token_of c.texts.tokens.items) (rw none at c.texts.invariant.lexed)
