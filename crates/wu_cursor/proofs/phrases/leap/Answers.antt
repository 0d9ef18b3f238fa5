use Rattle.std.proofs.Common.{◌≡◌, ℕ, ◌+◌, ◌∙◌, List, [], length, get_or, sym, subst, arith}
use Rattle.std.proofs.lemmas.List.{get_or_default}
use Rattle.wu_solve.specs.Addresses.{stands_by}
use Rattle.wu_cursor.specs.Places.{HasNoneFrom, IsFirstPlace}
use Rattle.wu_cursor.proofs.Leaps.{Forward, forward, forward_none, leap_from}
use Rattle.wu_cursor.proofs.phrases.leap.Goals as goal

pub returns-in_err-found : goal.returns-in_err-found
returns-in_err-found c =
    let words = c.args.words.now in
    let stands = stands_by c.args.lists.now c.args.frame.start in
    let n = c.args.frame.len in
    let i = c.loop-i.i in
    let place = c.loop-i.place in
    let same : c.as_slice.result.now ≡ get_or words i [] =
    c.as_slice.ensures ∙ c.index-words-i.is ∙ sym (get_or_default words i [] c.index-words-i.result c.loop-i-test.true) in
    rw c.from_residual.ensures
    (forward_none stands words n c.args.from place i c.loop-i-test.true c.loop-i.invariant
    (subst (λ (word : List ℕ). HasNoneFrom n (stands word) (place + i)) same c.in_err-found.ensures))

pub loop-i-preserved : goal.loop-i-preserved
loop-i-preserved c =
    let words = c.args.words.now in
    let stands = stands_by c.args.lists.now c.args.frame.start in
    let n = c.args.frame.len in
    let i = c.loop-i.i in
    let place = c.loop-i.place in
    let found = c.in_ok-found.found in
    let same : c.as_slice.result.now ≡ get_or words i [] =
    c.as_slice.ensures ∙ c.index-words-i.is ∙ sym (get_or_default words i [] c.index-words-i.result c.loop-i-test.true) in
    forward stands words n c.args.from place i found c.loop-i-test.true c.loop-i.invariant
    (subst (λ (word : List ℕ). IsFirstPlace n (stands word) (place + i) found) same c.in_ok-found.ensures)

pub returns : goal.returns
returns c =
    let words = c.args.words.now in
    let stands = stands_by c.args.lists.now c.args.frame.start in
    let n = c.args.frame.len in
    let all : c.loop-i.i ≡ length words = omega arith in
    leap_from stands words n c.args.from c.loop-i.place c.requires.words
    (subst (λ (i : ℕ). Forward stands words n c.args.from c.loop-i.place i) all c.loop-i.invariant)
