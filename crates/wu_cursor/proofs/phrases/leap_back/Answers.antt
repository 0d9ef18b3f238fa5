use Rattle.std.proofs.Common.{◌≡◌, ℕ, ◌+◌, ◌∙◌, List, [], length, get_or, sym, subst, arith}
use Rattle.std.proofs.lemmas.List.{get_or_default}
use Rattle.wu_solve.specs.Addresses.{stands_by}
use Rattle.wu_cursor.specs.Places.{HasNoneTo, IsLastPlace}
use Rattle.wu_cursor.proofs.Leaps.{Backward, backward, backward_none, backward_short, leap_back_to}
use Rattle.wu_cursor.proofs.phrases.leap_back.Goals as goal

pub returns-in_err-found : goal.returns-in_err-found
returns-in_err-found c =
    let words = c.args.words.now in
    let stands = stands_by c.args.lists.now c.args.frame.start in
    let n = c.args.frame.len in
    let i = c.loop-i.i in
    let place = c.loop-i.place in
    let same : c.as_slice.result.now ≡ get_or words i [] =
    c.as_slice.ensures ∙ c.index-words-i.is ∙ sym (get_or_default words i [] c.index-words-i.result c.loop-i-test.true) in
    rw c.from_residual.ensures
    (backward_none stands words n c.args.to place i c.loop-i-test.true c.loop-i.invariant
    (subst (λ (word : List ℕ). HasNoneTo n (stands word) (place + i)) same c.in_err-found.ensures))

pub returns-then-found-i : goal.returns-then-found-i
returns-then-found-i c =
    let words = c.args.words.now in
    let stands = stands_by c.args.lists.now c.args.frame.start in
    let n = c.args.frame.len in
    let i = c.loop-i.i in
    let place = c.loop-i.place in
    let found = c.in_ok-found.found in
    let same : c.as_slice.result.now ≡ get_or words i [] =
    c.as_slice.ensures ∙ c.index-words-i.is ∙ sym (get_or_default words i [] c.index-words-i.result c.loop-i-test.true) in
    backward_short stands words n c.args.to place i found c.loop-i-test.true c.loop-i.invariant
    (subst (λ (word : List ℕ). IsLastPlace n (stands word) (place + i) found) same c.in_ok-found.ensures) (omega arith)

pub loop-i-preserved : goal.loop-i-preserved
loop-i-preserved c =
    let words = c.args.words.now in
    let stands = stands_by c.args.lists.now c.args.frame.start in
    let n = c.args.frame.len in
    let i = c.loop-i.i in
    let place = c.loop-i.place in
    let found = c.in_ok-found.found in
    let same : c.as_slice.result.now ≡ get_or words i [] =
    c.as_slice.ensures ∙ c.index-words-i.is ∙ sym (get_or_default words i [] c.index-words-i.result c.loop-i-test.true) in
    backward stands words n c.args.to place i found c.loop-i-test.true c.loop-i.invariant
    (subst (λ (word : List ℕ). IsLastPlace n (stands word) (place + i) found) same c.in_ok-found.ensures) (omega arith)

pub returns : goal.returns
returns c =
    let words = c.args.words.now in
    let stands = stands_by c.args.lists.now c.args.frame.start in
    let n = c.args.frame.len in
    let all : c.loop-i.i ≡ length words = omega arith in
    leap_back_to stands words n c.args.to c.loop-i.place c.requires.words
    (subst (λ (i : ℕ). Backward stands words n c.args.to c.loop-i.place i) all c.loop-i.invariant)
