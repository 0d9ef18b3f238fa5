use Rattle.std.proofs.Common.{◌≡◌, ℕ, ◌==◌, Bor, List, Some, map, length, ap, sym, ◌∙◌, rules, tests}
use Rattle.std.proofs.lemmas.Iterator.Splits.{YieldsList-from_slice_split}
use Rattle.std.proofs.lemmas.Iterator.Consumers.{YieldsList-turn, YieldsList-end}
use Rattle.std.proofs.lemmas.List.{map-append}
use Rattle.std.specs.List.{slice_split}
use Rattle.wu_fields.specs.Fields.{all_some, unescaped, fields_of}
use Rattle.wu_fields.proofs.FieldLemmas.{all_some_push, all_some_fault}
use Rattle.wu_fields.proofs.splitting.split_fields.Goals as goal

pub loop-written-preserved : goal.loop-written-preserved
loop-written-preserved c =
    let is : unescaped c.in-Some.written.now ≡ Some c.in-Some-2.field = sym c.in_ok-field.ensures ∙ c.in-Some-2.is in
    let pushed = all_some_push {A = List ℕ} (map unescaped (map {A =
    Bor (List ℕ)} (λ piece. piece.now) c.loop-written.yielded)) c.loop-written.fields.items c.in-Some-2.field c.loop-written.invariant in
    rw (map-append (λ piece. piece.now) c.loop-written.yielded, map-append unescaped, is, c.in_ok-push-in-Some-2.ensures.items) pushed

pub returns-in-None-2 : goal.returns-in-None-2
unfolding fields_of
returns-in-None-2 c =
    let line = c.args.line.now in
    let loop = c.loop-written in
    let items = c.into_iter-written-iterator.result in
    let t =
    YieldsList-turn
    (YieldsList-from_slice_split {s = items} _ (λ byte. byte == 9) line (cc) (cc) (cc) (λ x r q k. search (rules, tests)))
    loop.yielded _ loop.yielded_by _ _ c.in-Some.written c.in-Some.is c.next.ensures.steps in
    let none = ap unescaped (sym t.1) ∙ sym c.in_ok-field.ensures ∙ c.in-None-2.is in
    sym (all_some_fault unescaped (slice_split (λ byte. byte == 9) line) (length loop.yielded) c.in-Some.written.now t.0 none)

pub returns : goal.returns
unfolding fields_of
returns c =
    let line = c.args.line.now in
    let loop = c.loop-written in
    let items = c.into_iter-written-iterator.result in
    let t =
    YieldsList-end
    (YieldsList-from_slice_split {s = items} _ (λ byte. byte == 9) line (cc) (cc) (cc) (λ x r q k. search (rules, tests)))
    loop.yielded _ loop.yielded_by _ _ c.in-None.is c.next.ensures.steps in
    sym loop.invariant ∙ ap (λ pieces. all_some (map unescaped pieces)) t.0
