use Rattle.std.proofs.Common.{◌≡◌, ℕ, Bor, List, Some, map, length, ap, sym, ◌∙◌, rules, tests}
use Rattle.std.proofs.lemmas.Iterator.Splits.{YieldsList-from_slice_split}
use Rattle.std.proofs.lemmas.Iterator.Consumers.{YieldsList-turn, YieldsList-end}
use Rattle.std.proofs.lemmas.List.{map-append}
use Rattle.std.specs.List.{slice_split}
use Rattle.wu_fields.specs.Fields.{all_some}
use Rattle.wu_fields.proofs.FieldLemmas.{all_some_push, all_some_fault}
use Rattle.wu_script.specs.declared.acls.Piece.{Piece}
use Rattle.wu_script.specs.Commands.{is_comma, piece_of, pieces_of}
use Rattle.wu_script.proofs.acls.pieces_of.Goals as goal

pub loop-written-preserved : goal.loop-written-preserved
loop-written-preserved c =
    let is : piece_of c.in-Some.written.now ≡ Some c.in-Some-piece_of.piece = sym c.piece_of.ensures ∙ c.in-Some-piece_of.is in
    let pushed = all_some_push {A = Piece} (map piece_of (map {A =
    Bor (List ℕ)} (λ piece. piece.now) c.loop-written.yielded)) c.loop-written.pieces.items c.in-Some-piece_of.piece c.loop-written.invariant in
    rw (map-append (λ piece. piece.now) c.loop-written.yielded, map-append piece_of, is, c.in_ok-push-in-Some-piece_of.ensures.items) pushed

pub returns-in-None-piece_of : goal.returns-in-None-piece_of
unfolding pieces_of
returns-in-None-piece_of c =
    let field = c.args.field.now in
    let loop = c.loop-written in
    let items = c.into_iter-written-iterator.result in
    let t =
    YieldsList-turn
    (YieldsList-from_slice_split {s = items} _ is_comma field (cc) (cc) (cc) (λ x r q k. search (rules, tests)))
    loop.yielded _ loop.yielded_by _ _ c.in-Some.written c.in-Some.is c.next.ensures.steps in
    let none = ap piece_of (sym t.1) ∙ sym c.piece_of.ensures ∙ c.in-None-piece_of.is in
    sym (all_some_fault piece_of (slice_split is_comma field) (length loop.yielded) c.in-Some.written.now t.0 none)

pub returns : goal.returns
unfolding pieces_of
returns c =
    let field = c.args.field.now in
    let loop = c.loop-written in
    let items = c.into_iter-written-iterator.result in
    let t =
    YieldsList-end
    (YieldsList-from_slice_split {s = items} _ is_comma field (cc) (cc) (cc) (λ x r q k. search (rules, tests)))
    loop.yielded _ loop.yielded_by _ _ c.in-None.is c.next.ensures.steps in
    sym loop.invariant ∙ ap (λ pieces. all_some (map piece_of pieces)) t.0
