use Rattle.std.proofs.Common.{◌≡◌, ◌+◌, ◌^◌, ◌<◌, ◌∙◌, ℕ, List, [], true, get_or, take, sym, ap, arith, refl}
use Rattle.std.specs.Prelude.{filter}
use Rattle.std.proofs.lemmas.List.{take_all}
use Rattle.std.proofs.lemmas.List.Elements.{All-filter}
use Rattle.wu_base.specs.declared.addresses.Extent.{Extent}
use Rattle.wu_gcl.specs.Extents.{words_stand}
use Rattle.wu_solve.specs.Addresses.{has_address}
use Rattle.wu_solve.proofs.Whole.{keeps_all}
use Rattle.wu_solve.proofs.WordByWord.{next_kept}
use Rattle.wu_solve.proofs.operands.word_by_word.Goals as goal

pub loop-place-init : goal.loop-place-init
loop-place-init c = sym (keeps_all (λ x. true) c.args.extents.items (λ x has. refl))

pub with_word-requires-clause-low : goal.with_word-requires-clause-low
with_word-requires-clause-low c =
    rw c.loop-place.invariant
    (All-filter (λ x. words_stand (has_address c.args.lists.now) (take c.loop-place.place c.args.words.now) x.start)
    (λ x. x.start < 2 ^ 47) c.args.extents.items c.requires.low)

pub with_word-requires-clause-known : goal.with_word-requires-clause-known
with_word-requires-clause-known c =
    rw c.loop-place.invariant
    (All-filter (λ x. words_stand (has_address c.args.lists.now) (take c.loop-place.place c.args.words.now) x.start)
    (λ x. has_address c.args.lists.now (get_or c.args.words.now c.args.known []) (x.start + c.args.known) ≡ true)
    c.args.extents.items c.requires.known)

pub loop-place-preserved : goal.loop-place-preserved
loop-place-preserved c =
    let stands = has_address c.args.lists.now in
    let words = c.args.words.now in
    let place = c.loop-place.place in
    c.in_ok-left.ensures
    ∙ ap (λ (xs : List Extent). filter (λ x. stands (get_or words place []) (x.start + place)) xs) c.loop-place.invariant
    ∙ next_kept stands words place c.args.extents.items (omega arith)

pub returns : goal.returns
returns c =
    c.loop-place.invariant
    ∙ ap (λ (ws : List (List ℕ)). filter (λ x. words_stand (has_address c.args.lists.now) ws x.start) c.args.extents.items)
    (take_all c.loop-place.place c.args.words.now (omega arith))
