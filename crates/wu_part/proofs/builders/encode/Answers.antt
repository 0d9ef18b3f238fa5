use Rattle.std.proofs.Common.{◌≡◌, ◌≤◌, ◌+◌, ◌∷◌, ◌++◌, ◌∙◌, [], List, ap, sym, subst, take, arith}
use Rattle.std.proofs.lemmas.List.{take_more}
use Rattle.wu_base.specs.declared.addresses.TermList.{TermList}
use Rattle.wu_part.specs.Buildings.{Building}
use Rattle.wu_part.specs.Writing.{first_of}
use Rattle.wu_part.proofs.BoundLemmas.{each_of_all}
use Rattle.wu_part.proofs.builders.encode.Goals as goal

pub add-requires-clause-low : goal.add-requires-clause-low
add-requires-clause-low c =
    let item = c.list-item.result in
    let least = each_of_all (λ list. c.lowest.result ≤ first_of list.at) c.args.lists.now c.lowest.ensures.least c.loop-list.list-index item
    c.loop-list-test.true in
    let its : c.lowest.result ≤ first_of item.at =
    subst (λ (list : TermList). c.lowest.result ≤ first_of list.at) (sym c.list-item.is) least in
    omega (arith, its, ap (λ (b : Building). b.low) c.loop-list.invariant, ap (λ (b : Building). b.low) c.in_ok-builder.ensures)

pub loop-list-preserved : goal.loop-list-preserved
loop-list-preserved c =
    let lists = c.args.lists.now in
    let k = c.loop-list.list-index in
    let item = c.list-item.result in
    let low = ap (λ (b : Building). b.low) c.loop-list.invariant in
    let made = ap (λ (b : Building). b.lists) c.loop-list.invariant in
    let next : take k lists ++ item ∷ [] ≡ take (k + 1) lists =
    ap (λ (list : TermList). take k lists ++ list ∷ []) c.list-item.is ∙ sym (take_more lists k item c.loop-list-test.true) in
    let make : List TermList → Building = λ ls. record { low = c.in_ok-builder.builder.low; lists = ls } in
    c.in_ok-add.ensures.ok
    ∙ ap (λ (b : Building). record { low = b.low; lists = b.lists ++ item ∷ [] }) c.loop-list.invariant
    ∙ ap make next
