use Rattle.std.proofs.Common.{◌≡◌, ℕ, ◌-◌, ◌^◌, List, [], ◌∷◌, ◌++◌, filter, append-nil, ap, sym, subst, ◌∙◌, arith, rules}
use Rattle.wu_base.specs.declared.addresses.TermList.{TermList}
use Rattle.wu_base.specs.declared.limits.TheConstants.{ADDRESSES_MAX}
use Rattle.wu_layout.specs.Postings.{is_live}
use Rattle.wu_lists.proofs.Ascending.{ascend-higher}
use Rattle.wu_part.specs.Parts.{IsList}
use Rattle.wu_parts.proofs.LiveTerms.{dead_list, live_list_from, live_list_is, some_list}
use Rattle.wu_parts.proofs.flushing.put_live.Goals as goal

pub live_among-requires-clause-ascend : goal.live_among-requires-clause-ascend
live_among-requires-clause-ascend c =
    ascend-higher 0 ADDRESSES_MAX (2 ^ 64 - 1) c.args.addresses.items (omega arith) c.requires.ascend

pub returns-then-is_empty : goal.returns-then-is_empty
returns-then-is_empty c =
    let live = c.args.live.now in
    let none : c.in_ok-at.at ≡ [] = search rules in
    let dead : filter (is_live live) c.args.addresses.items ≡ [] = sym c.in_ok-at.ensures.at ∙ none in
    ap (λ (ls : List TermList). record c.args.lists.now { lists = ls })
    (sym (append-nil c.args.lists.now.lists)
    ∙ ap (λ (ls : List TermList). c.args.lists.now.lists ++ ls) (sym (dead_list live c.args.term.now c.args.addresses.items dead)))

pub add-requires-clause-list : goal.add-requires-clause-list
add-requires-clause-list c =
    let some : c.in_ok-at.at ≡ [] → ⊥ = search rules in
    subst (λ (t : List ℕ). IsList (record { term = t; at = c.in_ok-at.at })) (sym c.in_ok-term.ensures)
    (live_list_is c.args.live.now c.args.term.now c.args.addresses.items c.in_ok-at.at c.requires.term c.requires.ascend
    c.in_ok-at.ensures.at some)

pub add-requires-clause-low : goal.add-requires-clause-low
add-requires-clause-low c =
    let some : c.in_ok-at.at ≡ [] → ⊥ = search rules in
    live_list_from c.args.live.now c.args.lists.now.low c.args.addresses.items c.in_ok-at.at c.requires.low c.in_ok-at.ensures.at some

pub returns : goal.returns
returns c =
    let some : c.in_ok-at.at ≡ [] → ⊥ = search rules in
    c.in_ok-add.ensures.ok
    ∙ ap (λ (t : List ℕ). record c.args.lists.now { lists = c.args.lists.now.lists ++ record { term = t; at = c.in_ok-at.at } ∷ [] })
    c.in_ok-term.ensures
    ∙ ap (λ (ls : List TermList). record c.args.lists.now { lists = c.args.lists.now.lists ++ ls })
    (sym (some_list c.args.live.now c.args.term.now c.args.addresses.items c.in_ok-at.at c.in_ok-at.ensures.at some))
