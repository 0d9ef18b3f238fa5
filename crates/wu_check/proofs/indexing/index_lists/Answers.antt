use Rattle.std.proofs.Common.{◌≡◌, ℕ, List, ◌∷◌, ◌∙◌}
use Rattle.std.specs.Prelude.{eqb}
use Rattle.std.specs.List.{IsDistinct}
use Rattle.wu_base.specs.declared.addresses.TermList.{TermList}
use Rattle.wu_check.specs.Indexing.{HoldsAddresses}
use Rattle.wu_check.specs.Numbered.{AreNumbered, addresses_in, with_list}
use Rattle.wu_check.proofs.IndexedParts.{finished, its_blocks, its_entry, next_list, no_list, shared_address}
use Rattle.wu_check.proofs.indexing.index_lists.Goals as goal

pub loop-entry-init : goal.loop-entry-init
loop-entry-init c =
    no_list c.args.directory.now c.args.bytes.now c.is_spelled.ensures.0 c.args.ranges.now _ _ c.requires.own c.is_spelled.ensures.1
    c.in_ok-numbering.ensures (c.into_iter-entry-iterator.ensures.into_iter_gives ∙ c.terms-entry-items.ensures)

pub addresses_of-requires-clause-entry : goal.addresses_of-requires-clause-entry
addresses_of-requires-clause-entry c =
    let steps : c.loop-entry.entry-iterator ≡ c.in-Some.entry ∷ c.next.new.self = c.in-Some.ensures.steps in
    its_entry c.args.directory.now c.args.bytes.now c.args.ranges.now _ c.next.new.self c.in-Some.entry c.loop-entry.numbering
    c.loop-entry.invariant steps

pub addresses_of-requires-clause-lie : goal.addresses_of-requires-clause-lie
addresses_of-requires-clause-lie c =
    let steps : c.loop-entry.entry-iterator ≡ c.in-Some.entry ∷ c.next.new.self = c.in-Some.ensures.steps in
    its_blocks c.args.directory.now c.args.bytes.now c.args.ranges.now _ c.next.new.self c.in-Some.entry c.loop-entry.numbering
    c.loop-entry.invariant steps

pub add-requires : goal.add-requires
add-requires c = c.loop-entry.invariant.numbered.places

pub loop-entry-preserved : goal.loop-entry-preserved
loop-entry-preserved c =
    let directory = c.args.directory.now in
    let ranges = c.args.ranges.now in
    let steps : c.loop-entry.entry-iterator ≡ c.in-Some.entry ∷ c.next.new.self = c.in-Some.ensures.steps in
    let term : List ℕ = c.in_ok-term.term in
    let own : List ℕ = c.deref.result.now in
    let holds : HoldsAddresses directory.low c.args.bytes.now c.in-Some.entry c.in-Some-2.addresses.items =
    rw c.in-Some-2.is at c.in_ok-addresses.ensures.found in
    let more : (lists : List TermList) → AreNumbered ranges lists c.loop-entry.numbering
    → AreNumbered ranges (with_list lists term own) c.add.new.self =
    λ lists are. let added = c.in_ok-add.ensures ranges lists are in rw c.if-not-branch.false at added in
    next_list directory c.args.bytes.now ranges _ c.next.new.self c.in-Some.entry c.loop-entry.numbering c.loop-entry.invariant steps
    c.add.new.self term c.in-Some-2.addresses.items own holds (c.in_ok-term.ensures ∙ c.term.ensures) c.deref.ensures.value more

pub returns-then-not-branch-clause-none : goal.returns-then-not-branch-clause-none
returns-then-not-branch-clause-none c =
    let directory = c.args.directory.now in
    let ranges = c.args.ranges.now in
    let steps : c.loop-entry.entry-iterator ≡ c.in-Some.entry ∷ c.next.new.self = c.in-Some.ensures.steps in
    let term : List ℕ = c.in_ok-term.term in
    let own : List ℕ = c.deref.result.now in
    let holds : HoldsAddresses directory.low c.args.bytes.now c.in-Some.entry c.in-Some-2.addresses.items =
    rw c.in-Some-2.is at c.in_ok-addresses.ensures.found in
    let shared : (lists : List TermList) → AreNumbered ranges lists c.loop-entry.numbering
    → IsDistinct eqb (addresses_in (with_list lists term own)) → ⊥ =
    λ lists are. let added = c.in_ok-add.ensures ranges lists are in rw c.if-not-branch.true at added in
    shared_address directory c.args.bytes.now ranges _ c.next.new.self c.in-Some.entry c.loop-entry.numbering c.loop-entry.invariant steps
    term c.in-Some-2.addresses.items own holds (c.in_ok-term.ensures ∙ c.term.ensures) c.deref.ensures.value shared

pub returns-clause-found : goal.returns-clause-found
returns-clause-found c =
    (finished c.args.directory.now c.args.bytes.now c.args.ranges.now _ c.loop-entry.numbering c.into_index.result c.requires.own
    c.loop-entry.invariant c.in-None.ensures.steps.0 (λ lists are. c.into_index.ensures c.args.ranges.now lists are)).0

pub returns-clause-none : goal.returns-clause-none
returns-clause-none c =
    (finished c.args.directory.now c.args.bytes.now c.args.ranges.now _ c.loop-entry.numbering c.into_index.result c.requires.own
    c.loop-entry.invariant c.in-None.ensures.steps.0 (λ lists are. c.into_index.ensures c.args.ranges.now lists are)).1
