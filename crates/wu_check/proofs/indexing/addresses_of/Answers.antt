use Rattle.std.proofs.Common.{◌≡◌, ◌++◌, ◌+◌, ◌≤◌, ◌∙◌, [], List, ℕ, length, min, ap, sym, subst, rules}
use Rattle.std.specs.Prelude.{IfNone}
use Rattle.wu_vbyte.specs.declared.blocks.TheConstants.{BLOCK_LEN}
use Rattle.wu_part.proofs.ReadBackLemmas.{IsAfter}
use Rattle.wu_check.proofs.ReadLists.{AreRead, read_all, read_broken, read_more, read_none}
use Rattle.wu_part.specs.Parts.{HoldsBlock}
use Rattle.wu_check.proofs.indexing.addresses_of.Goals as goal

pub loop-block-init : goal.loop-block-init
loop-block-init c =
    read_none c.args.directory.now.low c.args.directory.now.high c.args.bytes.now c.args.entry.now _ c.new-found.ensures.items
    c.requires.entry c.requires.lie

pub loop-block-preserved : goal.loop-block-preserved
loop-block-preserved c =
    let low = c.args.directory.now.low in
    let high = c.args.directory.now.high in
    let bytes = c.args.bytes.now in
    let first = c.args.entry.now in
    let entry = c.loop-block.entry in
    let left = c.next_block.new.self in
    let block = c.in-Some.block in
    let found = c.loop-block.found.items in
    let addresses = c.in-Some-2.addresses.items in
    let is : IsAfter entry left block = record { blocks = search rules; count = search rules; term = search rules } in
    let few : c.in-Some.count ≡ min entry.count BLOCK_LEN = search rules in
    let n : length addresses ≡ c.in-Some.count = rw c.in-Some-2.is at c.in_ok-addresses.ensures.number in
    let held : HoldsBlock c.low-low.result bytes block addresses = rw c.in-Some-2.is at c.in_ok-addresses.ensures.held in
    let grown : c.extend_from_slice.new.self.items ≡ found ++ addresses =
    c.in_ok-extend_from_slice.ensures.items ∙ ap (λ (xs : List ℕ). found ++ xs) c.deref.ensures.value in
    subst (AreRead low high bytes first left) (sym grown)
    (read_more low high c.in-Some.count bytes first entry left block found addresses c.loop-block.invariant is few n
    (subst (λ l. HoldsBlock l bytes block addresses) c.low-low.ensures held))

pub returns-in_default-2-clause-none : goal.returns-in_default-2-clause-none
returns-in_default-2-clause-none c =
    let low = c.args.directory.now.low in
    let bytes = c.args.bytes.now in
    let entry = c.loop-block.entry in
    let left = c.next_block.new.self in
    let block = c.in-Some.block in
    let is : IsAfter entry left block = record { blocks = search rules; count = search rules; term = search rules } in
    let few : c.in-Some.count ≡ min entry.count BLOCK_LEN = search rules in
    let none : IfNone c.in_ok-addresses.field-0 (block.at + block.len ≤ length bytes
    → (addresses : List ℕ) → length addresses ≡ c.in-Some.count → HoldsBlock c.low-low.result bytes block addresses → ⊥) =
    c.in_ok-addresses.ensures.none in
    read_broken low c.args.directory.now.high c.in-Some.count bytes c.args.entry.now entry left block c.loop-block.found.items
    c.loop-block.invariant is few
    (λ lies addresses n h. rw c.in_default-2.is at none lies addresses n (subst (λ l. HoldsBlock l bytes block addresses) (sym c.low-low.ensures) h))

pub returns-clause-found : goal.returns-clause-found
returns-clause-found c =
    let none : c.loop-block.entry.blocks ≡ [] = search rules in
    (read_all c.args.directory.now.low c.args.directory.now.high c.args.bytes.now c.args.entry.now c.loop-block.entry
    c.loop-block.found.items c.loop-block.invariant none).0

pub returns-clause-ascend : goal.returns-clause-ascend
returns-clause-ascend c =
    let none : c.loop-block.entry.blocks ≡ [] = search rules in
    (read_all c.args.directory.now.low c.args.directory.now.high c.args.bytes.now c.args.entry.now c.loop-block.entry
    c.loop-block.found.items c.loop-block.invariant none).1
