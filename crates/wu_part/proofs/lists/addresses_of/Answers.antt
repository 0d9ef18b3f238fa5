use Rattle.std.proofs.Common.{◌≡◌, ◌++◌, ◌∷◌, ◌+◌, ◌-◌, ◌∙◌, [], ap, min, List, ℕ, arith, rules}
use Rattle.std.specs.Prelude.{slice_range}
use Rattle.wu_vbyte.specs.declared.blocks.TheConstants.{BLOCK_LEN}
use Rattle.wu_part.proofs.ReadBackLemmas.{all_read_back, none_read_back, one_read_back}
use Rattle.wu_part.proofs.lists.addresses_of.Goals as goal

pub loop-block-init : goal.loop-block-init
loop-block-init c = none_read_back c.args.low c.args.blocks.now c.args.entry.now _ c.new-found.ensures.items

pub loop-block-preserved : goal.loop-block-preserved
loop-block-preserved c =
    let entry = c.loop-block.entry in
    let left = c.next_block.new.self in
    let block = c.in-Some.block in
    let addresses = c.in-Some-2.addresses.items in
    let blocks : entry.blocks ≡ block ∷ left.blocks = search rules in
    let few : c.in-Some.count ≡ min entry.count BLOCK_LEN = search rules in
    let less : left.count ≡ entry.count - BLOCK_LEN = search rules in
    let bytes : c.in-Some-bytes_of.bytes.now ≡ slice_range c.args.blocks.now block.at (block.at + block.len) = search rules in
    let read = rw c.in-Some-2.is at c.in_ok-addresses.ensures.found in
    one_read_back c.args.low c.in-Some.count c.args.blocks.now c.args.entry.now entry left block c.loop-block.found.items addresses
    c.in-Some-bytes_of.bytes.now _ c.loop-block.invariant blocks few less bytes read.0 read.1
    (c.in_ok-extend_from_slice.ensures.items ∙ ap (λ (xs : List ℕ). c.loop-block.found.items ++ xs) c.deref.ensures.value)

pub returns : goal.returns
returns c =
    let none : c.loop-block.entry.blocks ≡ [] = search rules in
    let same : c.next_block.new.self ≡ c.loop-block.entry = search rules in
    all_read_back c.args.low c.args.blocks.now c.args.entry.now c.loop-block.entry c.loop-block.found.items c.loop-block.invariant none
    (omega (arith, c.if-count-ne0.false, c.count.ensures, ap (λ e. e.count) same))
