use Rattle.std.proofs.Common.{◌<◌, length, arith}
use Rattle.wu_layout.proofs.EntryLemmas.{IfSome-map}
use Rattle.wu_vbyte.proofs.BlockLemmas.{block_length, block_some}
use Rattle.wu_job.specs.Reading.{HasBytes}
use Rattle.wu_job.specs.Steps.{HasWholeRange, block_range}
use Rattle.wu_job.proofs.Blocks.{whole_block}
use Rattle.wu_job.proofs.Spans.{block_ascends}
use Rattle.wu_job.proofs.lists.read_one.Goals as goal

pub returns-clause-ascend : goal.returns-clause-ascend
returns-clause-ascend g c =
    let h = rw c.in_ok-addresses.ensures.found at c.in_ok-found.ensures.found in
    block_ascends c.args.low c.args.count c.args.block.now.first c.args.block.now.last c.in_ok-addresses.addresses.items _ h.0 h.1

pub returns-clause-whole : goal.returns-clause-whole
returns-clause-whole g c =
    let h = rw (c.in_ok-addresses.ensures.found, c.deref.ensures.value) at c.in_ok-found.ensures.found in
    let blob = c.args.blob in
    let block = c.args.block.now in
    let bytes = c.in_ok-bytes.bytes.items in
    let addresses = c.in_ok-addresses.addresses.items in
    let some : 0 < length bytes =
    omega (arith, block_some c.args.low addresses bytes h.0, block_length c.args.low addresses bytes h.0) in
    IfSome-map (λ content. HasBytes (content.blobs blob) block bytes)
    (λ content. HasWholeRange (content.blobs blob) (block_range blob block)) (g.D.Store.holds c.args.store.now)
    (λ content b. whole_block (content.blobs blob) blob block bytes c.in_ok-bytes.ensures.long some b)
    c.in_ok-bytes.ensures.bytes
