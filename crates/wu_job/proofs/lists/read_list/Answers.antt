use Rattle.std.proofs.Common.{◌≡◌, ◌<◌, ℕ, List, [], ◌++◌, length, min, refl, sym, subst, ◌∙◌, rules}
use Rattle.std.specs.Prelude.{IfSome}
use Rattle.std.proofs.lemmas.Result.{err_from_is_err_and}
use Rattle.wu_layout.proofs.EntryLemmas.{IfSome-all, IfSome-map}
use Rattle.wu_vbyte.specs.declared.blocks.TheConstants.{BLOCK_LEN}
use Rattle.wu_job.specs.Jobs.{HoldsEntry}
use Rattle.wu_job.specs.Reading.{AreNoBlocks, HoldsInBlock, IsNoBlock}
use Rattle.wu_job.specs.Steps.{HasWholeRange, HasWholeRanges, block_range, block_ranges}
use Rattle.wu_part.proofs.ReadBackLemmas.{IsAfter}
use Rattle.wu_job.proofs.Blocks.{AreRead, AreWholeTo, IsReadTo, ranges_all, ranges_failed, ranges_more, ranges_none}
use Rattle.wu_job.proofs.Blocks.{ranges_stopped, read_all, read_broken, read_more, read_none, some_left, to_all, to_more, to_none}
use Rattle.wu_job.proofs.Blocks.{whole_all, whole_more}
use Rattle.wu_job.proofs.Fronts.{cause_after, if_both, no_memory}
use Rattle.wu_job.proofs.lists.read_list.Goals as goal

pub loop-block-init : goal.loop-block-init
loop-block-init g c =
    let low = c.args.source.now.directory.low in
    let blob = c.args.source.now.recorded.blob in
    let found = c.new-found.result.items in
    record {
      held =
          IfSome-all (λ content. AreRead (content.blobs blob) low c.args.entry.now c.args.entry.now found) (g.D.Store.holds c.args.store.now)
          (λ content. read_none (content.blobs blob) low c.args.entry.now found c.new-found.ensures.items);
      whole =
          IfSome-all (λ content. AreWholeTo content blob c.args.entry.now c.args.entry.now) (g.D.Store.holds c.args.store.now)
          (λ content. λ w. w);
      to = to_none low c.args.source.now.directory.high c.args.entry.now found c.new-found.ensures.items c.requires;
      holds = refl;
      still = refl;
      reads = ranges_none blob c.args.entry.now (g.D.Store.reads c.args.store.now);
      calm = refl;
    }

pub loop-block-preserved : goal.loop-block-preserved
loop-block-preserved g c =
    let low = c.args.source.now.directory.low in
    let high = c.args.source.now.directory.high in
    let blob = c.args.source.now.recorded.blob in
    let first = c.args.entry.now in
    let entry = c.loop-block.entry in
    let left = c.next_block.new.self in
    let block = c.in-Some.block in
    let found = c.loop-block.found.items in
    let addresses = c.in_ok-addresses.addresses.items in
    let inv = c.loop-block.invariant in
    let is : IsAfter entry left block = record { blocks = search rules; count = search rules; term = search rules } in
    let few : c.in-Some.count ≡ min entry.count BLOCK_LEN = search rules in
    let n : length addresses ≡ min entry.count BLOCK_LEN = c.in_ok-addresses.ensures.number ∙ few in
    let some : 0 < entry.count = some_left low high first entry left block found inv.to is in
    let grown : c.add_addresses.new.found.items ≡ found ++ addresses = c.in_ok-add_addresses.ensures in
    record {
      held =
          subst (λ (xs : List ℕ). IfSome (g.D.Store.holds c.args.store.now) (λ content. AreRead (content.blobs blob) low first left xs))
          (sym grown)
          (if_both (λ content. AreRead (content.blobs blob) low first entry found)
          (λ content. HoldsInBlock (content.blobs blob) c.low-low.result block addresses)
          (λ content. AreRead (content.blobs blob) low first left (found ++ addresses)) (g.D.Store.holds c.args.store.now)
          (g.D.Store.holds c.loop-block.store) inv.holds inv.held c.in_ok-addresses.ensures.held
          (λ content r h.
          read_more (content.blobs blob) low first entry left block found addresses r is n some
          (subst (λ l. HoldsInBlock (content.blobs blob) l block addresses) c.low-low.ensures h)));
      whole =
          if_both (λ content. AreWholeTo content blob first entry)
          (λ content. HasWholeRange (content.blobs blob) (block_range blob block)) (λ content. AreWholeTo content blob first left)
          (g.D.Store.holds c.args.store.now) (g.D.Store.holds c.loop-block.store) inv.holds inv.whole c.in_ok-addresses.ensures.whole
          (λ content r w. whole_more content blob first entry left block r is w);
      to =
          subst (IsReadTo low high first left) (sym grown)
          (to_more low high first entry left block found addresses inv.to is n c.in_ok-addresses.ensures.ascend);
      holds = c.in_ok-addresses.ensures.holds ∙ inv.holds;
      still = c.in_ok-addresses.ensures.still ∙ inv.still;
      reads =
          ranges_more blob first entry left block (g.D.Store.reads c.args.store.now) (g.D.Store.reads c.loop-block.store)
          (g.D.Store.reads c.read_one.new.store) inv.reads is c.in_ok-addresses.ensures.reads;
      calm = c.in_ok-addresses.ensures.calm ∙ inv.calm;
    }

pub returns-in_err-addresses-clause-front : goal.returns-in_err-addresses-clause-front
returns-in_err-addresses-clause-front g c =
    let p = err_from_is_err_and c.from_residual.result c.from_residual.ensures.1 in
    let entry = c.loop-block.entry in
    let left = c.next_block.new.self in
    let is : IsAfter entry left c.in-Some.block = record { blocks = search rules; count = search rules; term = search rules } in
    rw (p.1, p.2)
    (ranges_failed c.args.source.now.recorded.blob c.args.entry.now entry left c.in-Some.block (g.D.Store.reads c.args.store.now)
    (g.D.Store.reads c.loop-block.store) (g.D.Store.reads c.read_one.new.store) c.in_err-addresses.field-0.0 c.loop-block.invariant.reads is
    c.in_err-addresses.ensures.front)

pub returns-in_err-addresses-clause-cause : goal.returns-in_err-addresses-clause-cause
returns-in_err-addresses-clause-cause g c =
    let p = err_from_is_err_and c.from_residual.result c.from_residual.ensures.1 in
    let low = c.args.source.now.directory.low in
    let source_blob = c.args.source.now.recorded.blob in
    let first = c.args.entry.now in
    let entry = c.loop-block.entry in
    let left = c.next_block.new.self in
    let block = c.in-Some.block in
    let found = c.loop-block.found.items in
    let is : IsAfter entry left block = record { blocks = search rules; count = search rules; term = search rules } in
    let few : c.in-Some.count ≡ min entry.count BLOCK_LEN = search rules in
    let holds = g.D.Store.holds c.args.store.now in
    let now = g.D.Store.holds c.loop-block.store in
    rw (p.1, p.2)
    (cause_after
    (λ broken. (source_blob ≡ broken) × IfSome now (λ content. IsNoBlock (content.blobs source_blob) c.low-low.result c.in-Some.count block))
    (λ blob. (source_blob ≡ blob) × IfSome holds (λ content. AreNoBlocks (content.blobs blob) low first))
    (g.D.Store.faults c.args.store.now) (g.D.Store.faults c.loop-block.store) (g.D.Store.faults c.read_one.new.store)
    c.in_err-addresses.field-0.0 c.loop-block.invariant.calm
    (λ blob b. (
      b.0,
      if_both (λ content. AreRead (content.blobs source_blob) low first entry found)
          (λ content. IsNoBlock (content.blobs source_blob) c.low-low.result c.in-Some.count block)
          (λ content. AreNoBlocks (content.blobs blob) low first) holds now c.loop-block.invariant.holds c.loop-block.invariant.held b.1
          (λ content r n.
          subst (λ x. AreNoBlocks (content.blobs x) low first) b.0
          (read_broken (content.blobs source_blob) low c.in-Some.count first entry left block found r is few
          (subst (λ l. IsNoBlock (content.blobs source_blob) l c.in-Some.count block) c.low-low.ensures n))),
    ))
    c.in_err-addresses.ensures.cause)

pub returns-in_err-add_addresses-clause-front : goal.returns-in_err-add_addresses-clause-front
returns-in_err-add_addresses-clause-front g c =
    let p = err_from_is_err_and c.from_residual-in_err-add_addresses.result c.from_residual-in_err-add_addresses.ensures.1 in
    let blob = c.args.source.now.recorded.blob in
    let left = c.next_block.new.self in
    let is : IsAfter c.loop-block.entry left c.in-Some.block = record { blocks = search rules; count = search rules; term = search rules } in
    let old = g.D.Store.reads c.args.store.now in
    let new = g.D.Store.reads c.read_one.new.store in
    rw (p.1, p.2)
    (ranges_stopped blob c.args.entry.now left old new _
    (ranges_more blob c.args.entry.now c.loop-block.entry left c.in-Some.block old (g.D.Store.reads c.loop-block.store) new
    c.loop-block.invariant.reads is c.in_ok-addresses.ensures.reads)
    no_memory)

pub returns-clause-ascend : goal.returns-clause-ascend
returns-clause-ascend g c =
    to_all c.args.source.now.directory.low c.args.source.now.directory.high c.args.entry.now c.loop-block.entry c.loop-block.found.items
    c.loop-block.invariant.to

pub returns-clause-held : goal.returns-clause-held
returns-clause-held g c =
    let low = c.args.source.now.directory.low in
    let blob = c.args.source.now.recorded.blob in
    let found = c.loop-block.found.items in
    let none : c.loop-block.entry.blocks ≡ [] = search rules in
    IfSome-map (λ content. AreRead (content.blobs blob) low c.args.entry.now c.loop-block.entry found)
    (λ content. HoldsEntry (content.blobs blob) low c.args.entry.now found) (g.D.Store.holds c.args.store.now)
    (λ content r.
    read_all (content.blobs blob) low c.args.source.now.directory.high c.args.entry.now c.loop-block.entry found r c.loop-block.invariant.to
    none c.requires.count)
    c.loop-block.invariant.held

pub returns-clause-whole : goal.returns-clause-whole
returns-clause-whole g c =
    let blob = c.args.source.now.recorded.blob in
    let first = c.args.entry.now in
    let none : c.loop-block.entry.blocks ≡ [] = search rules in
    IfSome-map (λ content. AreWholeTo content blob first c.loop-block.entry)
    (λ content. HasWholeRanges content (block_ranges blob first.blocks)) (g.D.Store.holds c.args.store.now)
    (λ content r. whole_all content blob first c.loop-block.entry r none)
    c.loop-block.invariant.whole

pub returns-clause-reads : goal.returns-clause-reads
returns-clause-reads g c =
    let none : c.loop-block.entry.blocks ≡ [] = search rules in
    ranges_all c.args.source.now.recorded.blob c.args.entry.now c.loop-block.entry (g.D.Store.reads c.args.store.now)
    (g.D.Store.reads c.loop-block.store) c.loop-block.invariant.reads none
