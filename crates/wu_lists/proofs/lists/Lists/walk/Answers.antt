use Rattle.std.proofs.Common.{◌+◌, List, filter, subst, arith, rules}
use Rattle.std.specs.Prelude.{IfErr, IfSome}
use Rattle.std.specs.List.{AllByRecursion}
use Rattle.std.specs.Map.{keys_of}
use Rattle.std.proofs.lemmas.Result.{IfErr-weaker}
use Rattle.wu_base.specs.declared.troubles.Trouble.{Trouble}
use Rattle.wu_base.proofs.Results.{on_err}
use Rattle.wu_layout.proofs.EntryLemmas.{IfSome-map}
use Rattle.wu_lists.specs.Blocks.{IsSpelledIn, blocks_from, meets, needed}
use Rattle.wu_lists.specs.declared.blocks.Block.{Block}
use Rattle.wu_lists.specs.Causes.{IsCause}
use Rattle.wu_part.specs.Parts.{IsNoPart}
use Rattle.wu_lists.specs.Fetching.{AreGathered, HasBlocks, HasTerm}
use Rattle.wu_lists.specs.Keeping.{Asks, AsksFirst, all_missing}
use Rattle.wu_lists.proofs.Ascending.{frames_in_order}
use Rattle.wu_lists.proofs.Asking.{asks-none, cause-step}
use Rattle.wu_lists.proofs.Terms.{entry-absent, entry-blocks, entry-found, gathered-absent, gathered-term, needed-absent, needed-found}
use Rattle.wu_lists.proofs.Terms.{no-part}
use Rattle.wu_lists.proofs.Walks.{gains-none, gains-step}
use Rattle.wu_lists.proofs.lists.Lists.walk.Goals as goal

pub walk_blocks-requires-clause-order : goal.walk_blocks-requires-clause-order
walk_blocks-requires-clause-order g c =
    frames_in_order c.args.frames.now c.requires.apart c.requires.bounded

pub walk_blocks-requires-clause-cut : goal.walk_blocks-requires-clause-cut
walk_blocks-requires-clause-cut g c =
    entry-blocks c.args.dir.now c.is_spelled.ensures.0 c.in-Some.entry c.is_spelled.ensures.1 c.in-Some.ensures.0

pub returns-in_err-walk_blocks-in-Some-clause-cause : goal.returns-in_err-walk_blocks-in-Some-clause-cause
returns-in_err-walk_blocks-in-Some-clause-cause g c =
    let directory = c.args.dir.now in
    let blob = c.args.blob in
    let entry = c.in-Some.entry in
    let frames = c.args.frames.now in
    let old = c.args.self.now in
    let holds = g.D.Store.holds c.args.store.now in
    let faults = g.D.Store.faults in
    let reads = g.D.Store.reads in
    let there = entry-found directory.terms entry c.args.term.now c.is_spelled.ensures.1.holds.ascending c.in-Some.ensures.0
    c.in-Some.ensures.1 in
    let Broken = IfSome holds
    (λ content. AllByRecursion (IsSpelledIn content) (blocks_from blob directory.low entry.count entry.blocks) → ⊥) in
    let Other = IfSome holds (λ content. IsNoPart directory (content.blobs blob)) in
    let told : IfErr c.from_residual.result (IsCause (all_missing old.cap (keys_of old.entries)
    (filter (meets frames) (blocks_from blob directory.low entry.count entry.blocks))) blob Broken
    (faults c.args.store.now) (faults c.walk_blocks.new.store) (reads c.args.store.now) (reads c.walk_blocks.new.store)) =
    search rules in
    let Goal : Trouble → Type 0 = λ trouble. IsCause (all_missing old.cap (keys_of old.entries)
    (needed blob directory c.args.term.now frames)) blob Other
    (faults c.args.store.now) (faults c.walk_blocks.new.store) (reads c.args.store.now) (reads c.walk_blocks.new.store) trouble in
    IfErr-weaker c.from_residual.result _ Goal
    (λ trouble is.
    subst (λ (bs : List Block). IsCause (all_missing old.cap (keys_of old.entries) bs) blob Other
    (faults c.args.store.now) (faults c.walk_blocks.new.store) (reads c.args.store.now) (reads c.walk_blocks.new.store) trouble)
    (needed-found directory c.args.term.now frames blob entry there)
    (cause-step (all_missing old.cap (keys_of old.entries)
    (filter (meets frames) (blocks_from blob directory.low entry.count entry.blocks))) blob Broken Other
    (faults c.args.store.now) (faults c.walk_blocks.new.store) (reads c.args.store.now) (reads c.walk_blocks.new.store) trouble
    (IfSome-map (λ content. AllByRecursion (IsSpelledIn content) (blocks_from blob directory.low entry.count entry.blocks) → ⊥)
    (λ content. IsNoPart directory (content.blobs blob)) holds
    (λ content broken. no-part content blob directory entry c.in-Some.ensures.0 broken)) is))
    told

pub returns-in_err-walk_blocks-in-Some-clause-kept : goal.returns-in_err-walk_blocks-in-Some-clause-kept
returns-in_err-walk_blocks-in-Some-clause-kept g c =
    let directory = c.args.dir.now in
    let there = entry-found directory.terms c.in-Some.entry c.args.term.now c.is_spelled.ensures.1.holds.ascending c.in-Some.ensures.0
    c.in-Some.ensures.1 in
    on_err c.from_residual.result
    (subst (λ (bs : List Block). AsksFirst bs (g.D.Store.holds c.args.store.now) c.args.self.now c.walk_blocks.new.self)
    (needed-found directory c.args.term.now c.args.frames.now c.args.blob c.in-Some.entry there)
    c.in_err-walk_blocks-in-Some.ensures.kept)

pub returns-in_ok-walk_blocks-in-Some-clause-addresses : goal.returns-in_ok-walk_blocks-in-Some-clause-addresses
returns-in_ok-walk_blocks-in-Some-clause-addresses g c = λ wanted.
    let directory = c.args.dir.now in
    let entry = c.in-Some.entry in
    let there = entry-found directory.terms entry c.args.term.now c.is_spelled.ensures.1.holds.ascending c.in-Some.ensures.0
    c.in-Some.ensures.1 in
    gains-step (g.S.AddressSink.gained c.args.frames.now)
    (AreGathered (HasBlocks directory.low entry.count entry.blocks) c.args.frames.now c.args.blob directory.low (directory.high + 1)
    (g.D.Store.holds c.args.store.now) c.args.self.now)
    (AreGathered (HasTerm directory c.args.term.now) c.args.frames.now c.args.blob directory.low (directory.high + 1)
    (g.D.Store.holds c.args.store.now) c.args.self.now)
    c.args.found.now c.walk_blocks.new.found
    (λ more f.
    gathered-term directory c.args.term.now c.args.frames.now c.args.blob directory.low (directory.high + 1)
    (g.D.Store.holds c.args.store.now) c.args.self.now entry more there f)
    (c.in_ok-walk_blocks-in-Some.ensures.addresses wanted)

pub returns-in_ok-walk_blocks-in-Some-clause-blocks : goal.returns-in_ok-walk_blocks-in-Some-clause-blocks
returns-in_ok-walk_blocks-in-Some-clause-blocks g c =
    let directory = c.args.dir.now in
    let there = entry-found directory.terms c.in-Some.entry c.args.term.now c.is_spelled.ensures.1.holds.ascending c.in-Some.ensures.0
    c.in-Some.ensures.1 in
    subst (λ (bs : List Block). Asks bs (g.D.Store.holds c.args.store.now) c.args.self.now c.walk_blocks.new.self
    (g.D.Store.reads c.args.store.now) (g.D.Store.reads c.walk_blocks.new.store))
    (needed-found directory c.args.term.now c.args.frames.now c.args.blob c.in-Some.entry there)
    c.in_ok-walk_blocks-in-Some.ensures.blocks

pub returns-in-None-clause-addresses : goal.returns-in-None-clause-addresses
returns-in-None-clause-addresses g c = λ wanted.
    let directory = c.args.dir.now in
    let span = c.is_spelled.ensures.1.holds.span in
    gains-none (g.S.AddressSink.gained c.args.frames.now)
    (AreGathered (HasTerm directory c.args.term.now) c.args.frames.now c.args.blob directory.low (directory.high + 1)
    (g.D.Store.holds c.args.store.now) c.args.self.now)
    c.args.found.now (g.met.S.AddressSink.none c.args.frames.now c.args.found.now)
    (gathered-absent directory c.args.term.now c.args.frames.now c.args.blob directory.low (directory.high + 1)
    (g.D.Store.holds c.args.store.now) c.args.self.now (entry-absent directory.terms c.args.term.now c.in-None.ensures)
    (omega (arith, span)))

pub returns-in-None-clause-blocks : goal.returns-in-None-clause-blocks
returns-in-None-clause-blocks g c =
    let directory = c.args.dir.now in
    subst (λ (bs : List Block). Asks bs (g.D.Store.holds c.args.store.now) c.args.self.now c.args.self.now
    (g.D.Store.reads c.args.store.now) (g.D.Store.reads c.args.store.now))
    (needed-absent directory c.args.term.now c.args.frames.now c.args.blob
    (entry-absent directory.terms c.args.term.now c.in-None.ensures))
    (asks-none (g.D.Store.holds c.args.store.now) c.args.self.now (g.D.Store.reads c.args.store.now))
