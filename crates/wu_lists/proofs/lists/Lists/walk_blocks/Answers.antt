use Rattle.std.proofs.Common.{◌≡◌, ◌+◌, List, [], ◌∷◌, true, filter, refl, ◌∙◌, subst, rules}
use Rattle.std.specs.Prelude.{IfErr, IfSome}
use Rattle.std.specs.List.{AllByRecursion}
use Rattle.std.specs.Map.{keys_of}
use Rattle.std.proofs.lemmas.Result.{IfErr-weaker}
use Rattle.wu_base.specs.declared.troubles.Trouble.{Trouble}
use Rattle.wu_base.proofs.Results.{on_err}
use Rattle.wu_lists.specs.Blocks.{IsSpelledIn, blocks_from, meets}
use Rattle.wu_lists.specs.declared.blocks.Block.{Block}
use Rattle.wu_lists.specs.Causes.{IsCause}
use Rattle.wu_lists.specs.Fetching.{AreGathered, HasBlock}
use Rattle.wu_lists.specs.Gaining.{Gains}
use Rattle.wu_lists.specs.Keeping.{Asks, AsksFirst, all_missing}
use Rattle.wu_lists.proofs.Asking.{cause-join, first-join}
use Rattle.wu_lists.proofs.Walks.{asked-split, block-broken, block_with, gained-before, walked-found, walked-next, walked-none}
use Rattle.wu_lists.proofs.lists.Lists.walk_blocks.Goals as goal

pub loop-block-init : goal.loop-block-init
loop-block-init g c = record {
  holds = refl;
  moments = refl;
  calm = refl;
  walked =
      walked-none _ (g.S.AddressSink.gained c.args.frames.now) (g.S.AddressSink.wanted ≡ true) c.args.frames.now c.args.blob c.args.dir.now.low
      c.args.dir.now.high c.args.entry (g.D.Store.holds c.args.store.now) c.args.self.now (g.D.Store.reads c.args.store.now)
      c.args.found.now (g.met.S.AddressSink.none c.args.frames.now c.args.found.now) c.requires.cut c.requires.span c.requires.order;
}

pub loop-block-preserved : goal.loop-block-preserved
loop-block-preserved g c =
    let frames = c.args.frames.now in
    let nearer = c.frames_from-left.result.now in
    let blob = c.args.blob in
    let low = c.args.dir.now.low in
    let entry = c.in-Some.block in
    let holds = g.D.Store.holds c.args.store.now in
    let block : Block = block_with blob low c.in-Some.count entry in
    let asks : Asks (filter (meets nearer) (block ∷ [])) holds c.loop-block.self c.visit.new.self (g.D.Store.reads c.loop-block.store)
    (g.D.Store.reads c.visit.new.store) =
    rw (c.low.ensures, c.loop-block.invariant.holds) at c.in_ok-visit.ensures.asks.blocks in
    let gains : g.S.AddressSink.wanted ≡ true
    → Gains (g.S.AddressSink.gained nearer) (AreGathered (HasBlock block) nearer blob entry.first (entry.last + 1) holds c.loop-block.self)
    c.loop-block.found c.visit.new.found =
    rw (c.low.ensures, c.loop-block.invariant.holds) at c.in_ok-visit.ensures.addresses in
    record {
      holds = c.in_ok-visit.ensures.asks.holds ∙ c.loop-block.invariant.holds;
      moments = c.in_ok-visit.ensures.asks.moments ∙ c.loop-block.invariant.moments;
      calm = c.in_ok-visit.ensures.asks.calm ∙ c.loop-block.invariant.calm;
      walked =
          walked-next _ (g.S.AddressSink.gained frames) (g.S.AddressSink.wanted ≡ true) frames blob low c.args.dir.now.high c.args.entry holds
          c.args.self.now (g.D.Store.reads c.args.store.now) c.args.found.now c.loop-block.left.now c.loop-block.entry c.loop-block.self
          (g.D.Store.reads c.loop-block.store) c.loop-block.found
          c.loop-block.invariant.walked entry c.next_block.new.self c.in-Some.count c.in-Some.ensures.0 c.in-Some.ensures.1
          c.in-Some.ensures.2 nearer c.frames_from-left.ensures.order c.frames_from-left.ensures.live c.frames_from-left.ensures.needed
          c.frames_from-left.ensures.opens (g.S.AddressSink.gained nearer) (g.met.S.AddressSink.joins frames)
          (g.met.S.AddressSink.nearer nearer frames entry.first)
          c.visit.new.self (g.D.Store.reads c.visit.new.store) c.visit.new.found asks gains;
    }

pub returns-in_err-visit-clause-cause : goal.returns-in_err-visit-clause-cause
returns-in_err-visit-clause-cause g c =
    let frames = c.args.frames.now in
    let nearer = c.frames_from-left.result.now in
    let blob = c.args.blob in
    let low = c.args.dir.now.low in
    let entry = c.in-Some.block in
    let holds = g.D.Store.holds c.args.store.now in
    let faults = g.D.Store.faults in
    let reads = g.D.Store.reads in
    let all = c.args.entry in
    let next = c.next_block.new.self in
    let now = c.loop-block.self in
    let w = c.loop-block.invariant.walked in
    let block : Block = block_with blob low c.in-Some.count entry in
    let Broken = IfSome holds (λ content. IsSpelledIn content block → ⊥) in
    let Other = IfSome holds (λ content. AllByRecursion (IsSpelledIn content) (blocks_from blob low all.count all.blocks) → ⊥) in
    let told : IfErr c.from_residual.result (IsCause
    (all_missing now.cap (keys_of now.entries) (filter (meets nearer)
    (block_with blob c.low.result c.in-Some.count entry ∷ []))) blob
    (IfSome (g.D.Store.holds c.loop-block.store) (λ content.
    IsSpelledIn content (block_with blob c.low.result c.in-Some.count entry) → ⊥))
    (faults c.loop-block.store) (faults c.visit.new.store) (reads c.loop-block.store) (reads c.visit.new.store)) =
    search rules in
    let cause : IfErr c.from_residual.result (IsCause
    (all_missing now.cap (keys_of now.entries) (filter (meets nearer) (block ∷ []))) blob Broken
    (faults c.loop-block.store) (faults c.visit.new.store) (reads c.loop-block.store) (reads c.visit.new.store)) =
    rw (c.low.ensures, c.loop-block.invariant.holds) at told in
    let Goal : Trouble → Type 0 = λ trouble. IsCause (all_missing c.args.self.now.cap (keys_of c.args.self.now.entries)
    (filter (meets frames) (blocks_from blob low all.count all.blocks))) blob Other
    (faults c.args.store.now) (faults c.visit.new.store) (reads c.args.store.now) (reads c.visit.new.store) trouble in
    IfErr-weaker c.from_residual.result _ Goal
    (λ trouble is.
    subst (λ (bs : List Block). IsCause (all_missing c.args.self.now.cap (keys_of c.args.self.now.entries) bs) blob Other
    (faults c.args.store.now) (faults c.visit.new.store) (reads c.args.store.now) (reads c.visit.new.store) trouble)
    (asked-split _ (g.S.AddressSink.gained frames) (g.S.AddressSink.wanted ≡ true) frames blob low c.args.dir.now.high all holds c.args.self.now
    (reads c.args.store.now) c.args.found.now c.loop-block.left.now
    c.loop-block.entry now (reads c.loop-block.store) c.loop-block.found w entry next c.in-Some.count c.in-Some.ensures.0
    c.in-Some.ensures.1 c.in-Some.ensures.2 nearer c.frames_from-left.ensures.order c.frames_from-left.ensures.live
    c.frames_from-left.ensures.needed c.frames_from-left.ensures.opens)
    (cause-join holds c.args.self.now now (filter (meets frames) w.gone) (filter (meets nearer) (block ∷ []))
    (filter (meets frames) (blocks_from blob low next.count next.blocks)) blob Broken Other (faults c.args.store.now)
    (faults c.loop-block.store) (faults c.visit.new.store) (reads c.args.store.now) (reads c.loop-block.store)
    (reads c.visit.new.store) trouble
    (block-broken _ (g.S.AddressSink.gained frames) (g.S.AddressSink.wanted ≡ true) frames blob low c.args.dir.now.high all holds c.args.self.now
    (reads c.args.store.now) c.args.found.now c.loop-block.left.now
    c.loop-block.entry now (reads c.loop-block.store) c.loop-block.found w entry next c.in-Some.count c.in-Some.ensures.0
    c.in-Some.ensures.1 c.in-Some.ensures.2)
    c.loop-block.invariant.calm w.asks is))
    cause

pub returns-in_err-visit-clause-some : goal.returns-in_err-visit-clause-some
returns-in_err-visit-clause-some g c =
    let frames = c.args.frames.now in
    let nearer = c.frames_from-left.result.now in
    let entry = c.in-Some.block in
    on_err c.from_residual.result
    (gained-before _ (g.S.AddressSink.gained frames) (g.S.AddressSink.wanted ≡ true) frames c.args.blob c.args.dir.now.low c.args.dir.now.high
    c.args.entry (g.D.Store.holds c.args.store.now) c.args.self.now (g.D.Store.reads c.args.store.now) c.args.found.now
    c.loop-block.left.now c.loop-block.entry c.loop-block.self (g.D.Store.reads c.loop-block.store) c.loop-block.found
    c.loop-block.invariant.walked entry c.next_block.new.self c.in-Some.count c.in-Some.ensures.0 c.in-Some.ensures.1
    c.in-Some.ensures.2 nearer c.frames_from-left.ensures.order c.frames_from-left.ensures.live c.frames_from-left.ensures.needed
    c.frames_from-left.ensures.opens (g.S.AddressSink.gained nearer) (g.met.S.AddressSink.joins frames) (g.met.S.AddressSink.nearer nearer frames entry.first)
    c.visit.new.found (λ _. c.in_err-visit.ensures.none))

pub returns-in_err-visit-clause-kept : goal.returns-in_err-visit-clause-kept
returns-in_err-visit-clause-kept g c =
    let frames = c.args.frames.now in
    let nearer = c.frames_from-left.result.now in
    let blob = c.args.blob in
    let low = c.args.dir.now.low in
    let entry = c.in-Some.block in
    let holds = g.D.Store.holds c.args.store.now in
    let reads = g.D.Store.reads in
    let all = c.args.entry in
    let next = c.next_block.new.self in
    let w = c.loop-block.invariant.walked in
    let block : Block = block_with blob low c.in-Some.count entry in
    let first : AsksFirst (filter (meets nearer) (block ∷ [])) holds c.loop-block.self c.visit.new.self =
    rw (c.low.ensures, c.loop-block.invariant.holds) at c.in_err-visit.ensures.asks.kept in
    on_err c.from_residual.result
    (subst (λ (bs : List Block). AsksFirst bs holds c.args.self.now c.visit.new.self)
    (asked-split _ (g.S.AddressSink.gained frames) (g.S.AddressSink.wanted ≡ true) frames blob low c.args.dir.now.high all holds c.args.self.now
    (reads c.args.store.now) c.args.found.now c.loop-block.left.now c.loop-block.entry c.loop-block.self (reads c.loop-block.store)
    c.loop-block.found w entry next c.in-Some.count c.in-Some.ensures.0 c.in-Some.ensures.1 c.in-Some.ensures.2 nearer
    c.frames_from-left.ensures.order c.frames_from-left.ensures.live c.frames_from-left.ensures.needed c.frames_from-left.ensures.opens)
    (first-join holds c.args.self.now c.loop-block.self c.visit.new.self (reads c.args.store.now) (reads c.loop-block.store)
    (filter (meets frames) w.gone) (filter (meets nearer) (block ∷ []))
    (filter (meets frames) (blocks_from blob low next.count next.blocks)) w.asks first))

pub returns-clause-addresses : goal.returns-clause-addresses
returns-clause-addresses g c = λ wanted.
    walked-found _ (g.S.AddressSink.gained c.args.frames.now) (g.S.AddressSink.wanted ≡ true) c.args.frames.now c.args.blob c.args.dir.now.low
    c.args.dir.now.high c.args.entry (g.D.Store.holds c.args.store.now) c.args.self.now (g.D.Store.reads c.args.store.now)
    c.args.found.now c.loop-block.left.now
    c.loop-block.entry c.loop-block.self (g.D.Store.reads c.loop-block.store) c.loop-block.found c.loop-block.invariant.walked
    wanted c.in_default.ensures.0
