use Rattle.std.proofs.Common.{◌≡◌, ◌≤◌, ◌-◌, ◌^◌, ◌++◌, ℕ, List, filter, refl, ap, ap₂, ◌∙◌, sym, subst, arith}
use Rattle.wu_base.specs.declared.limits.TheConstants.{ADDRESSES_MAX}
use Rattle.wu_layout.specs.Postings.{is_live}
use Rattle.wu_lists.specs.Ascending.{AscendBetween}
use Rattle.wu_lists.proofs.Ascending.{ascend-higher}
use Rattle.wu_parts.specs.Contents.{Contents}
use Rattle.wu_parts.specs.Memory.{Memory, held}
use Rattle.wu_parts.proofs.Asking.{cause-after, kept-after}
use Rattle.wu_parts.proofs.FetchedAddresses.{ascend-both, lists-both, live_twice, told-both}
use Rattle.wu_parts.proofs.parts.Parts.gather.Goals as goal

pub returns-in_err-memory-clause-cause : goal.returns-in_err-memory-clause-cause
returns-in_err-memory-clause-cause g c =
    cause-after c.from_residual-in_err-memory.result c.args.self.now c.args.term.now c.args.frames.now
    (g.D.Store.holds c.args.store.now) c.walk.new.self.kept (g.D.Store.faults c.args.store.now) (g.D.Store.faults c.walk.new.store)
    (g.D.Store.reads c.args.store.now) (g.D.Store.reads c.walk.new.store) c.from_residual-in_err-memory.ensures.1
    c.in_ok-walk.ensures.blocks c.in_ok-walk.ensures.calm

pub returns-in_err-memory-clause-kept : goal.returns-in_err-memory-clause-kept
returns-in_err-memory-clause-kept g c =
    kept-after c.from_residual-in_err-memory.result c.args.self.now c.args.term.now c.args.frames.now
    (g.D.Store.holds c.args.store.now) c.walk.new.self.kept (g.D.Store.reads c.args.store.now) (g.D.Store.reads c.walk.new.store)
    c.in_ok-walk.ensures.blocks

pub invariant_of-result : goal.invariant_of-result
invariant_of-result g c =
    let gains = c.in_ok-walk.ensures.addresses refl in
    let memory : Memory = c.self-2.inside.memory in
    let same : memory ≡ c.args.self.now.memory = ap (λ (k : Contents). k.memory) (c.self-2.view_is ∙ c.in_ok-walk.ensures.others) in
    let found : List ℕ = c.in_ok-memory.memory in
    let blocks : c.walk.new.found ≡ gains.more = gains.gained ∙ ap (λ (l : List ℕ). l ++ gains.more) c.new-blocks.ensures in
    let bounded : memory.end ≤ ADDRESSES_MAX = c.fetch.ensures.bounded in
    subst (λ (l : List ℕ). AscendBetween 0 (2 ^ 64 - 1) (l ++ found)) (sym blocks)
    (ascend-higher 0 memory.end (2 ^ 64 - 1) (gains.more ++ found) (omega (arith, bounded))
    (ascend-both c.args.self.now memory same c.args.term.now c.args.frames.now (g.D.Store.holds c.args.store.now) gains.more gains.kind
    found c.in_ok-memory.ensures.ascend))

pub returns-clause-lists : goal.returns-clause-lists
returns-clause-lists g c =
    let frames = c.args.frames.now in
    let gains = c.in_ok-walk.ensures.addresses refl in
    let memory : Memory = c.self-2.inside.memory in
    let same : memory ≡ c.args.self.now.memory = ap (λ (k : Contents). k.memory) (c.self-2.view_is ∙ c.in_ok-walk.ensures.others) in
    let gathered : List ℕ = c.walk.new.found ++ c.in_ok-memory.memory in
    let blocks : c.walk.new.found ≡ gains.more = gains.gained ∙ ap (λ (l : List ℕ). l ++ gains.more) c.new-blocks.ensures in
    lists-both c.args.self.now memory same c.args.term.now frames (g.D.Store.holds c.args.store.now) gains.more gains.kind
    (λ (l : List ℕ). l) (filter (is_live frames) gathered)
    (live_twice frames gathered gains.more (held memory c.args.term.now)
    (ap₂ (λ (xs ys : List ℕ). xs ++ ys) blocks c.in_ok-memory.ensures.addresses))

pub returns-clause-addresses : goal.returns-clause-addresses
returns-clause-addresses g c =
    told-both c.args.self.now c.args.term.now c.args.frames.now (g.D.Store.holds c.args.store.now) (λ (l : List ℕ). l)
    (filter (is_live c.args.frames.now) (c.walk.new.found ++ c.in_ok-memory.memory))
    (returns-clause-lists g c)
