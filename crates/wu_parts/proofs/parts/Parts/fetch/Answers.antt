use Rattle.std.proofs.Common.{◌≡◌, ℕ, true, List, filter, refl, ap, sym, subst, ◌∙◌}
use Rattle.std.specs.List.{AllByRecursion}
use Rattle.wu_base.proofs.EachLemmas.{each-append, each-filter}
use Rattle.wu_layout.specs.Postings.{is_live}
use Rattle.wu_lists.specs.Ascending.{AscendBetween}
use Rattle.wu_lists.proofs.Ascending.{addresses_increase}
use Rattle.wu_parts.specs.Contents.{Contents}
use Rattle.wu_parts.specs.Memory.{Memory, held}
use Rattle.wu_parts.proofs.Asking.{cause-after, kept-after}
use Rattle.wu_parts.proofs.FetchedAddresses.{ascend-live, lists-both, put_both, told-both}
use Rattle.wu_parts.proofs.parts.Parts.fetch.Goals as goal

pub returns-in_err-fetch_into-clause-cause : goal.returns-in_err-fetch_into-clause-cause
returns-in_err-fetch_into-clause-cause g c =
    cause-after c.from_residual-in_err-fetch_into.result c.args.self.now c.args.term.now c.args.frames.now
    (g.D.Store.holds c.args.store.now) c.walk.new.self.kept (g.D.Store.faults c.args.store.now) (g.D.Store.faults c.walk.new.store)
    (g.D.Store.reads c.args.store.now) (g.D.Store.reads c.walk.new.store) c.from_residual-in_err-fetch_into.ensures.1
    c.in_ok-walk.ensures.blocks c.in_ok-walk.ensures.calm

pub returns-in_err-fetch_into-clause-kept : goal.returns-in_err-fetch_into-clause-kept
returns-in_err-fetch_into-clause-kept g c =
    kept-after c.from_residual-in_err-fetch_into.result c.args.self.now c.args.term.now c.args.frames.now
    (g.D.Store.holds c.args.store.now) c.walk.new.self.kept (g.D.Store.reads c.args.store.now) (g.D.Store.reads c.walk.new.store)
    c.in_ok-walk.ensures.blocks

pub returns-clause-lists : goal.returns-clause-lists
returns-clause-lists g c =
    let gains = c.in_ok-walk.ensures.addresses refl in
    let memory : Memory = c.self-2.inside.memory in
    let same : memory ≡ c.args.self.now.memory = ap (λ (k : Contents). k.memory) (c.self-2.view_is ∙ c.in_ok-walk.ensures.others) in
    lists-both c.args.self.now memory same c.args.term.now c.args.frames.now (g.D.Store.holds c.args.store.now) gains.more gains.kind
    (λ (l : List ℕ). l) c.from.result
    (put_both _ _ _ _ _ c.new-found.ensures.items gains.gained (c.from.ensures ∙ c.in_ok-fetch_into.ensures.addresses))

pub returns-clause-addresses : goal.returns-clause-addresses
returns-clause-addresses g c =
    told-both c.args.self.now c.args.term.now c.args.frames.now (g.D.Store.holds c.args.store.now) (λ (l : List ℕ). l) c.from.result
    (returns-clause-lists g c)

pub returns-clause-ascending : goal.returns-clause-ascending
returns-clause-ascending g c =
    let gains = c.in_ok-walk.ensures.addresses refl in
    let memory : Memory = c.self-2.inside.memory in
    let same : memory ≡ c.args.self.now.memory = ap (λ (k : Contents). k.memory) (c.self-2.view_is ∙ c.in_ok-walk.ensures.others) in
    addresses_increase 0 memory.end c.from.result
    (subst (AscendBetween 0 memory.end)
    (sym (put_both _ _ _ _ _ c.new-found.ensures.items gains.gained (c.from.ensures ∙ c.in_ok-fetch_into.ensures.addresses)))
    (ascend-live c.args.self.now memory same c.args.term.now c.args.frames.now (g.D.Store.holds c.args.store.now) gains.more gains.kind _
    c.fetch_into.ensures.ascend))

pub returns-clause-live : goal.returns-clause-live
returns-clause-live g c =
    let frames = c.args.frames.now in
    let gains = c.in_ok-walk.ensures.addresses refl in
    subst (AllByRecursion (λ address. is_live frames address ≡ true))
    (sym (put_both _ _ _ _ _ c.new-found.ensures.items gains.gained (c.from.ensures ∙ c.in_ok-fetch_into.ensures.addresses)))
    (each-append (λ address. is_live frames address ≡ true) (filter (is_live frames) gains.more) _
    (each-filter (is_live frames) gains.more) (each-filter (is_live frames) (held c.self-2.inside.memory c.args.term.now)))
