use Rattle.std.proofs.Common.{◌≡◌, filter, refl, ap, ◌∙◌}
use Rattle.wu_base.proofs.EachLemmas.{each-filter}
use Rattle.wu_layout.specs.Postings.{is_live}
use Rattle.wu_lists.specs.Tallying.{tally_of}
use Rattle.wu_lists.proofs.Ascending.{frames_in_order}
use Rattle.wu_parts.specs.Contents.{Contents}
use Rattle.wu_parts.specs.Memory.{Memory, held}
use Rattle.wu_parts.proofs.Asking.{cause-after, kept-after}
use Rattle.wu_parts.proofs.Counting.{all_counted, some_counted}
use Rattle.wu_parts.proofs.FetchedAddresses.{ascend-live, lists-both, told-both}
use Rattle.wu_parts.proofs.parts.Parts.tally.Goals as goal

pub returns-in_err-tally_into-clause-cause : goal.returns-in_err-tally_into-clause-cause
returns-in_err-tally_into-clause-cause g c =
    cause-after c.from_residual-in_err-tally_into.result c.args.self.now c.args.term.now c.args.frames.now
    (g.D.Store.holds c.args.store.now) c.walk.new.self.kept (g.D.Store.faults c.args.store.now) (g.D.Store.faults c.walk.new.store)
    (g.D.Store.reads c.args.store.now) (g.D.Store.reads c.walk.new.store) c.from_residual-in_err-tally_into.ensures.1
    c.in_ok-walk.ensures.blocks c.in_ok-walk.ensures.calm

pub returns-in_err-tally_into-clause-kept : goal.returns-in_err-tally_into-clause-kept
returns-in_err-tally_into-clause-kept g c =
    kept-after c.from_residual-in_err-tally_into.result c.args.self.now c.args.term.now c.args.frames.now
    (g.D.Store.holds c.args.store.now) c.walk.new.self.kept (g.D.Store.reads c.args.store.now) (g.D.Store.reads c.walk.new.store)
    c.in_ok-walk.ensures.blocks

pub returns-clause-lists : goal.returns-clause-lists
returns-clause-lists g c =
    let frames = c.args.frames.now in
    let gains = c.in_ok-walk.ensures.addresses refl in
    let memory : Memory = c.self.inside.memory in
    let same : memory ≡ c.args.self.now.memory = ap (λ (k : Contents). k.memory) (c.self.view_is ∙ c.in_ok-walk.ensures.others) in
    lists-both c.args.self.now memory same c.args.term.now frames (g.D.Store.holds c.args.store.now) gains.more gains.kind
    (tally_of frames) c.tally_into.new.tally
    (all_counted frames memory.end (filter (is_live frames) gains.more) _ c.new-tally.result c.walk.new.found _
    (ascend-live c.args.self.now memory same c.args.term.now frames (g.D.Store.holds c.args.store.now) gains.more gains.kind _
    c.in_ok-tally_into.ensures.ascend)
    c.in_ok-tally_into.ensures.bounded (frames_in_order frames c.requires.apart c.requires.bounded) (c.new-tally.ensures frames)
    gains.gained c.in_ok-tally_into.ensures.addresses)

pub returns-clause-tally : goal.returns-clause-tally
returns-clause-tally g c =
    told-both c.args.self.now c.args.term.now c.args.frames.now (g.D.Store.holds c.args.store.now) (tally_of c.args.frames.now)
    c.tally_into.new.tally (returns-clause-lists g c)

pub returns-clause-counted : goal.returns-clause-counted
returns-clause-counted g c =
    let frames = c.args.frames.now in
    let gains = c.in_ok-walk.ensures.addresses refl in
    let memory : Memory = c.self.inside.memory in
    let same : memory ≡ c.args.self.now.memory = ap (λ (k : Contents). k.memory) (c.self.view_is ∙ c.in_ok-walk.ensures.others) in
    some_counted frames memory.end (filter (is_live frames) gains.more) _ c.new-tally.result c.walk.new.found _
    (ascend-live c.args.self.now memory same c.args.term.now frames (g.D.Store.holds c.args.store.now) gains.more gains.kind _
    c.in_ok-tally_into.ensures.ascend)
    c.in_ok-tally_into.ensures.bounded (frames_in_order frames c.requires.apart c.requires.bounded) (c.new-tally.ensures frames)
    gains.gained c.in_ok-tally_into.ensures.addresses (each-filter (is_live frames) gains.more) (each-filter (is_live frames) (held memory c.args.term.now))
