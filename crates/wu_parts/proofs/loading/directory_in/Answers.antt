use Rattle.std.proofs.Common.{[], ◌∷◌, ◌∙◌, subst}
use Rattle.wu_outside.specs.Ranges.{asked_size}
use Rattle.wu_parts.specs.Loading.{ReadsFronts, directory_range}
use Rattle.wu_parts.proofs.OpenedLemmas.{fronts-header, fronts-sized, fronts-then, header-and-size, header-then-read, header-was-read}
use Rattle.wu_parts.proofs.loading.directory_in.Goals as goal

pub returns-in_err-has_size-in-Some-clause-fronts : goal.returns-in_err-has_size-in-Some-clause-fronts
returns-in_err-has_size-in-Some-clause-fronts g c =
    fronts-header (g.D.Store.holds c.args.store.now) c.args.recorded.now (g.D.Store.reads c.args.store.now)
    (g.D.Store.reads c.has_size.new.store) (c.in_err-has_size-in-Some.ensures.noted ∙ c.in_ok-length.ensures.noted)

pub returns-then-not-branch-clause-fronts : goal.returns-then-not-branch-clause-fronts
returns-then-not-branch-clause-fronts g c =
    fronts-sized (g.D.Store.holds c.args.store.now) c.args.recorded.now (g.D.Store.reads c.args.store.now)
    (g.D.Store.reads c.has_size.new.store)
    (header-and-size c.args.recorded.now.blob (g.D.Store.reads c.args.store.now) (g.D.Store.reads c.header_in.new.store)
    (g.D.Store.reads c.has_size.new.store) c.in_ok-length.ensures.noted c.in_ok-has_size-in-Some.ensures.noted)

pub returns-then-not-branch-clause-read : goal.returns-then-not-branch-clause-read
returns-then-not-branch-clause-read g c =
    header-was-read c.args.recorded.now.blob (asked_size c.args.recorded.now.blob ∷ []) (g.D.Store.reads c.args.store.now)
    (g.D.Store.reads c.has_size.new.store)
    (header-and-size c.args.recorded.now.blob (g.D.Store.reads c.args.store.now) (g.D.Store.reads c.header_in.new.store)
    (g.D.Store.reads c.has_size.new.store) c.in_ok-length.ensures.noted c.in_ok-has_size-in-Some.ensures.noted)

pub returns-else-not-branch-clause-fronts : goal.returns-else-not-branch-clause-fronts
returns-else-not-branch-clause-fronts g c =
    let recorded = c.args.recorded.now in
    let holds = g.D.Store.holds c.args.store.now in
    let first = g.D.Store.reads c.args.store.now in
    let next = g.D.Store.reads c.has_size.new.store in
    let last = g.D.Store.reads c.directory_after.new.store in
    fronts-then holds (recorded ∷ []) first next last
    (fronts-sized holds recorded first next
    (header-and-size recorded.blob first (g.D.Store.reads c.header_in.new.store) next c.in_ok-length.ensures.noted
    c.in_ok-has_size-in-Some.ensures.noted))
    (subst (λ told. ReadsFronts told (recorded ∷ []) next last) (c.has_size.ensures.holds ∙ c.header_in.ensures.holds)
    c.directory_after.ensures.fronts)

pub returns-else-not-branch-clause-read : goal.returns-else-not-branch-clause-read
returns-else-not-branch-clause-read g c =
    let blob = c.args.recorded.now.blob in
    header-then-read blob (directory_range blob c.in-Some.length ∷ []) (g.D.Store.reads c.args.store.now)
    (g.D.Store.reads c.has_size.new.store) (g.D.Store.reads c.directory_after.new.store) c.directory_after.result
    (header-and-size blob (g.D.Store.reads c.args.store.now) (g.D.Store.reads c.header_in.new.store)
    (g.D.Store.reads c.has_size.new.store) c.in_ok-length.ensures.noted c.in_ok-has_size-in-Some.ensures.noted)
    c.directory_after.ensures.read

pub returns-in-None-clause-fronts : goal.returns-in-None-clause-fronts
returns-in-None-clause-fronts g c =
    fronts-header (g.D.Store.holds c.args.store.now) c.args.recorded.now (g.D.Store.reads c.args.store.now)
    (g.D.Store.reads c.header_in.new.store) c.in_ok-length.ensures.noted

pub returns-in-None-clause-read : goal.returns-in-None-clause-read
returns-in-None-clause-read g c =
    header-was-read c.args.recorded.now.blob [] (g.D.Store.reads c.args.store.now) (g.D.Store.reads c.header_in.new.store)
    c.in_ok-length.ensures.noted
