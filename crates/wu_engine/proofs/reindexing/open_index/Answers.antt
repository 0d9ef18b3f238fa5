use Rattle.std.proofs.Common.{◌≡◌, inl, inr, ⊎_elim, arith}
use Rattle.std.proofs.lemmas.Result.{IfOk-weaker}
use Rattle.wu_query.proofs.ReadCauses.{if_err}
use Rattle.wu_engine.proofs.OpenedIndexes.{fronts_read, load_cause, load_opened, reindex_cause, texts_read}
use Rattle.wu_engine.proofs.OpenedParts.{loadable}
use Rattle.wu_engine.proofs.reindexing.open_index.Goals as goal

pub load-requires : goal.load-requires
load-requires g c =
    let checkpoint = c.args.checkpoint.now in
    rw c.as_slice.ensures
    (loadable checkpoint.next_address checkpoint.next_blob checkpoint.flushes checkpoint.files checkpoint.parts c.requires.rules.layout)

pub returns-then-version-eq1-clause-opened : goal.returns-then-version-eq1-clause-opened
returns-then-version-eq1-clause-opened g c =
    let first : c.args.version ≡ 1 = c.if-version-eq1.true in
    IfOk-weaker c.reindex.result _ _ (λ parts opened. inr (first, opened)) c.reindex.ensures.opened

pub returns-then-version-eq1-clause-reads : goal.returns-then-version-eq1-clause-reads
returns-then-version-eq1-clause-reads g c =
    texts_read (g.D.Store.holds c.args.store.now) c.args.version c.args.checkpoint.now c.if-version-eq1.true
    (g.D.Store.reads c.args.store.now) (g.D.Store.reads c.reindex.new.store) c.reindex.ensures.reads

pub returns-then-version-eq1-clause-cause : goal.returns-then-version-eq1-clause-cause
returns-then-version-eq1-clause-cause g c =
    if_err c.reindex.result c.reindex.ensures.cause
    (λ trouble cause. reindex_cause (g.D.Store.holds c.args.store.now) c.args.version c.args.checkpoint.now c.if-version-eq1.true trouble cause)

pub returns-clause-opened : goal.returns-clause-opened
returns-clause-opened g c =
    let second : c.args.version ≡ 2 = ⊎_elim (λ e. absurd (omega (arith, e, c.if-version-eq1.false))) (λ e. e) c.requires.version in
    IfOk-weaker c.load.result _ _
    (λ parts loaded. inl (second, load_opened (g.D.Store.holds c.args.store.now) c.args.checkpoint.now _ c.as_slice.ensures loaded))
    c.load.ensures.loaded

pub returns-clause-reads : goal.returns-clause-reads
returns-clause-reads g c =
    let second : c.args.version ≡ 2 = ⊎_elim (λ e. absurd (omega (arith, e, c.if-version-eq1.false))) (λ e. e) c.requires.version in
    fronts_read (g.D.Store.holds c.args.store.now) c.args.version c.args.checkpoint.now _ c.as_slice.ensures second
    (g.D.Store.reads c.args.store.now) (g.D.Store.reads c.load.new.store) c.load.ensures.fronts

pub returns-clause-cause : goal.returns-clause-cause
returns-clause-cause g c =
    let second : c.args.version ≡ 2 = ⊎_elim (λ e. absurd (omega (arith, e, c.if-version-eq1.false))) (λ e. e) c.requires.version in
    if_err c.load.result c.load.ensures.cause
    (λ trouble cause. load_cause (g.D.Store.holds c.args.store.now) c.args.version c.args.checkpoint.now _ c.as_slice.ensures second
    trouble cause)
