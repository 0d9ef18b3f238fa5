use Rattle.std.proofs.Common.{[], refl}
use Rattle.wu_ask.specs.Questions.{Counting, ListingPaths, ListingTerms, Ranking, Weighing}
use Rattle.wu_gcl.specs.Regions.{region_of}
use Rattle.wu_lists.proofs.Asking.{asks-none}
use Rattle.wu_query.proofs.AnswerLemmas.{if_ok, paths_listed}
use Rattle.wu_query.proofs.ExportedFiles.{cause_of_export, texts_alone}
use Rattle.wu_query.proofs.FetchedAlone.{OnlyFetches, only_fetches}
use Rattle.wu_query.proofs.FirstLines.{no_text_read}
use Rattle.wu_query.proofs.QueryReads.{blocks_alone, cause_of_memory}
use Rattle.wu_query.proofs.ReadCauses.{if_err}
use Rattle.wu_query.proofs.querying.answer.Given as given
use Rattle.wu_query.proofs.querying.answer.Goals as goal
use Rattle.wu_query.proofs.querying.answer.Goals.{After-count, After-ranked, After-ranked-in-Weighed, After-user_terms}

counted : (g : given.Over) (c : After-count g)
    → OnlyFetches g.D.Store c.args.frames.now (Counting (region_of c.in-Count.expr)) c.args.files.now.entries
    c.args.parts.now c.count.new.parts c.args.store.now c.count.new.store c.count.result
counted g c = only_fetches tt c.count.ensures.blocks c.count.ensures.cause

pub returns-in-Count-clause-answer : goal.returns-in-Count-clause-answer
returns-in-Count-clause-answer g c =
    rw c.in-Count.is
    (if_ok c.count.result c.count.ensures.answer
    (λ answered known. λ s uid is tells keeps. known c.args.space.now.ranges s uid is tells))

pub returns-in-Count-clause-reads : goal.returns-in-Count-clause-reads
returns-in-Count-clause-reads g c =
    rw c.in-Count.is (counted g (goal.at.returns-in-Count-clause-reads g c).After-count).reads

pub returns-in-Count-clause-permitted : goal.returns-in-Count-clause-permitted
returns-in-Count-clause-permitted g c = λ s uid is tells keeps.
    rw c.in-Count.is
    ((counted g (goal.at.returns-in-Count-clause-permitted g c).After-count).permitted c.args.space.now.ranges s uid is tells)

pub returns-in-Count-clause-cause : goal.returns-in-Count-clause-cause
returns-in-Count-clause-cause g c =
    rw c.in-Count.is (counted g (goal.at.returns-in-Count-clause-cause g c).After-count).cause

pub returns-in-Find-clause-answer : goal.returns-in-Find-clause-answer
returns-in-Find-clause-answer g c =
    rw c.in-Find.is
    (if_ok c.find.result c.find.ensures.answer
    (λ answered known. λ s uid is tells keeps. known c.args.space.now.ranges s uid is tells keeps))

pub returns-in-Find-clause-reads : goal.returns-in-Find-clause-reads
returns-in-Find-clause-reads g c = rw c.in-Find.is c.find.ensures.reads

ranked : (g : given.Over) (c : After-ranked g)
    → OnlyFetches g.D.Store c.args.frames.now (Ranking c.in-Rank.k (region_of c.in-Rank.unit) c.in-Rank.words)
    c.args.files.now.entries c.args.parts.now c.ranked.new.parts c.args.store.now c.ranked.new.store c.ranked.result
ranked g c =
    only_fetches tt (rw c.as_slice.ensures at c.ranked.ensures.blocks)
    (rw c.as_slice.ensures at c.ranked.ensures.cause)

pub returns-in-Rank-clause-answer : goal.returns-in-Rank-clause-answer
returns-in-Rank-clause-answer g c =
    rw c.in-Rank.is
    (if_ok c.ranked.result (rw c.as_slice.ensures at c.ranked.ensures.answer)
    (λ answered known. λ s uid is tells keeps. known s uid is tells))

pub returns-in-Rank-clause-reads : goal.returns-in-Rank-clause-reads
returns-in-Rank-clause-reads g c =
    rw c.in-Rank.is (ranked g (goal.at.returns-in-Rank-clause-reads g c).After-ranked).reads

pub returns-in-Rank-clause-permitted : goal.returns-in-Rank-clause-permitted
returns-in-Rank-clause-permitted g c = λ s uid is tells keeps.
    rw c.in-Rank.is
    ((ranked g (goal.at.returns-in-Rank-clause-permitted g c).After-ranked).permitted c.args.space.now.ranges s uid is tells)

pub returns-in-Rank-clause-cause : goal.returns-in-Rank-clause-cause
returns-in-Rank-clause-cause g c =
    rw c.in-Rank.is (ranked g (goal.at.returns-in-Rank-clause-cause g c).After-ranked).cause

pub returns-in_ok-paths-in-Paths-clause-answer : goal.returns-in_ok-paths-in-Paths-clause-answer
returns-in_ok-paths-in-Paths-clause-answer g c = λ s uid is tells texts.
    rw c.in-Paths.is
    (paths_listed s uid c.args.frames.now.seen c.in_ok-paths-in-Paths.field-0 is.hers.view
    c.in_ok-paths-in-Paths.ensures)

pub returns-in_ok-paths-in-Paths-clause-reads : goal.returns-in_ok-paths-in-Paths-clause-reads
returns-in_ok-paths-in-Paths-clause-reads g c =
    let parts = c.args.parts.now in
    let holds = g.D.Store.holds c.args.store.now in
    let reads = g.D.Store.reads c.args.store.now in
    rw c.in-Paths.is
    (blocks_alone ListingPaths [] c.args.frames.now parts c.args.files.now.entries holds parts.kept parts.kept reads reads
    (no_text_read ListingPaths tt) (asks-none holds parts.kept reads))

pub returns-in_err-paths-in-Paths-clause-cause : goal.returns-in_err-paths-in-Paths-clause-cause
returns-in_err-paths-in-Paths-clause-cause g c = cause_of_memory c.from_residual.result _ _ _ refl c.from_residual.ensures.1

listed : (g : given.Over) (c : After-user_terms g)
    → OnlyFetches g.D.Store c.args.frames.now (ListingTerms c.in-Terms.k c.in-Terms.prefix c.in-Terms.top)
    c.args.files.now.entries c.args.parts.now c.user_terms.new.parts c.args.store.now c.user_terms.new.store c.user_terms.result
listed g c =
    only_fetches tt (rw c.as_slice-in-Terms.ensures at c.user_terms.ensures.blocks)
    (rw c.as_slice-in-Terms.ensures at c.user_terms.ensures.cause)

pub returns-in-Terms-clause-answer : goal.returns-in-Terms-clause-answer
returns-in-Terms-clause-answer g c =
    rw c.in-Terms.is
    (if_ok c.user_terms.result (rw c.as_slice-in-Terms.ensures at c.user_terms.ensures.answer)
    (λ answered known. λ s uid is tells keeps. known c.args.space.now.ranges s uid is tells))

pub returns-in-Terms-clause-reads : goal.returns-in-Terms-clause-reads
returns-in-Terms-clause-reads g c =
    rw c.in-Terms.is (listed g (goal.at.returns-in-Terms-clause-reads g c).After-user_terms).reads

pub returns-in-Terms-clause-permitted : goal.returns-in-Terms-clause-permitted
returns-in-Terms-clause-permitted g c = λ s uid is tells keeps.
    rw c.in-Terms.is
    ((listed g (goal.at.returns-in-Terms-clause-permitted g c).After-user_terms).permitted c.args.space.now.ranges s uid is tells)

pub returns-in-Terms-clause-cause : goal.returns-in-Terms-clause-cause
returns-in-Terms-clause-cause g c =
    rw c.in-Terms.is (listed g (goal.at.returns-in-Terms-clause-cause g c).After-user_terms).cause

pub returns-in-Export-clause-answer : goal.returns-in-Export-clause-answer
returns-in-Export-clause-answer g c =
    rw c.in-Export.is
    (if_ok c.export.result c.export.ensures.answer
    (λ answered known. λ s uid is tells keeps. known c.args.space.now.ranges s uid is keeps))

pub returns-in-Export-clause-reads : goal.returns-in-Export-clause-reads
returns-in-Export-clause-reads g c =
    rw c.in-Export.is
    (texts_alone c.args.frames.now c.args.parts.now c.args.files.now.entries (g.D.Store.holds c.args.store.now) c.export.result
    (g.D.Store.reads c.args.store.now) (g.D.Store.reads c.export.new.store) c.export.ensures.sound c.export.ensures.reads)

pub returns-in-Export-clause-permitted : goal.returns-in-Export-clause-permitted
returns-in-Export-clause-permitted g c = λ s uid is tells keeps.
    rw c.in-Export.is (c.export.ensures.permitted c.args.space.now.ranges s uid is keeps)

pub returns-in-Export-clause-cause : goal.returns-in-Export-clause-cause
returns-in-Export-clause-cause g c =
    rw c.in-Export.is
    (if_err c.export.result c.export.ensures.cause
    (λ trouble cause. cause_of_export c.args.frames.now c.args.parts.now c.args.files.now.entries (g.D.Store.holds c.args.store.now)
    cause))

weighed : (g : given.Over) (c : After-ranked-in-Weighed g)
    → OnlyFetches g.D.Store c.args.frames.now (Weighing c.in-Weighed.k (region_of c.in-Weighed.unit) c.in-Weighed.words)
    c.args.files.now.entries c.args.parts.now c.ranked-in-Weighed.new.parts c.args.store.now c.ranked-in-Weighed.new.store
    c.ranked-in-Weighed.result
weighed g c =
    only_fetches tt (rw c.as_slice-in-Weighed.ensures at c.ranked-in-Weighed.ensures.blocks)
    (rw c.as_slice-in-Weighed.ensures at c.ranked-in-Weighed.ensures.cause)

pub returns-in-Weighed-clause-answer : goal.returns-in-Weighed-clause-answer
returns-in-Weighed-clause-answer g c =
    rw c.in-Weighed.is
    (if_ok c.ranked-in-Weighed.result (rw c.as_slice-in-Weighed.ensures at c.ranked-in-Weighed.ensures.answer)
    (λ answered known. λ s uid is tells keeps. known s uid is tells))

pub returns-in-Weighed-clause-reads : goal.returns-in-Weighed-clause-reads
returns-in-Weighed-clause-reads g c =
    rw c.in-Weighed.is (weighed g (goal.at.returns-in-Weighed-clause-reads g c).After-ranked-in-Weighed).reads

pub returns-in-Weighed-clause-permitted : goal.returns-in-Weighed-clause-permitted
returns-in-Weighed-clause-permitted g c = λ s uid is tells keeps.
    rw c.in-Weighed.is
    ((weighed g (goal.at.returns-in-Weighed-clause-permitted g c).After-ranked-in-Weighed).permitted c.args.space.now.ranges s uid is tells)

pub returns-in-Weighed-clause-cause : goal.returns-in-Weighed-clause-cause
returns-in-Weighed-clause-cause g c =
    rw c.in-Weighed.is (weighed g (goal.at.returns-in-Weighed-clause-cause g c).After-ranked-in-Weighed).cause
