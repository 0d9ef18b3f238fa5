use Rattle.std.proofs.Common.{◌≡◌, min, length, rules}
use Rattle.wu_gcl.specs.Regions.{region_of}
use Rattle.wu_query.specs.Near.{lists_found}
use Rattle.wu_query.proofs.AnswerLemmas.{if_ok}
use Rattle.wu_query.proofs.FoundExtents.{first_are, first_below, first_rise}
use Rattle.wu_query.proofs.finding.first_extents.Goals as goal

pub returns-clause-extents : goal.returns-clause-extents
returns-clause-extents c =
    let count : c.min-count.result ≡ min (length c.in_ok-extents.extents.items) c.args.left = search rules in
    if_ok c.counted_from.result c.counted_from.ensures
    (λ v is.
    first_are (region_of c.args.expr.now) (lists_found c.args.postings.now) c.args.file.now c.args.left c.in_ok-extents.ensures count
    (rw c.deref.ensures.value at is))

pub returns-clause-within : goal.returns-clause-within
returns-clause-within c =
    let count : c.min-count.result ≡ min (length c.in_ok-extents.extents.items) c.args.left = search rules in
    if_ok c.counted_from.result c.counted_from.ensures
    (λ v is.
    first_below (region_of c.args.expr.now) (lists_found c.args.postings.now) c.args.file.now c.args.left c.in_ok-extents.ensures count
    (rw c.deref.ensures.value at is))

pub returns-clause-ascending : goal.returns-clause-ascending
returns-clause-ascending c =
    let count : c.min-count.result ≡ min (length c.in_ok-extents.extents.items) c.args.left = search rules in
    if_ok c.counted_from.result c.counted_from.ensures
    (λ v is.
    first_rise (region_of c.args.expr.now) (lists_found c.args.postings.now) c.args.file.now c.args.left c.in_ok-extents.ensures count
    (rw c.deref.ensures.value at is))
