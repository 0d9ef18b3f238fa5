use Rattle.std.proofs.Common.{◌∙◌, ap, filter}
use Rattle.wu_part.specs.Searches.{is_from}
use Rattle.wu_part.proofs.MarkSearchLemmas.{from_mark, last_found, mark_found, sorted_drop}
use Rattle.wu_part.proofs.SinceLemmas.{since_start}
use Rattle.wu_part.proofs.directories.Directory.terms_from.Goals as goal

pub mark_before-mark-requires : goal.mark_before-mark-requires
mark_before-mark-requires c mark has = rw c.as_slice-bytes.ensures (c.self.invariant.marked mark (rw c.deref.ensures.value at has)).inside

pub terms_from-requires-clause-mark : goal.terms_from-requires-clause-mark
terms_from-requires-clause-mark c =
    let k = c.self.invariant in
    let mark = mark_found _ _ _ _ _ _ _ _ _ k.entries k.marked c.first_mark.ensures
    (last_found _ _ _ _ (rw c.deref.ensures.value at c.mark_before-mark.ensures)) in
    rw c.as_slice-bytes.ensures (from_mark _ _ _ _ _ mark).1

pub entries_since-requires : goal.entries_since-requires
entries_since-requires c =
    let k = c.self.invariant in
    let mark = mark_found _ _ _ _ _ _ _ _ _ k.entries k.marked c.first_mark.ensures
    (last_found _ _ _ _ (rw c.deref.ensures.value at c.mark_before-mark.ensures)) in
    let from = rw c.as_slice-bytes.ensures at c.terms_from.ensures in
    rw (from ∙ (from_mark _ _ _ _ _ mark).0) (sorted_drop _ c.mark_before-mark.result.number k.spelled.1.holds.ascending)

pub returns : goal.returns
returns c =
    let k = c.self.invariant in
    let before = last_found _ _ _ _ (rw (c.as_slice-bytes.ensures, c.deref.ensures.value) at c.mark_before-mark.ensures) in
    let mark = mark_found _ _ _ _ _ _ _ _ _ k.entries k.marked c.first_mark.ensures before in
    let from = rw c.as_slice-bytes.ensures at c.terms_from.ensures in
    rw (← c.self.view_is) (
    c.entries_since.ensures
    ∙ (ap (filter (is_from c.args.term.now)) (from ∙ (from_mark _ _ _ _ _ mark).0)
    ∙ since_start _ _ _ _ _ _ _ _ _ k.spelled.1.holds.ascending k.marked c.first_mark.ensures before)
    )
