use Rattle.std.proofs.Common.{◌∙◌}
use Rattle.wu_part.proofs.MarkSearchLemmas.{after_near, entry_found, found_after, from_mark, last_found, mark_found, sorted_drop}
use Rattle.wu_part.proofs.directories.Directory.entry_of.Goals as goal

pub mark_before-mark-requires : goal.mark_before-mark-requires
mark_before-mark-requires c mark has = rw c.as_slice-bytes.ensures (c.self.invariant.marked mark (rw c.deref.ensures.value at has)).inside

pub terms_from-requires-clause-mark : goal.terms_from-requires-clause-mark
terms_from-requires-clause-mark c =
    let k = c.self.invariant in
    let mark = mark_found _ _ _ _ _ _ _ _ _ k.entries k.marked c.first_mark.ensures
    (last_found _ _ _ _ (rw c.deref.ensures.value at c.mark_before-mark.ensures)) in
    rw c.as_slice-bytes.ensures (from_mark _ _ _ _ _ mark).1

pub entry_among-requires-clause-sorted : goal.entry_among-requires-clause-sorted
entry_among-requires-clause-sorted c =
    let k = c.self.invariant in
    let mark = mark_found _ _ _ _ _ _ _ _ _ k.entries k.marked c.first_mark.ensures
    (last_found _ _ _ _ (rw c.deref.ensures.value at c.mark_before-mark.ensures)) in
    let from = rw c.as_slice-bytes.ensures at c.terms_from.ensures in
    rw (from ∙ (from_mark _ _ _ _ _ mark).0) (sorted_drop _ c.mark_before-mark.result.number k.spelled.1.holds.ascending)

pub entry_among-requires-clause-near : goal.entry_among-requires-clause-near
entry_among-requires-clause-near c =
    let k = c.self.invariant in
    let last = rw (c.as_slice-bytes.ensures, c.deref.ensures.value) at c.mark_before-mark.ensures in
    let mark = mark_found _ _ _ _ _ _ _ _ _ k.entries k.marked c.first_mark.ensures (last_found _ _ _ _ last) in
    let from = rw c.as_slice-bytes.ensures at c.terms_from.ensures in
    rw (from ∙ (from_mark _ _ _ _ _ mark).0) (
    after_near _ _ _ _ _ _ _ _ _ k.spelled.1.holds.ascending k.entries k.marked c.first_mark.ensures k.near last
    )

pub returns : goal.returns
returns c =
    let k = c.self.invariant in
    let before = last_found _ _ _ _ (rw (c.as_slice-bytes.ensures, c.deref.ensures.value) at c.mark_before-mark.ensures) in
    let mark = mark_found _ _ _ _ _ _ _ _ _ k.entries k.marked c.first_mark.ensures before in
    let from = rw c.as_slice-bytes.ensures at c.terms_from.ensures in
    rw (← c.self.view_is) (
    entry_found _ _ _ _ _ (from ∙ (from_mark _ _ _ _ _ mark).0)
    (found_after _ _ _ _ _ _ _ _ _ k.spelled.1.holds.ascending k.marked c.first_mark.ensures before) c.entry_among.ensures
    )
