use Rattle.std.proofs.Common.{◌∙◌, ⊎_elim, inl, inr, ap, length, arith}
use Rattle.wu_part.specs.declared.marks.Mark.{Mark}
use Rattle.wu_part.proofs.MarkSearchLemmas.{entry_at, from_mark, last_found, mark_found, number_within, walk_short}
use Rattle.wu_part.proofs.directories.Directory.term_at.Goals as goal

pub terms_from-terms-requires-clause-mark : goal.terms_from-terms-requires-clause-mark
terms_from-terms-requires-clause-mark c =
    let k = c.self.invariant in
    let mark = mark_found _ _ _ _ _ _ _ _ _ k.entries k.marked c.first_mark.ensures
    (last_found _ _ _ _ (rw c.deref.ensures.value at c.mark_up_to-mark.ensures)) in
    rw c.as_slice.ensures (from_mark _ _ _ _ _ mark).1

pub entry_after-requires : goal.entry_after-requires
entry_after-requires c =
    let k = c.self.invariant in
    let up_to = rw c.deref.ensures.value at c.mark_up_to-mark.ensures in
    let mark = mark_found _ _ _ _ _ _ _ _ _ k.entries k.marked c.first_mark.ensures (last_found _ _ _ _ up_to) in
    let from = rw c.as_slice.ensures at c.terms_from-terms.ensures in
    let long = ap length from ∙ (from_mark _ _ _ _ _ mark).1.entries.number in
    ⊎_elim (λ near. inl (omega (arith, near))) (λ few. inr (omega (arith, long, few)))
    (walk_short _ _ _ c.self.inside.head.terms c.args.place (ap (λ (m : Mark). m.number) c.first_mark.ensures) k.near up_to)

pub returns : goal.returns
returns c =
    let k = c.self.invariant in
    let up_to = last_found _ _ _ _ (rw c.deref.ensures.value at c.mark_up_to-mark.ensures) in
    let mark = mark_found _ _ _ _ _ _ _ _ _ k.entries k.marked c.first_mark.ensures up_to in
    let from = rw c.as_slice.ensures at c.terms_from-terms.ensures in
    rw (← c.self.view_is) (
    entry_at _ _ _ _ _ (from ∙ (from_mark _ _ _ _ _ mark).0) (number_within _ _ _ _ _ c.first_mark.ensures up_to)
    c.entry_after.ensures
    )
