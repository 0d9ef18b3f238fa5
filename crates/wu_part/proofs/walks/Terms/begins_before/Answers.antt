use Rattle.std.proofs.Common.{ap, sym, ◌∙◌, arith}
use Rattle.std.specs.Ordering.{is_lt}
use Rattle.wu_part.proofs.EntryReadingLemmas.{next_of_entries}
use Rattle.wu_part.proofs.SinceLemmas.{first_is}
use Rattle.wu_part.proofs.walks.Terms.begins_before.Goals as goal

pub returns-in-Some : goal.returns-in-Some
returns-in-Some c =
    let first = first_is c.args.term.now _ _ _ _ _ _ _ _ c.self.invariant.entries (omega arith) c.in-Some.ensures.found.0 in
    rw (← c.self.view_is) (c.is_lt.ensures ∙ (ap is_lt c.cmp.ensures ∙ sym first))

pub returns-in-None : goal.returns-in-None
returns-in-None c =
    let n = next_of_entries _ _ _ _ _ _ c.self.invariant.entries (omega arith) in
    absurd (c.in-None.ensures.none n.0.term n.3.spelled.0 n.3.holds.some n.3.holds.short n.3.spelled.1)
