use Rattle.std.proofs.Common.{length, ap, refl, arith, rules}
use Rattle.wu_part.proofs.EntryReadingLemmas.{next_of_entries}
use Rattle.wu_part.proofs.WalkLemmas.{entry_read, walk_within}
use Rattle.wu_part.proofs.walks.TermsIterator.next.Goals as goal

pub take_entry-requires-clause-place : goal.take_entry-requires-clause-place
take_entry-requires-clause-place c = walk_within _ _ _ _ _ _ c.self.invariant.entries

pub returns-in_default-clause-steps : goal.returns-in_default-clause-steps
returns-in_default-clause-steps c =
    let n = next_of_entries _ _ _ _ _ _ c.self.invariant.entries (omega arith) in absurd (c.in_default.ensures.none n.0 n.1 n.2 n.3)

pub invariant_of-self : goal.invariant_of-self
invariant_of-self c =
    let r = entry_read _ _ _ _ _ _ _ _ _ c.self.invariant.entries (omega arith) refl c.in-Some.ensures.found in
    record { entries = r.1; high = c.self.invariant.high }

pub returns-clause-steps : goal.returns-clause-steps
returns-clause-steps c =
    let r = entry_read _ _ _ _ _ _ _ _ _ c.self.invariant.entries (omega arith) refl c.in-Some.ensures.found in
    rw (← c.self.view_is) r.0

pub returns-clause-goes : goal.returns-clause-goes
returns-clause-goes c =
    let shorter = ap length (returns-clause-steps c) in
    search rules
