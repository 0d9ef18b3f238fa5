use Rattle.std.proofs.Common.{ap, sym, arith}
use Rattle.wu_part.specs.declared.entries.TermEntry.{TermEntry}
use Rattle.wu_part.proofs.EntryReadingLemmas.{same_entry}
use Rattle.wu_part.proofs.reading.pass_entry.Goals as goal
use Rattle.wu_part.proofs.reading.pass_entry.Goals.{else-ascends-via-then-ascends+else-count-from, else-ascends-via-else-ascends}

pub returns-in_default-clause-none : goal.returns-in_default-clause-none
returns-in_default-clause-none c entry rest end is less few = c.in_default.ensures.none entry rest end is

pub returns-else-ascends-clause-none : goal.returns-else-ascends-clause-none
returns-else-ascends-clause-none c entry rest end is less few =
    let same = (same_entry _ _ _ _ _ _ _ _ _ _ is c.in-Some.ensures.found).0 in
    elim c.else-ascends.branch [
      | else-ascends-via-then-ascends+else-count-from w ↦ let count = ap (λ (x : TermEntry). x.count) same in
          absurd (omega (arith, w.if-count-from.false, count, c.count-count.ensures))
      | else-ascends-via-else-ascends w ↦ w.if-ascends.ensures (rw (c.term-term.ensures, sym (ap (λ (x : TermEntry). x.term) same)) less)
    ]
