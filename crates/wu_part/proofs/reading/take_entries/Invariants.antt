use Rattle.wu_part.proofs.MarkLemmas.{ReadEntries}
use Rattle.wu_part.proofs.reading.take_entries.Given as goal

abbrev pub invariant-loop-number : goal.invariant-loop-number
invariant-loop-number l =
    ReadEntries l.head l.size l.bytes l.place l.marks.items l.number l.reached
