use Rattle.wu_part.specs.Decoding.{entries_in}
use Rattle.wu_part.proofs.ReadBackLemmas.{AreListsReadBack}
use Rattle.wu_part.proofs.lists.lists_in.Given as goal

-- the lists so far are those of the entries before the ones that are left
abbrev pub invariant-loop-entry : goal.invariant-loop-entry
invariant-loop-entry l =
    AreListsReadBack l.head.low l.blocks (entries_in l.head.terms l.head.low 0 l.entries) l.entry-iterator l.lists.items
