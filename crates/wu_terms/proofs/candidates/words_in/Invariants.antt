use Rattle.wu_terms.proofs.Entries.{IsWalk, terms}
use Rattle.wu_terms.proofs.candidates.words_in.Given as goal

abbrev pub invariant-loop-entry : goal.invariant-loop-entry
invariant-loop-entry l = IsWalk l.prefix (terms l.directory.terms) l.words.items l.entry-iterator
