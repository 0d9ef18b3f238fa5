use Rattle.wu_check.proofs.IndexedParts.{IsIndexing}
use Rattle.wu_check.proofs.indexing.index_lists.Given as goal

-- the lists of the entries before those that are left are numbered
abbrev pub invariant-loop-entry : goal.invariant-loop-entry
invariant-loop-entry l = IsIndexing l.directory l.bytes l.ranges l.entry-iterator l.numbering
