use Rattle.std.specs.Map.{keys_of}
use Rattle.wu_parts.proofs.MoreCandidates.{IsAdding, names_of}
use Rattle.wu_parts.proofs.memory.MemoryPostings.add_terms.Given as goal

-- the terms of the entries so far were added
abbrev pub invariant-loop-term : goal.invariant-loop-term
invariant-loop-term l = IsAdding l.fn.words l.words (keys_of l.self.lists) (names_of l.term-iterator)
