use Rattle.std.proofs.Common.{◌≡◌, map, take}
use Rattle.wu_query.proofs.ranking.are_of.Given as goal

-- the lists so far are those of the first words
abbrev pub invariant-loop-i : goal.invariant-loop-i
invariant-loop-i l = map (λ list. list.term) (take l.i l.lists) ≡ take l.i l.words
