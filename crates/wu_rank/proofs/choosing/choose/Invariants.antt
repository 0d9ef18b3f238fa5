use Rattle.std.proofs.Common.{map, take}
use Rattle.wu_rank.specs.Choices.{IsChoice}
use Rattle.wu_rank.specs.Entries.{ranked_at}
use Rattle.wu_rank.proofs.choosing.choose.Given as goal

abbrev pub invariant-loop-entry : goal.invariant-loop-entry
invariant-loop-entry l =
    IsChoice l.count (map (ranked_at l.units) (take l.entry-index l.scores)) l.choice.ranked.items l.choice.least
