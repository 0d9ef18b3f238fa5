use Rattle.std.proofs.Common.{◌≡◌, ◌-◌, length, take}
use Rattle.wu_engine.proofs.saving.all_parts.Given as goal

-- the records are those of the first parts
abbrev pub invariant-loop-recorded : goal.invariant-loop-recorded
invariant-loop-recorded l = l.records.items ≡ take (length l.records.items) l.parts.parts

abbrev pub decreases-loop-recorded : goal.decreases-loop-recorded
decreases-loop-recorded l = length l.parts.parts - length l.records.items
