use Rattle.std.proofs.Common.{◌≡◌, ◌≤◌, take, reverse}
use Rattle.wu_outside.specs.Logs.{changes_since_sync}
use Rattle.wu_outside.proofs.logs.count_changes.Given as goal

-- the count is that of the entries so far
abbrev pub invariant-loop-entry : goal.invariant-loop-entry
invariant-loop-entry l = record {
  within : l.count ≤ l.entry-index;
  counted : l.count ≡ changes_since_sync (reverse (take l.entry-index l.log));
}
