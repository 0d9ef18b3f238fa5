use Rattle.std.proofs.Common.{◌≡◌, ℕ, ◌+◌, ◌-◌, ◌<◌, ◌≤◌, true, length}
use Rattle.wu_gcl.specs.Extents.{words_stand}
use Rattle.wu_solve.specs.Addresses.{stands_by}
use Rattle.wu_cursor.proofs.phrases.last_standing.Given as goal

abbrev pub invariant-loop-next : goal.invariant-loop-next
invariant-loop-next l = record {
  high : l.place ≤ l.to;
  greatest : (p : ℕ) → p ≤ l.to → p < l.frame.len + 1 - length l.words
      → words_stand (stands_by l.lists l.frame.start) l.words p ≡ true → p ≤ l.place;
}

abbrev pub decreases-loop-next : goal.decreases-loop-next
decreases-loop-next l = l.place
