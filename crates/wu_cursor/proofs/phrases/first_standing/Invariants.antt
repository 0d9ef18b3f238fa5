use Rattle.std.proofs.Common.{◌≡◌, ℕ, ◌+◌, ◌-◌, ◌<◌, ◌≤◌, true, length}
use Rattle.wu_gcl.specs.Extents.{words_stand}
use Rattle.wu_solve.specs.Addresses.{stands_by}
use Rattle.wu_cursor.proofs.phrases.first_standing.Given as goal

abbrev pub invariant-loop-next : goal.invariant-loop-next
invariant-loop-next l = record {
  low : l.from ≤ l.place;
  least : (p : ℕ) → l.from ≤ p → p < l.frame.len + 1 - length l.words
      → words_stand (stands_by l.lists l.frame.start) l.words p ≡ true → l.place ≤ p;
}

abbrev pub decreases-loop-next : goal.decreases-loop-next
decreases-loop-next l = l.frame.len + 1 - l.place
