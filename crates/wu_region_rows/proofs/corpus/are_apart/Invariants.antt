use Rattle.std.proofs.Common.{ℕ, ◌+◌, ◌<◌, ◌≤◌, get_or}
use Rattle.wu_base.specs.declared.addresses.Range.{Range}
use Rattle.wu_region_rows.proofs.corpus.are_apart.Given as goal

abbrev pub invariant-loop-i : goal.invariant-loop-i
invariant-loop-i l =
    (k : ℕ) (d : Range) → k + 1 < l.i → (get_or l.frames k d).start + (get_or l.frames k d).len ≤ (get_or l.frames (k + 1) d).start
