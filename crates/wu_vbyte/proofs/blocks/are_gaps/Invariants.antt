use Rattle.std.proofs.Common.{◌≡◌, ℕ, List, length}
use Rattle.wu_vbyte.proofs.BlockLemmas.{Taken}
use Rattle.wu_vbyte.proofs.blocks.are_gaps.Given as goal

-- the addresses that were taken aren't kept
abbrev pub invariant-loop : goal.invariant-loop
invariant-loop l = (taken : List ℕ) × (length taken ≡ l.counter) × Taken l.first l.last l.bytes l.rest taken l.before
