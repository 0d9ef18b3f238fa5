use Rattle.std.proofs.Common.{◌≡◌, ◌==◌, ◌||◌, ℕ, false, get_or, length, take}
use Rattle.std.specs.List.{list_any}
use Rattle.wu_job.proofs.marks.mark_all.Given as goal

-- the places so far are marked
abbrev pub invariant-loop-place : goal.invariant-loop-place
invariant-loop-place l = record {
  long : length l.marks ≡ length l.fn.marks;
  marked : (k : ℕ)
      → get_or l.marks k false ≡ (list_any (λ place. place == k) (take l.place-index l.places) || get_or l.fn.marks k false);
}
