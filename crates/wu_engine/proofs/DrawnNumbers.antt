-- The numbers that parts count only grow, call by call.
use Rattle.std.proofs.Common.{◌≡◌, ℕ, [], ◌+◌, ◌≤◌, refl, ap, sym, ◌∙◌, subst, arith, ⊎_elim, inr}
use Rattle.std.specs.Prelude.{◌⊎◌}
use Rattle.wu_parts.specs.Contents.{Contents}
use Rattle.wu_parts.specs.Flushing.{EmptiesMemory}
use Rattle.wu_parts.specs.Working.{ChangesParts}
use Rattle.wu_engine.specs.Calls.{DrawsAtMost}
use Rattle.wu_engine.specs.Indexing.{KeepsParts}
use Rattle.wu_engine.proofs.SoundLemmas.{LeavesNumbers, numbers_full}

-- no flush is counted
draws_alone : (most : ℕ) (old new : Contents) → old.next_blob ≤ new.next_blob → new.next_blob ≤ old.next_blob + most
    → new.flushes ≡ old.flushes → new.flush_at ≡ old.flush_at → new.kept ≡ old.kept → DrawsAtMost most old new
draws_alone most old new least drawn flushes flush_at kept = record {
  onward = least;
  drawn = drawn;
  grown = omega (arith, flushes);
  counted = omega (arith, flushes, least);
  flush_at = flush_at;
  kept = kept;
}

pub draws_none : (most : ℕ) (parts : Contents) → DrawsAtMost most parts parts
draws_none most parts = draws_alone most parts parts (omega arith) (omega arith) refl refl refl

-- memory and stale blobs may be others
pub draws_kept : (old new : Contents) → KeepsParts old new → DrawsAtMost 0 old new
draws_kept old new e =
    draws_alone 0 old new (omega (arith, ap (λ (c : Contents). c.next_blob) e)) (omega (arith, ap (λ (c : Contents). c.next_blob) e))
    (ap (λ (c : Contents). c.flushes) e) (ap (λ (c : Contents). c.flush_at) e) (ap (λ (c : Contents). c.kept) e)

-- the stale blobs are forgotten
pub draws_cleared : (old new : Contents) → new ≡ record old { stale = [] } → DrawsAtMost 0 old new
draws_cleared old new e =
    draws_alone 0 old new (omega (arith, ap (λ (c : Contents). c.next_blob) e)) (omega (arith, ap (λ (c : Contents). c.next_blob) e))
    (ap (λ (c : Contents). c.flushes) e) (ap (λ (c : Contents). c.flush_at) e) (ap (λ (c : Contents). c.kept) e)

-- a blob is drawn
pub draws_one : (old new : Contents) → new ≡ record old { next_blob = old.next_blob + 1 } → DrawsAtMost 1 old new
draws_one old new e =
    draws_alone 1 old new (omega (arith, ap (λ (c : Contents). c.next_blob) e)) (omega (arith, ap (λ (c : Contents). c.next_blob) e))
    (ap (λ (c : Contents). c.flushes) e) (ap (λ (c : Contents). c.flush_at) e) (ap (λ (c : Contents). c.kept) e)

-- a flush, or none
pub draws_flushed : (old new : Contents) → (new ≡ old) ⊎ EmptiesMemory old new → DrawsAtMost 1 old new
draws_flushed old new done =
    let left : LeavesNumbers old new = numbers_full old new done in
    record {
      onward = left.least;
      drawn = left.most;
      grown = omega (arith, left.counted, left.least);
      counted = omega (arith, left.counted);
      flush_at = left.flush_at;
      kept = left.kept;
    }

-- a flush that failed: a number was drawn, or nothing was changed
pub draws_failed : {X : Type 0} (old new : Contents) → new ≡ record old { next_blob = new.next_blob }
    → (new.next_blob ≡ old.next_blob + 1) ⊎ ((new ≡ old) × X) → DrawsAtMost 1 old new
draws_failed {X} old new e drawn =
    ⊎_elim
    (λ (one : new.next_blob ≡ old.next_blob + 1).
    draws_alone 1 old new (omega (arith, one)) (omega (arith, one)) (ap (λ (c : Contents). c.flushes) e)
    (ap (λ (c : Contents). c.flush_at) e) (ap (λ (c : Contents). c.kept) e))
    (λ (none : (new ≡ old) × X). subst (DrawsAtMost 1 old) (sym none.0) (draws_none 1 old))
    drawn

-- background work
pub draws_worked : (most : ℕ) (old new : Contents) → ChangesParts most old new → DrawsAtMost most old new
draws_worked most old new changes =
    draws_alone most old new changes.drawn.0 changes.drawn.1 (ap (λ (c : Contents). c.flushes) changes.others)
    (ap (λ (c : Contents). c.flush_at) changes.others) (ap (λ (c : Contents). c.kept) changes.others)

-- ---- one call after another

pub draws_then : (first second : ℕ) (old between new : Contents) → DrawsAtMost first old between → DrawsAtMost second between new
    → DrawsAtMost (first + second) old new
draws_then first second old between new a b = record {
  onward = omega (arith, a.onward, b.onward);
  drawn = omega (arith, a.drawn, b.drawn);
  grown = omega (arith, a.grown, b.grown);
  counted = omega (arith, a.counted, b.counted);
  flush_at = b.flush_at ∙ a.flush_at;
  kept = b.kept ∙ a.kept;
}

pub draws_more : (some most : ℕ) (old new : Contents) → some ≤ most → DrawsAtMost some old new → DrawsAtMost most old new
draws_more some most old new l a = record {
  onward = a.onward;
  drawn = omega (arith, a.drawn);
  grown = a.grown;
  counted = a.counted;
  flush_at = a.flush_at;
  kept = a.kept;
}

-- a flush, and the checkpoint's blob
pub draws_saved : (old flushed new : Contents) → EmptiesMemory old flushed → new ≡ record flushed { next_blob = flushed.next_blob + 1 }
    → DrawsAtMost 2 old new
draws_saved old flushed new changes drawn =
    draws_then 1 1 old flushed new (draws_flushed old flushed (inr changes)) (draws_one flushed new drawn)
