-- What a flush does to a state.
use Rattle.std.proofs.Common.{◌≡◌, ℕ, ◌+◌, ◌≤◌, true, false, cond, List, [], ◌∷◌, length, refl, arith}
use Rattle.std.specs.Prelude.{nat_le}
use Rattle.wu_layout.specs.Layouts.{Layout, ranges_of}
use Rattle.wu_layout.specs.Postings.{Posting, live_of}
use Rattle.wu_layout.specs.Steps.{flush, flush_if_full, flushed}
use Rattle.wu_layout.proofs.Flushes.{layout_after_flush, layout_after_full}
use Rattle.wu_query.specs.States.{State, IsState}
use Rattle.wu_engine.specs.States.{flushed_if_full, flushed_state}

pub flushed_kept : (s : State) → IsState s → IsState (flushed_state s)
flushed_kept s is = record {
  tree = is.tree;
  texts = record { ascend = is.texts.ascend; files = is.texts.files };
  short = is.short;
  layout = layout_after_flush _ _ s.layout is.layout;
}

pub full_kept : (flush_at : ℕ) (s : State) → IsState s → IsState (flushed_if_full flush_at s)
full_kept flush_at s is = record {
  tree = is.tree;
  texts = record { ascend = is.texts.ascend; files = is.texts.files };
  short = is.short;
  layout = layout_after_full _ _ flush_at s.layout is.layout;
}

-- ---- how far numbers rise

-- a flush gives no address, draws a blob at most, and leaves the checkpoint
pub record RisesBy (blobs flushes : ℕ) (before after : Layout) : Type 0 where
  pub next : after.next ≡ before.next
  pub blob : after.blob ≤ before.blob + blobs
  pub flushed : after.flushes ≤ before.flushes + flushes
  pub check : after.check ≡ before.check

rises-flushed : (kept : List Posting) (layout : Layout) → RisesBy 1 1 layout (flushed kept layout)
rises-flushed [] layout = record { next = refl; blob = omega arith; flushed = omega arith; check = refl }
rises-flushed (posting ∷ postings) layout = record { next = refl; blob = omega arith; flushed = omega arith; check = refl }

pub rises-flush : (layout : Layout) → RisesBy 1 1 layout (flush layout)
rises-flush layout = rises-flushed (live_of (ranges_of layout.files) layout.memory) layout

pub rises-full : (flush_at : ℕ) (layout : Layout) → RisesBy 1 1 layout (flush_if_full flush_at layout)
rises-full flush_at layout =
    elim (nat_le flush_at (length layout.memory)) as (λ b. RisesBy 1 1 layout (cond b (flush layout) layout)) [
      | true ↦ rises-flush layout
      | false ↦ record { next = refl; blob = omega arith; flushed = omega arith; check = refl }
    ]
