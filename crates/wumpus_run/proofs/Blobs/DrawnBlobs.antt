-- A call adds only blobs that may be drawn for it.
use Rattle.std.proofs.Common.{◌≡◌, ◌⊎◌, inl, inr, ⊎_elim, ℕ, ◌+◌, ◌<◌, ◌≤◌, List, Option, None, Some, sym, ap, ◌∙◌, subst, arith}
use Rattle.std.specs.Prelude.{IsSome}
use Rattle.std.proofs.lemmas.Bool.{cases_lt}
use Rattle.wu_outside.specs.Content.{Content}
use Rattle.wu_layout.specs.Layouts.{Layout}
use Rattle.wu_parts.specs.Contents.{Contents}
use Rattle.wu_script.specs.Commands.{Save}
use Rattle.wu_script.specs.Said.{Operates, Said, said_by}
use Rattle.wu_script.specs.declared.types.Item.{Item}
use Rattle.wu_query.specs.States.{State, IsState}
use Rattle.wu_engine.specs.declared.engines.Engine.{Engine}
use Rattle.wu_engine.specs.Naming.{HasNoStray, IsNamed}
use Rattle.wu_engine.specs.Saving.{KeepsNamed, removed_by_save}
use Rattle.wu_engine.specs.Stands.{KeepsOthers}
use Rattle.wumpus_run.specs.Kept.{AddsDrawnFor}
use Rattle.wumpus_run.specs.Session.{HasOnlyDrawn, drawn_by}
use Rattle.wumpus_run.proofs.Blobs.StrayBlobs.{named_or_kept}

-- a store without a stray blob has none that is drawn
pub drawn_none : (start : Layout) (first : Option Content) (layout : Layout) (most : ℕ) (now : Option Content)
    → HasNoStray start first layout now → HasOnlyDrawn start first layout most now
drawn_none start None layout most now none = tt
drawn_none start (Some first) layout most None none = none
drawn_none start (Some first) layout most (Some now) none = λ blob some.
    ⊎_elim (λ (named : IsNamed layout blob). inl named)
    (λ (was : IsSome (first.blobs blob) × (IsNamed start blob → ⊥)). inr (inl was)) (none blob some)

-- what one blob is after a call: as it was, or it may have been drawn, or else it is named
module _ (start layout : Layout) (most : ℕ) (first before after : Content) where
  abbrev IsDrawn : ℕ → Type 0
  IsDrawn blob = IsNamed layout blob
      ⊎ ((IsSome (first.blobs blob) × (IsNamed start blob → ⊥)) ⊎ ((layout.blob ≤ blob) × (blob < layout.blob + most)))

  as_before : (blob : ℕ) → HasNoStray start (Some first) layout (Some before) → after.blobs blob ≡ before.blobs blob
      → IsSome (after.blobs blob) → IsDrawn blob
  as_before blob none same some =
      drawn_none start (Some first) layout most (Some before) none blob
      (subst (λ (bytes : Option (List ℕ)). IsSome bytes) same some)

  by_number : (blob : ℕ) → ((blob < layout.blob) ⊎ (layout.blob + most ≤ blob) → IsDrawn blob) → IsDrawn blob
  by_number blob outside =
      ⊎_elim
      (λ (below : blob < layout.blob). outside (inl below))
      (λ (from : layout.blob ≤ blob).
      ⊎_elim
      (λ (within : blob < layout.blob + most). inr (inr (from, within)))
      (λ (beyond : layout.blob + most ≤ blob). outside (inr beyond))
      (cases_lt blob (layout.blob + most)))
      (cases_lt blob layout.blob)

moved_out : (low least most blob : ℕ) → low ≡ least → (blob < least) ⊎ (least + most ≤ blob) → (blob < low) ⊎ (low + most ≤ blob)
moved_out low least most blob same (inl below) = inl (omega (arith, same, below))
moved_out low least most blob same (inr beyond) = inr (omega (arith, same, beyond))

-- ---- a call that puts blobs

drawn_others : (layout : Layout) (low most : ℕ) (start : Layout) (first before after : Option Content) → low ≡ layout.blob
    → KeepsOthers low (low + most) before after → HasNoStray start first layout before → HasOnlyDrawn start first layout most after
drawn_others layout low most start None before after next keeps none = tt
drawn_others layout low most start (Some first) None after next keeps none = absurd none
drawn_others layout low most start (Some first) (Some before) None next keeps none = keeps
drawn_others layout low most start (Some first) (Some before) (Some after) next keeps none = λ blob some.
    by_number start layout most first before after blob (λ out.
    as_before start layout most first before after blob none (keeps.0 blob (moved_out low layout.blob most blob next out)) some)

pub adds_alone : (engine : Engine) (said : Said) (before after : Option Content) → after ≡ before
    → AddsDrawnFor said engine before after
adds_alone engine said before after same = λ s stands start first none.
    drawn_none start first s.layout (drawn_by said) after (subst (HasNoStray start first s.layout) (sym same) none)

pub adds_drawn : (engine : Engine) (before after : Option Content) (item is : Item) (most : ℕ) → item ≡ is → drawn_by (said_by is) ≡ most
    → KeepsOthers engine.parts.next_blob (engine.parts.next_blob + most) before after → AddsDrawnFor (said_by item) engine before after
adds_drawn engine before after item is most same count keeps = λ s stands start first none.
    subst (λ (n : ℕ). HasOnlyDrawn start first s.layout n after) (sym (ap (λ (i : Item). drawn_by (said_by i)) same ∙ count))
    (drawn_others s.layout engine.parts.next_blob most start first before after stands.index.next_blob keeps none)

-- ---- a save

drawn_saved : (s : State) → IsState s → (contents : Contents) (checkpoint low : ℕ) (start : Layout) (first before after : Option Content)
    → contents.stale ≡ s.layout.stale → checkpoint ≡ s.layout.check → low ≡ s.layout.blob
    → KeepsNamed low (low + 2) (removed_by_save contents checkpoint) before after → HasNoStray start first s.layout before
    → HasOnlyDrawn start first s.layout 2 after
drawn_saved s is contents checkpoint low start None before after stale check next keeps none = tt
drawn_saved s is contents checkpoint low start (Some first) None after stale check next keeps none = absurd none
drawn_saved s is contents checkpoint low start (Some first) (Some before) None stale check next keeps none = keeps
drawn_saved s is contents checkpoint low start (Some first) (Some before) (Some after) stale check next keeps none = λ blob some.
    by_number start s.layout 2 first before after blob (λ out.
    ⊎_elim
    (λ (named : IsNamed s.layout blob). inl named)
    (λ stays. as_before start s.layout 2 first before after blob none
    (keeps blob (moved_out low s.layout.blob 2 blob next out) stays) some)
    (named_or_kept s is contents checkpoint stale check blob))

pub adds_saved : (engine : Engine) (before after : Option Content)
    → KeepsNamed engine.parts.next_blob (engine.parts.next_blob + 2) (removed_by_save engine.parts engine.checkpoint) before after
    → AddsDrawnFor (Operates Save) engine before after
adds_saved engine before after keeps = λ s stands start first none.
    drawn_saved s stands.index.is_state engine.parts engine.checkpoint engine.parts.next_blob start first before after stands.index.stale
    stands.check stands.index.next_blob keeps none
