-- That a step leaves no stray blob, and touches none that was left before.
use Rattle.std.specs.Prelude.{◌⊎◌, ℕ, ◌≤◌, Option}
use Rattle.wu_outside.specs.Content.{Content}
use Rattle.wu_layout.specs.Layouts.{Layout}
use Rattle.wu_engine.specs.Naming.{HasNoStray, IsNamed}
use Rattle.wumpus_run.specs.Session.{HasOnlyDrawn, KeepsStrays}

-- where the store had no stray blob before the step from one layout to another, it has none after it
abbrev pub AddsNoStray : Layout → Option Content → Layout → Option Content → Type 0
AddsNoStray old before new after =
    (start : Layout) (first : Option Content) → HasNoStray start first old before → HasNoStray start first new after

-- what the layout names was drawn since the first one, or that names it too
abbrev pub NamesFrom : Layout → Layout → Type 0
NamesFrom start layout = (start.blob ≤ layout.blob) × ((blob : ℕ) → IsNamed layout blob → IsNamed start blob ⊎ (start.blob ≤ blob))

-- so far no stray blob was touched, and the layout names none
pub record SparesStrays (start : Layout) (first : Option Content) (layout : Layout) (now : Option Content) : Type 0 where
  pub same : KeepsStrays start first now
  pub names : NamesFrom start layout

-- a step from that layout touches none either
abbrev pub TouchesNone : Layout → Option Content → Option Content → Type 0
TouchesNone layout before after =
    (start : Layout) (first : Option Content) → SparesStrays start first layout before → KeepsStrays start first after

-- where the store had no stray blob, a call on that layout adds only blobs of so many numbers from the next one on
abbrev pub AddsDrawn : Layout → ℕ → Option Content → Option Content → Type 0
AddsDrawn layout most before after =
    (start : Layout) (first : Option Content) → HasNoStray start first layout before → HasOnlyDrawn start first layout most after
