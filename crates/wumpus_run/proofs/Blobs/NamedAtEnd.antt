-- A save leaves no stray blob.
use Rattle.std.specs.Prelude.{Option}
use Rattle.wu_outside.specs.Content.{Content}
use Rattle.wu_query.specs.States.{State}
use Rattle.wu_engine.specs.declared.engines.Engine.{Engine}
use Rattle.wu_engine.specs.Naming.{AddsNamed}
use Rattle.wu_engine.specs.Saving.{AreRemoved, removed_by_save}
use Rattle.wu_engine.specs.Stands.{Stands}
use Rattle.wu_engine.specs.States.{rested_state, saved_state}
use Rattle.wu_engine.proofs.NamedBlobs.{no_stray_after_save, no_stray_rested}
use Rattle.wumpus_run.specs.Strays.{AddsNoStray}

module _ (engine : Engine) (s : State) (before after : Option Content) (stands : Stands engine before s)
    (adds : AddsNamed (saved_state s).layout before after)
    (removed : AreRemoved (removed_by_save engine.parts engine.checkpoint) after) where
  -- what it adds is named, and what only the state before named is removed
  pub none_after_save : AddsNoStray s.layout before (saved_state s).layout after
  none_after_save = λ start first.
      no_stray_after_save start s engine.parts engine.checkpoint stands.index.stale stands.check first before after adds removed

  -- the same of the state as it is opened again
  pub none_at_end : AddsNoStray s.layout before (rested_state (saved_state s)).layout after
  none_at_end = λ start first none.
      no_stray_rested start (saved_state s).layout first after (none_after_save start first none)
