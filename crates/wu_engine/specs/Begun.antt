-- What an opening does.
use Rattle.std.specs.Prelude.{◌≡◌, ◌≢◌, ◌⊎◌, ℕ, ◌<◌, ◌^◌, [], None, Some, IfSome, IfOk, IfErr, OnOk, OnErr, Result, Err, option_map}
use Rattle.lru.specs.LruCache.{lru_cache}
use Rattle.wu_base.specs.declared.limits.TheConstants.{BLOBS_SPENT_AT, SPENT_AT}
use Rattle.wu_outside.specs.Content.{Content}
use Rattle.wu_outside.specs.Crash.{settle}
use Rattle.wu_outside.specs.Surviving.{IsLeft, Leaves, LeavesNow}
use Rattle.wu_outside.specs.declared.traits.Store as stores
use Rattle.wu_image.specs.declared.roots.Root.{Root}
use Rattle.wu_query.specs.States.{State}
use Rattle.wu_engine.specs.declared.engines.Engine.{Engine}
use Rattle.wu_engine.specs.declared.faults.BeginFault.{BeginFault}
use Rattle.wu_engine.specs.declared.faults.BeginFault.TheVariants.{Damaged, NoMemory}
use Rattle.wu_engine.specs.Crashes.{IsImageOf}
use Rattle.wu_engine.specs.Going.{Goes}
use Rattle.wu_engine.specs.Opened.{IsEngineSaved}
use Rattle.wu_engine.specs.Opening.{HasRoot, HasSizedCheckpoint, HoldsImage, IsBeginCause, IsOpen, IsSpentWhere, ReadsAtMostRoot}
use Rattle.wu_engine.specs.Opening.{ReadsAtOpening}
use Rattle.wu_engine.specs.Stands.{Stands}

-- Over an image of a state engine and store stand for it. Over whatever the store holds, the engine goes on from there, and where there is
-- a root the engine is that of the checkpoint that it names, and the next blob that is drawn is the one that the root says.
pub record GoesOnFrom {D : Type 0} (Store : stores.Ghosts D) (old new : D) (result : Result Engine BeginFault) : Type 0 where
  pub stands : IfOk result (λ engine. (s : State) → HoldsImage (Store.holds old) s → Stands engine (Store.holds new) s)
  pub goes : IfOk result (λ engine. (content : Content) → Store.holds old ≡ Some content → Goes engine content (Store.holds new))
  pub drawn : IfOk result (λ engine. IfSome (Store.holds old) (λ content. (root : Root) → HasRoot content root
      → engine.parts.next_blob ≡ root.next_blob))
  pub saved : IfOk result (λ engine. IfSome (Store.holds old) (λ content. (root : Root) → HasRoot content root
      → IsEngineSaved content root engine))

-- The engine has room for a session, no kept block, no frames and no trouble, and memory is full at so many postings.
pub record IsFresh (full_at : ℕ) (result : Result Engine BeginFault) : Type 0 where
  pub next : IfOk result (λ engine. engine.space.next < SPENT_AT)
  pub next_blob : IfOk result (λ engine. engine.parts.next_blob < BLOBS_SPENT_AT)
  pub flushes : IfOk result (λ engine. engine.parts.flushes < 2 ^ 62)
  pub flush_at : IfOk result (λ engine. engine.parts.flush_at ≡ full_at)
  pub kept : IfOk result (λ engine. engine.parts.kept ≡ lru_cache [] 1024)
  pub frames : IfOk result (λ engine. engine.frames ≡ [])
  pub goes_on : IfOk result (λ engine. engine.ended ≡ None)

-- Whatever the store holds, what is read of it at opening was as it should be, and nothing else is read.
pub record ReadsToOpen {D : Type 0} (Store : stores.Ghosts D) (old new : D) (result : Result Engine BeginFault) : Type 0 where
  pub opened : OnOk result (IsOpen (Store.holds old) (Store.reads old) (Store.reads new))
  pub reads : ReadsAtOpening (Store.holds old) (Store.reads old) (Store.reads new)

-- What the store holds stays, and it is synced, where the call fails at most. A crash leaves only what it could leave before, and where the
-- store was opened over an image only images of that state.
pub record SyncsOnly {D : Type 0} (Store : stores.Ghosts D) (old new : D) (result : Result Engine BeginFault) : Type 0 where
  pub holds : Store.holds new ≡ Store.holds old
  pub settled : OnOk result (Store.moments new ≡ option_map settle (Store.moments old))
  pub still : OnErr result ((Store.moments new ≡ Store.moments old) ⊎ (Store.moments new ≡ option_map settle (Store.moments old)))
  pub survives : Leaves (Store.moments old) (Store.moments new) (IsLeft (Store.moments old))
  pub durable : (s : State) → HoldsImage (Store.holds old) s → OnOk result (LeavesNow (Store.moments new) (IsImageOf s))

-- Each fault comes only by its cause, that a store is spent exactly then, and an image of a state is never called damaged. Once anything
-- but the root was read, the call is out of memory only where the checkpoint has the size that the root says.
pub record FailsByCause {D : Type 0} (Store : stores.Ghosts D) (old new : D) (result : Result Engine BeginFault) : Type 0 where
  pub calm : OnOk result (Store.faults new ≡ Store.faults old)
  pub cause : IfErr result (IsBeginCause (Store.holds old) (Store.faults old) (Store.faults new))
  pub memory : result ≡ Err NoMemory → ReadsAtMostRoot (Store.reads old) (Store.reads new) ⊎ IfSome (Store.holds old) HasSizedCheckpoint
  pub spent : IsSpentWhere (Store.holds old) result
  pub undamaged : (s : State) → HoldsImage (Store.holds old) s → (blob : ℕ) → result ≢ Err (Damaged blob)
