-- Calls that put only blobs that were never drawn before leave to a crash the images that could be left before.
use Rattle.std.proofs.Common.{◌≡◌, ℕ, zero, suc, ◌+◌, ◌-◌, ◌<◌, ◌≤◌, List, [], inl, refl, sym, subst, arith}
use Rattle.std.specs.Prelude.{Option, Some, None, Result, Ok, Err, option_map}
use Rattle.wu_outside.specs.declared.traits.Fault.TheVariants.{Failed}
use Rattle.wu_outside.specs.Content.{Content, MayDo}
use Rattle.wu_outside.specs.Crash.{AreAlike, Moments, settle}
use Rattle.wu_outside.specs.Surviving.{IsLeft, Leaves, LeavesNow, NamesOnly}
use Rattle.wu_outside.proofs.Survival.{Ignores, kept, leaves_then, left_now, more_now, put_leaves, strays, sync_leaves, synced}
use Rattle.wu_parts.specs.Working.{MayChange}
use Rattle.wu_image.proofs.ImageLemmas.{image_kept}
use Rattle.wu_query.specs.States.{State}
use Rattle.wu_engine.specs.Crashes.{IsImageOf, IsSavedLast}
use Rattle.wu_engine.specs.Naming.{IsNamed}
use Rattle.wu_engine.specs.Opening.{HoldsImage}
use Rattle.wu_engine.specs.Puts.{try_put, MayTryPut, MayTryPuts}
use Rattle.wu_engine.specs.Stands.{Stands}
use Rattle.wu_engine.specs.declared.engines.Engine.{Engine}

-- ---- images

-- an image is one by its root and by the blobs that the state names
pub image_strays : (s : State) → NamesOnly (IsNamed s.layout) (IsImageOf s)
image_strays s one other same image = (
  image.0,
  image_kept one other s.tree s.texts s.layout image.1 same.root (λ blob named. same.blobs blob (named.0, omega (arith, named.1))),
)

-- so a blob that is drawn after it doesn't matter
pub image_ignores : (s : State) (blob : ℕ) → s.layout.blob ≤ blob → Ignores (IsImageOf s) blob
image_ignores s blob l content bytes image =
    strays (IsNamed s.layout) (IsImageOf s) blob (image_strays s)
    (λ named. omega (arith, named.1, image.0.layout.blobs.below blob l)) content bytes image

-- ---- puts

-- a put was tried of a blob that doesn't matter
pub tried_put : (old new : Option Moments) (blob : ℕ) (Kind : Content → Type 0) → Ignores Kind blob
    → MayTryPut blob old new → LeavesNow old Kind
    → Leaves old new Kind
tried_put old new blob Kind ignores may now =
    put_leaves {R = ℕ} old new blob [] (Err Failed) Kind (record { done = tt; failed = may; out_of_memory = λ other. absurd cc })
    ignores now

-- puts were tried of blobs that were never drawn before
pub tried_puts : (low high n : ℕ) (old new : Option Moments) (last : State)
    → MayTryPuts low high n old new
    → last.layout.blob ≤ low → LeavesNow old (IsImageOf last) → Leaves old new (IsImageOf last)
tried_puts low high zero old new last may l now = kept old new (IsImageOf last) may now
tried_puts low high (suc n) old new last may l now =
    let before : Leaves old may.0 (IsImageOf last) = tried_puts low high n old may.0 last may.3 l now in
    leaves_then old may.0 new (IsImageOf last) before
    (tried_put may.0 new may.1 (IsImageOf last) (image_ignores last may.1 (omega (arith, l, may.4.0))) (may.2, may.5) before.now)

-- none was tried
pub no_puts : (low high n : ℕ) (old : Option Moments) → low + n ≤ high
    → MayTryPuts low high n old old
no_puts low high zero old l = refl
no_puts low high (suc n) old l = (old, low, None, no_puts low high n old (omega (arith, l)), (omega arith, omega (arith, l)), inl refl)

-- of fewer blobs at most, or fewer times at most
module _ {X : Type 0} (step : ℕ → Option (List ℕ) → X → X) (low : ℕ) where
  changed_below : (high most n : ℕ) (old new : Option X) → high ≤ most → MayChange step low high n old new
      → MayChange step low most n old new
  changed_below high most zero old new l may = may
  changed_below high most (suc n) old new l may =
      (may.0, may.1, may.2, changed_below high most n old may.0 l may.3, (may.4.0, omega (arith, may.4.1)), may.5)

  changed_more : (more n all : ℕ) (old new : Option X) → more + n ≡ all → MayChange step low (low + n) n old new
      → MayChange step low (low + all) all old new
  changed_more zero n all old new e may = subst (λ (m : ℕ). MayChange step low (low + m) m old new) (omega (arith, e)) may
  changed_more (suc more) n all old new e may =
      let more_room = changed_below (low + n) (low + suc n) n old new (omega arith) may in
      changed_more more (suc n) all old new (omega (arith, e)) (new, low, None, more_room, (omega arith, omega arith), inl refl)

pub puts_drawn : (next later n : ℕ) (old new : Option Moments) → next ≤ later → later ≤ next + n
    → MayTryPuts next later (later - next) old new → MayTryPuts next (next + n) n old new
puts_drawn next later n old new least most may =
    let all : later ≡ next + (later - next) = omega arith in
    changed_more (λ blob written. try_put blob written) next (n - (later - next)) (later - next) n old new (omega arith)
    (subst (λ (high : ℕ). MayTryPuts next high (later - next) old new) all may)

-- one, or two in turn
pub changed_once : {X : Type 0} (step : ℕ → Option (List ℕ) → X → X) (low high blob : ℕ) (old new : Option X) → low ≤ blob → blob < high
    → (written : Option (List ℕ)) × MayDo (step blob written) old new → MayChange step low high 1 old new
changed_once step low high blob old new l h may = (old, blob, may.0, refl, (l, h), may.1)

pub changed_first : {X : Type 0} (step : ℕ → Option (List ℕ) → X → X) (low high blob : ℕ) {old new : Option X} → low ≤ blob → blob < high
    → (written : Option (List ℕ)) × MayDo (step blob written) old new → MayChange step low high 2 old new
changed_first step low high blob {old} {new} l h may =
    (new, blob, None, changed_once step low high blob old new l h may, (l, h), inl refl)

pub changed_twice : {X : Type 0} (step : ℕ → Option (List ℕ) → X → X) (low high first second : ℕ) {old between new : Option X}
    → low ≤ first → first < high → low ≤ second → second < high
    → (written : Option (List ℕ)) × MayDo (step first written) old between
    → (written : Option (List ℕ)) × MayDo (step second written) between new → MayChange step low high 2 old new
changed_twice step low high first second {old} {between} l h l2 h2 one two =
    (between, second, two.0, changed_once step low high first old between l h one, (l2, h2), two.1)

-- ---- an engine's calls

module _ {old : Engine} {holds : Option Content} {s last : State} {before : Option Moments} (stands : Stands old holds s)
    (saved : IsSavedLast before s last) where
  -- nothing was tried
  pub still_left : {after : Option Moments} → after ≡ before → Leaves before after (IsImageOf last)
  still_left {after} same = kept before after (IsImageOf last) same saved.left

  pub put_left : {after : Option Moments} → MayTryPut old.parts.next_blob before after
      → Leaves before after (IsImageOf last)
  put_left {after} may =
      tried_put before after old.parts.next_blob (IsImageOf last)
      (image_ignores last old.parts.next_blob (omega (arith, saved.below, stands.index.next_blob))) may saved.left

  pub puts_left : (high n : ℕ) (after : Option Moments)
      → MayTryPuts old.parts.next_blob high n before after
      → Leaves before after (IsImageOf last)
  puts_left high n after may =
      tried_puts old.parts.next_blob high n before after last may (omega (arith, saved.below, stands.index.next_blob)) saved.left

-- ---- an opening

pub opened_left : (old new : Option Moments) → new ≡ option_map settle old → Leaves old new (IsLeft old)
opened_left old new settled =
    let ended : Result ℕ ℕ = Ok 0 in
    sync_leaves old new ended (IsLeft old) settled (left_now old)

-- after the sync of an image only images are left
pub opened_durable : (holds : Option Content) (old new : Option Moments) → AreAlike holds old → new ≡ option_map settle old
    → (s : State) → HoldsImage holds s → LeavesNow new (IsImageOf s)
opened_durable None old new alike settled s image = absurd image
opened_durable (Some content) old new alike settled s image =
    more_now new (λ left. left ≡ content) (IsImageOf s) (λ left same. subst (IsImageOf s) (sym same) image)
    (synced (Some content) (Some content) old new alike refl settled content refl)
