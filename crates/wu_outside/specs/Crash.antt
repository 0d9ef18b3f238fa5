-- What a crash leaves of a store: of the changes since the last successful sync, any may be lost. A blob that was put
-- since then is absent or has any bytes, one that was removed since then is there or not, the root is that of the sync or
-- one that was set since then, also by a call that failed; all else is as at the sync.
use Rattle.std.specs.Prelude.{◌≡◌, ℕ, List, [], ◌∷◌, ⊤, ◌⊎◌, Option, None, Some, option_map, Result, Err, OnOk, OnErr}
use Rattle.wu_outside.specs.Content.{Content}
use Rattle.wu_outside.specs.declared.traits.Fault.{Fault}
use Rattle.wu_outside.specs.declared.traits.Fault.TheVariants.{NoMemory}

-- a change that was tried, whether or not its call failed
pub data Change : Type 0 where
  Put : (blob : ℕ) → Change
  Remove : (blob : ℕ) → Change
  SetRoot : (bytes : List ℕ) → Change

-- a store at one moment: what it holds, what it held at the last successful sync, and the changes since, newest first
pub record Moment : Type 0 where
  pub held : Content
  pub synced : Content
  pub tried : List Change

-- what a crash may leave of a blob, after these changes and from what it was at the sync
abbrev pub MayBlobBe : List Change → ℕ → Option (List ℕ) → Option (List ℕ) → Type 0
MayBlobBe [] blob synced left = left ≡ synced
MayBlobBe (Put b ∷ earlier) blob synced left = (blob ≡ b) ⊎ MayBlobBe earlier blob synced left
MayBlobBe (Remove b ∷ earlier) blob synced left = ((blob ≡ b) × (left ≡ None)) ⊎ MayBlobBe earlier blob synced left
MayBlobBe (SetRoot bytes ∷ earlier) blob synced left = MayBlobBe earlier blob synced left

-- what a crash may leave of the root
abbrev pub MayRootBe : List Change → Option (List ℕ) → Option (List ℕ) → Type 0
MayRootBe [] synced left = left ≡ synced
MayRootBe (Put b ∷ earlier) synced left = MayRootBe earlier synced left
MayRootBe (Remove b ∷ earlier) synced left = MayRootBe earlier synced left
MayRootBe (SetRoot bytes ∷ earlier) synced left = (left ≡ Some bytes) ⊎ MayRootBe earlier synced left

-- of each blob, and of the root, what may be left
pub record MixesChanges (moment : Moment) (left : Content) : Type 0 where
  pub blobs : (blob : ℕ) → MayBlobBe moment.tried blob (moment.synced.blobs blob) (left.blobs blob)
  pub root : MayRootBe moment.tried moment.synced.root left.root

-- what a crash at this moment may leave: all that is held, or the changes since the sync in part
abbrev pub MayLeave : Moment → Content → Type 0
MayLeave moment left = (left ≡ moment.held) ⊎ MixesChanges moment left

-- a store now and at the moments after each earlier change and sync, newest first
pub record Moments : Type 0 where
  pub now : Moment
  pub past : List Moment

-- all moments, newest first
abbrev pub all_moments : Moments → List Moment
all_moments moments = moments.now ∷ moments.past

-- what a crash now may leave
abbrev pub LeftNow : Moments → Content → Type 0
LeftNow moments left = MayLeave moments.now left

-- a store without a past, at a sync of this content
abbrev pub starts_with : Content → Moments
starts_with content = record { now = record { held = content; synced = content; tried = [] }; past = [] }

-- the next moment
abbrev pub go_on : (Moment → Moment) → Moments → Moments
go_on step moments = record { now = step moments.now; past = moments.now ∷ moments.past }

-- a change was tried, which did this to the content
abbrev pub try_change : Change → (Content → Content) → Moments → Moments
try_change change do_it moments =
    go_on (λ moment. record { held = do_it moment.held; synced = moment.synced; tried = change ∷ moment.tried }) moments

-- what a failed call may leave: nothing was tried, or the change was tried, and what is held is changed or as it was
abbrev pub MayTry : Change → (Content → Content) → Option Moments → Option Moments → Type 0
MayTry change do_it old new =
    (new ≡ old) ⊎ ((new ≡ option_map (try_change change do_it) old) ⊎ (new ≡ option_map (try_change change (λ held. held)) old))

-- the change was made; after a fault it may have been tried, and out of memory it was not
pub record Tries {T : Type 0} (change : Change) (do_it : Content → Content) (old new : Option Moments) (r : Result T Fault) : Type 0 where
  pub done : OnOk r (new ≡ option_map (try_change change do_it) old)
  pub failed : OnErr r (MayTry change do_it old new)
  pub out_of_memory : r ≡ Err NoMemory → new ≡ old

-- a sync was done
abbrev pub settle : Moments → Moments
settle moments = go_on (λ moment. record { held = moment.held; synced = moment.held; tried = [] }) moments

-- what is told of the moments and of the content is alike: who tells what a crash leaves tells what is held
abbrev pub AreAlike : Option Content → Option Moments → Type 0
AreAlike holds None = ⊤
AreAlike holds (Some moments) = holds ≡ Some moments.now.held
