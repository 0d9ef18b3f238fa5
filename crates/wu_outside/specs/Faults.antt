-- What a count of faults says of a call. A call of the outside may fail at any time; the count tells when it did, and
-- stands still on every other answer.
use Rattle.std.specs.Prelude.{◌≡◌, ℕ, ◌+◌, ◌-◌, ◌^◌, ◌≤◌, ◌<◌, List, length, min, OnOk, OnErr, IsErr, IfOk, MatchResult, Option, None, Some}
use Rattle.std.specs.Prelude.{Result, Ok, Err}
use Rattle.wu_outside.specs.declared.traits.Fault.{Fault}
use Rattle.wu_outside.specs.declared.traits.Fault.TheVariants.{Failed, NoMemory}
use Rattle.wu_base.specs.declared.troubles.Trouble.{Trouble}
use Rattle.wu_base.specs.declared.troubles.Trouble.TheVariants.{NoMemory as RanOutOfMemory, StoreFault}

-- what a failed call of the store is to the index above it
abbrev pub trouble_of : Fault → Trouble
trouble_of Failed = StoreFault
trouble_of NoMemory = RanOutOfMemory

-- the count rose, or stands at 2^64 - 1, the last value of a counter
abbrev pub Rose : ℕ → ℕ → Type 0
Rose before now = min (before + 1) (2 ^ 64 - 1) ≤ now

-- the count rose by one, or stands at 2^64 - 1
abbrev pub CountsFault : ℕ → ℕ → Type 0
CountsFault before now = now ≡ min (before + 1) (2 ^ 64 - 1)

-- what the system answered is handed on: its value, and the count is as it was, or an error for its error, which counts
abbrev pub HandsOn : {T E F : Type 0} → ℕ → ℕ → Result T E → Result T F → Type 0
HandsOn before now answer r =
    MatchResult answer
    (λ value. (r ≡ Ok value) × (now ≡ before))
    (λ error. IsErr r × CountsFault before now)

-- the same of a call on a file that may be absent: the error that says so is handed on as none, and doesn't count
abbrev pub HandsOnFound : {T E : Type 0} → (E → Type 0) → ℕ → ℕ → Result T E → Result (Option T) Fault → Type 0
HandsOnFound IsAbsent before now answer r =
    MatchResult answer
    (λ value. (r ≡ Ok (Some value)) × (now ≡ before))
    (λ error. (IsAbsent error → (r ≡ Ok None) × (now ≡ before)) × ((IsAbsent error → ⊥) → (r ≡ Err Failed) × CountsFault before now))

-- the count hasn't fallen, it rose where an error was answered, and is as it was where none was
pub record HasCause {T E : Type 0} (before now : ℕ) (r : Result T E) : Type 0 where
  pub kept : before ≤ now
  pub rose : OnErr r (Rose before now)
  pub calm : OnOk r (now ≡ before)

-- the same of a call that may also run out of memory: that answer leaves the count too
pub record HasFaultCause {T : Type 0} (before now : ℕ) (r : Result T Fault) : Type 0 where
  pub kept : before ≤ now
  pub rose : r ≡ Err Failed → Rose before now
  pub calm : OnOk r (now ≡ before)
  pub out_of_memory : r ≡ Err NoMemory → now ≡ before

-- the same of a write of a piece, for which it is a fault too to take nothing of a piece that isn't empty
pub record HasWriteCause (before now : ℕ) (piece : List ℕ) (r : Result ℕ Fault) : Type 0 where
  pub kept : before ≤ now
  pub rose : r ≡ Err Failed → Rose before now
  pub stuck : r ≡ Ok 0 → 0 < length piece → Rose before now
  pub calm : IfOk r (λ count. 0 < count → now ≡ before)
  pub empty : length piece ≡ 0 → OnOk r (now ≡ before)
  pub out_of_memory : r ≡ Err NoMemory → now ≡ before
