-- What a reader holds of a source, and how it uses it.
use Rattle.std.specs.Prelude.{◌≡◌, ◌⊎◌, ℕ, ◌+◌, ◌-◌, ◌<◌, ◌≤◌, min, max, Bool, true, false, List, [], ◌++◌, length, take}
use Rattle.std.specs.Prelude.{Option, Result, MatchResult}
use Rattle.std.specs.Io.KnownBytes.{Consumes, IsAtEnd, Keeps}
use Rattle.wu_base.specs.declared.limits.TheConstants.{READ_MAX}
use Rattle.wu_outside.specs.Faults.{Rose}
use Rattle.wu_script.specs.declared.ends.ReadEnd.{ReadEnd}
use Rattle.wu_script.specs.declared.ends.ReadEnd.TheVariants.{ReadFault, InputTooLong, NoMemory}

-- the bytes that were given and not used yet, how many more may be given, and whether the source gave its end
pub record Held : Type 0 where
  pub bytes : List ℕ
  pub spare : ℕ
  pub ended : Bool

-- between two moments the source gave some bytes, and these bytes were used; the first two arguments are what the source has left
pub record Uses (left left' : Option (List ℕ)) (old new : Held) (used : List ℕ) : Type 0 where
  pub given : List ℕ
  pub consumed : Consumes left left' given
  pub joined : old.bytes ++ given ≡ used ++ new.bytes
  pub counted : new.spare + length given ≡ old.spare
  pub over : old.ended ≡ true → (given ≡ []) × (new.ended ≡ true)
  pub at_end : (old.ended ≡ true → IsAtEnd left) → new.ended ≡ true → IsAtEnd left'

-- the source gave one byte more than it may, and that byte alone by its last read
pub record GivesTooMuch (left left' : Option (List ℕ)) (last_read : ℕ) (old : Held) : Type 0 where
  pub given : List ℕ
  pub consumed : Consumes left left' given
  pub counted : length given ≡ old.spare + 1
  pub alone : last_read ≡ 1

-- the source gave no end that the reader doesn't know, and what is held came with its last read; the first two arguments are whether
-- the source gave its end, and how many bytes its last read gave
pub record Follows (ended : Bool) (last_read : ℕ) (held : Held) : Type 0 where
  pub going : held.ended ≡ false → ended ≡ false
  pub recent : length held.bytes ≤ last_read

-- how many bytes are asked for at once: as many as the source may give, but at most READ_MAX, or one where it may give none
abbrev pub asked_at_once : ℕ → ℕ
asked_at_once spare = max 1 (min spare READ_MAX)

-- Between two moments the last read that didn't fail gave at most so many bytes, or the source, as far as it tells, gave nothing and tells
-- the same last read. The last two arguments are how many bytes its last read gave, then and now.
abbrev pub GivesAtMost : ℕ → Option (List ℕ) → Option (List ℕ) → ℕ → ℕ → Type 0
GivesAtMost most left left' before now = (now ≤ most) ⊎ (Keeps left left' × (now ≡ before))

-- where taking ended: at an LF, which the source's last read gave, or at the end of the input
pub record EndsAt (closed : Bool) (last_read : ℕ) (new : Held) : Type 0 where
  pub feed : closed ≡ true → length new.bytes < last_read
  pub end : closed ≡ false → (new.bytes ≡ []) × (new.ended ≡ true)

-- ---- reading that ended before an item was whole

-- the source's count of faults rose where it failed, and otherwise is as it was
abbrev pub IsCounted : ReadEnd → ℕ → ℕ → Type 0
IsCounted ReadFault before now = (before ≤ now) × Rose before now
IsCounted InputTooLong before now = now ≡ before
IsCounted NoMemory before now = now ≡ before

-- the count is as it was on every answer but ReadFault, which comes only where it rose
abbrev pub HasReadCause : {T : Type 0} → ℕ → ℕ → Result T ReadEnd → Type 0
HasReadCause before now r = MatchResult r (λ _. now ≡ before) (λ end. IsCounted end before now)

-- the bytes but for so many at the end
abbrev pub but_last : ℕ → List ℕ → List ℕ
but_last count bytes = take (length bytes - count) bytes

-- so many bytes were given: one more than the source may give where the input is too long, and otherwise no more than that
abbrev pub IsGiven : ReadEnd → ℕ → ℕ → Type 0
IsGiven ReadFault spare count = count ≤ spare
IsGiven InputTooLong spare count = count ≡ spare + 1
IsGiven NoMemory spare count = count ≤ spare

-- the bytes of which reading says something at its end: all that were held and given, without the one byte too many; out of
-- memory, without those that the source's last read gave
abbrev pub settled : ReadEnd → ℕ → Held → List ℕ → List ℕ
settled ReadFault last_read old given = old.bytes ++ given
settled InputTooLong last_read old given = old.bytes ++ take old.spare given
settled NoMemory last_read old given = but_last last_read (old.bytes ++ given)

-- reading ended early: the source gave some bytes, and those settled are short of what was to be read, as the first argument says
-- of bytes. A byte too many comes alone, by the last read. After the source's end it isn't asked again: none are given, and there can only
-- be no memory
pub record EndsEarly (IsShort : List ℕ → Type 0) (left left' : Option (List ℕ)) (last_read : ℕ) (old : Held) (end : ReadEnd) : Type 0 where
  pub given : List ℕ
  pub consumed : Consumes left left' given
  pub counted : IsGiven end old.spare (length given)
  pub alone : end ≡ InputTooLong → last_read ≡ 1
  pub over : old.ended ≡ true → (given ≡ []) × (end ≡ NoMemory)
  pub short : IsShort (settled end last_read old given)
