-- Lines and bodies, as they are taken from the first bytes of what is held and given.
use Rattle.std.specs.Prelude.{◌≡◌, ℕ, ◌≤◌, ◌<◌, ◌==◌, Bool, true, false, List, [], ◌∷◌, ◌++◌, length, take, drop, ◌+◌, Option, MatchBool}
use Rattle.std.specs.List.{list_any}
use Rattle.wu_script.specs.Holding.{Held, Uses, EndsAt}

-- no LF stands in the bytes
abbrev pub IsOneLine : List ℕ → Type 0
IsOneLine bytes = list_any (λ byte. byte == 10) bytes ≡ false

-- what closes a line: its LF, or the end of the input
abbrev pub closing : Bool → List ℕ
closing true = 10 ∷ []
closing false = []

-- a line was taken; the flag says whether an LF closed it, and otherwise the input ended there; the number is how many bytes the
-- source's last read gave
pub record TakesLine (left left' : Option (List ℕ)) (last_read : ℕ) (old new : Held) (closed : Bool) (line : List ℕ) : Type 0 where
  pub uses : Uses left left' old new (line ++ closing closed)
  pub one : IsOneLine line
  pub last : EndsAt closed last_read new

-- the bytes are kept, if they are no more than the limit; otherwise no more than the limit are
abbrev pub Kept : ℕ → List ℕ → Bool → List ℕ → Type 0
Kept limit bytes whole kept = MatchBool whole ((length bytes ≤ limit) × (kept ≡ bytes)) ((limit < length bytes) × (length kept ≤ limit))

-- a piece of a line was taken, all that was held if no LF closed it
pub record TakesPiece (old new : Held) (closed : Bool) (piece : List ℕ) : Type 0 where
  pub bytes : old.bytes ≡ piece ++ closing closed ++ new.bytes
  pub one : IsOneLine piece
  pub all : closed ≡ false → new.bytes ≡ []
  pub spare : new.spare ≡ old.spare
  pub ended : new.ended ≡ old.ended

-- the first LF stands there
pub record IsFirstFeed (bytes : List ℕ) (place : ℕ) : Type 0 where
  pub within : place < length bytes
  pub parts : bytes ≡ take place bytes ++ 10 ∷ [] ++ drop (place + 1) bytes
  pub one : IsOneLine (take place bytes)

-- bytes were taken, so many as the count says if the flag does, and otherwise fewer, and the input ended there
pub record TakesBytes (left left' : Option (List ℕ)) (old new : Held) (count : ℕ) (all : Bool) (bytes : List ℕ) : Type 0 where
  pub uses : Uses left left' old new bytes
  pub whole : all ≡ true → length bytes ≡ count
  pub short : all ≡ false → (length bytes < count) × (new.bytes ≡ []) × (new.ended ≡ true)
