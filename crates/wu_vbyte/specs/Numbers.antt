-- The variable-byte code of whole numbers, as Büttcher, Clarke and Cormack give it in Information Retrieval, chapter 6, and
-- known as unsigned LEB128: digits to base 128, the lowest first, one in the low seven bits of each byte. The top bit
-- says that another byte follows.
use Rattle.std.specs.Prelude.{ℕ, List, [], ◌∷◌, ◌++◌, ◌+◌, ◌*◌, ◌%◌, ◌<◌, ◌≤◌, ◌≡◌, length, drop}

-- the number whose digits to base 128 are the low seven bits of the bytes
abbrev pub value_of : List ℕ → ℕ
value_of [] = 0
value_of (byte ∷ bytes) = byte % 128 + 128 * value_of bytes

-- the top bit is set on each byte but the last, and no byte could be left out: what follows one is worth more than 0
abbrev pub IsCode : List ℕ → Type 0
IsCode [] = ⊥
IsCode (byte ∷ []) = byte < 128
IsCode (byte ∷ next ∷ bytes) = (128 ≤ byte) × (byte < 256) × (0 < value_of (next ∷ bytes)) × IsCode (next ∷ bytes)

-- the bytes are the spelling of the number
pub record SpellsNumber (number : ℕ) (code : List ℕ) : Type 0 where
  pub form : IsCode code
  pub value : value_of code ≡ number

-- the bytes are the number's spelling, and then the rest
abbrev pub StartsWithNumber : List ℕ → ℕ → List ℕ → Type 0
StartsWithNumber bytes number rest = (code : List ℕ) × SpellsNumber number code × (bytes ≡ code ++ rest)

-- from place on stands the number's spelling, and it ends before after
pub record IsNumberAt (bytes : List ℕ) (place number after : ℕ) : Type 0 where
  pub longer : place < after
  pub within : after ≤ length bytes
  pub spelled : StartsWithNumber (drop place bytes) number (drop after bytes)

-- new is old with the number's spelling at its end
abbrev pub AppendsNumber : List ℕ → ℕ → List ℕ → Type 0
AppendsNumber old number new = (code : List ℕ) × SpellsNumber number code × (new ≡ old ++ code)
