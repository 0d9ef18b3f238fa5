-- What a checkpoint is spelled of, one after another: numbers in the variable-byte code, and the bytes of names.
use Rattle.std.specs.Prelude.{◌≡◌, ℕ, List, [], ◌∷◌, ◌++◌, ◌^◌, ◌<◌, length}
use Rattle.std.specs.List.{flat_map}
use Rattle.wu_vbyte.specs.Numbers.{StartsWithNumber}

pub data Item : Type 0 where
  -- a number of 64 bits
  Number : (number : ℕ) → Item
  -- the number of a user, a group or a node, of 32 bits
  Id : (id : ℕ) → Item
  -- bytes as they are
  Raw : (raw : List ℕ) → Item

-- the bytes start with the spellings of these items, and then comes the rest
abbrev pub StartsWith : List ℕ → List Item → List ℕ → Type 0
StartsWith bytes [] rest = bytes ≡ rest
StartsWith bytes (Number number ∷ items) rest =
    (number < 2 ^ 64) × (left : List ℕ) × StartsWithNumber bytes number left × StartsWith left items rest
StartsWith bytes (Id id ∷ items) rest =
    (id < 2 ^ 32) × (left : List ℕ) × StartsWithNumber bytes id left × StartsWith left items rest
StartsWith bytes (Raw raw ∷ items) rest = (left : List ℕ) × (bytes ≡ raw ++ left) × StartsWith left items rest

-- new is old with the items' spellings at its end
abbrev pub Appends : List ℕ → List Item → List ℕ → Type 0
Appends old items new = (code : List ℕ) × StartsWith code items [] × (new ≡ old ++ code)

-- how many there are, and then the items of each
abbrev pub list_items : {X : Type 0} → (X → List Item) → List X → List Item
list_items items xs = Number (length xs) ∷ flat_map items xs
