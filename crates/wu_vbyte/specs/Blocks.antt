-- Blocks of a posting list: gap compression, as Büttcher, Clarke and Cormack give it in Information Retrieval, chapter 6.
-- Ascending addresses are spelled by their differences, each of them a number.
use Rattle.std.specs.Prelude.{ℕ, List, [], ◌∷◌, ◌++◌, ◌-◌, ◌*◌, ◌%◌, ◌<◌, ◌≤◌, ◌≡◌, ◌⊎◌, ⊤, Some, None, length, slice_get}
use Rattle.std.specs.List.{last_or}
use Rattle.wu_vbyte.specs.Numbers.{StartsWithNumber}

-- the bytes spell how far each address is above the one before it, at least 1
abbrev pub SpellsGaps : ℕ → List ℕ → List ℕ → Type 0
SpellsGaps before [] bytes = bytes ≡ []
SpellsGaps before (address ∷ later) bytes =
    (before < address) × (rest : List ℕ) × StartsWithNumber bytes (address - before) rest × SpellsGaps address later rest

-- the bytes spell how far the first address is above low, and then how far each later one is above the one before it
abbrev pub SpellsBlock : ℕ → List ℕ → List ℕ → Type 0
SpellsBlock low [] bytes = ⊥
SpellsBlock low (first ∷ later) bytes =
    (low ≤ first) × (rest : List ℕ) × StartsWithNumber bytes (first - low) rest × SpellsGaps first later rest

-- the first of the addresses, and the bytes spell how far each later one is above the one before it
abbrev pub SpellsAfterFirst : ℕ → List ℕ → List ℕ → Type 0
SpellsAfterFirst first [] bytes = ⊥
SpellsAfterFirst first (address ∷ later) bytes = (address ≡ first) × SpellsGaps first later bytes

-- new is old with the block's spelling at its end
abbrev pub AppendsBlock : List ℕ → ℕ → List ℕ → List ℕ → Type 0
AppendsBlock old low addresses new = (code : List ℕ) × SpellsBlock low addresses code × (new ≡ old ++ code)

-- so many addresses, from first to last
pub record AreFromTo (count first last : ℕ) (addresses : List ℕ) : Type 0 where
  pub number : length addresses ≡ count
  pub begin : slice_get addresses 0 ≡ Some first
  pub end : last_or None addresses ≡ Some last

-- after a block's first number, the bytes spell its addresses: so many, from first to last
abbrev pub SpellsFromTo : ℕ → ℕ → ℕ → List ℕ → List ℕ → Type 0
SpellsFromTo count first last bytes addresses = SpellsAfterFirst first addresses bytes × AreFromTo count first last addresses

-- some addresses are spelled so
abbrev pub IsSpelledFromTo : ℕ → ℕ → ℕ → List ℕ → Type 0
IsSpelledFromTo count first last bytes =
    (addresses : List ℕ) × SpellsAfterFirst first addresses bytes × AreFromTo count first last addresses

-- after this byte come bytes of numbers above 0 that take one byte or two each
abbrev pub AreShort : ℕ → List ℕ → Type 0
AreShort before [] = ⊤
AreShort before (byte ∷ later) = (0 < byte) × ((before < 128) ⊎ (byte < 128)) × AreShort byte later

-- bytes of numbers above 0 that take one byte each
abbrev pub AreSingle : List ℕ → Type 0
AreSingle [] = ⊤
AreSingle (byte ∷ later) = (0 < byte) × (byte < 128) × AreSingle later

-- each byte after this one, with the byte before it, has such an item
abbrev pub HaveEach : (ℕ → ℕ → ℕ → Type 0) → ℕ → List ℕ → List ℕ → Type 0
HaveEach Has before [] items = ⊤
HaveEach Has before (byte ∷ later) [] = ⊥
HaveEach Has before (byte ∷ later) (item ∷ more) = Has before byte item × HaveEach Has byte later more

-- what a byte adds to its number: its seven bits, with the weight 128 where the byte before goes on with the number
pub record HasPart (before byte part : ℕ) : Type 0 where
  pub small : before < 128 → part ≡ byte % 128
  pub large : 128 ≤ before → part ≡ byte % 128 * 128

-- how many numbers end at a byte, whatever the byte before it is
pub record HasEnd (before byte ended : ℕ) : Type 0 where
  pub one : byte < 128 → ended ≡ 1
  pub none : 128 ≤ byte → ended ≡ 0
