-- The header of a part.
use Rattle.std.specs.Prelude.{ℕ, List, ◌++◌, ◌^◌, ◌<◌, ◌≡◌}
use Rattle.std.specs.Prelude.{codes}
use Rattle.std.specs.Int.{w64, to_be_bytes}

-- the bytes are the part's mark, and then the length of its directory in eight bytes, the highest first
pub record SpellsHeader (directory_length : ℕ) (bytes : List ℕ) : Type 0 where
  pub fits : directory_length < 2 ^ 64
  pub spelled : bytes ≡ codes "WUMPUSP1" ++ to_be_bytes w64 directory_length
