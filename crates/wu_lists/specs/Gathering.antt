-- Blocks whose bytes were copied to one list, and the addresses that these spell.
use Rattle.std.specs.Prelude.{ℕ, ◌≡◌, ◌+◌, ◌*◌, ◌%◌, ◌≤◌, false, nat_lt, if◌then◌else◌, List, [], ◌∷◌, ◌++◌, length, take, drop}
use Rattle.std.specs.List.{AllByRecursion}
use Rattle.wu_base.specs.declared.addresses.Range.{Range}
use Rattle.wu_lists.specs.declared.blocks.Block.{Block}
use Rattle.wu_lists.specs.Blocks.{IsSpelling, bytes_of, meets}

-- the numbers of the variable-byte code, each with all before it and `sum` added to it; the first one's next digit has this weight
abbrev pub decoded : ℕ → ℕ → List ℕ → List ℕ
decoded sum weight [] = []
decoded sum weight (byte ∷ bytes) =
    if nat_lt byte 128 then (sum + byte * weight) ∷ decoded (sum + byte * weight) 1 bytes
    else decoded (sum + byte % 128 * weight) (weight * 128) bytes

-- the addresses of a block that lies in these bytes
abbrev pub addresses_at : List ℕ → Block → List ℕ
addresses_at bytes block = decoded block.low 1 (bytes_of block bytes)

-- the addresses of several blocks, in order
abbrev pub addresses_in : List ℕ → List Block → List ℕ
addresses_in bytes [] = []
addresses_in bytes (block ∷ later) = addresses_at bytes block ++ addresses_in bytes later

-- the block lies in the bytes, and is there as it tells
pub record IsCopied (bytes : List ℕ) (block : Block) : Type 0 where
  pub within : block.at + block.len ≤ length bytes
  pub spelled : IsSpelling block (addresses_at bytes block) (bytes_of block bytes)

abbrev pub AreCopied : List ℕ → List Block → Type 0
AreCopied bytes blocks = AllByRecursion (IsCopied bytes) blocks

-- the first blocks were left out, which the frames don't need
pub record Leaves (frames : List Range) (blocks left : List Block) : Type 0 where
  pub out : ℕ
  pub rest : left ≡ drop out blocks
  pub unneeded : AllByRecursion (λ block. meets frames block ≡ false) (take out blocks)
