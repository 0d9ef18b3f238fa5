-- The root of a store.
use Rattle.std.specs.Prelude.{◌≡◌, ◌⊎◌, ℕ, ◌+◌, ◌^◌, ◌<◌, List, [], ◌∷◌, ◌++◌, codes}
use Rattle.std.specs.Int.{w64, to_be_bytes}
use Rattle.wu_image.specs.declared.roots.Root.{Root}

-- a number in eight bytes, the highest first
abbrev pub eight_bytes : ℕ → List ℕ
eight_bytes number = to_be_bytes w64 number

-- the versions of a store, of which the second is written
abbrev pub IsVersion : ℕ → Type 0
IsVersion version = (version ≡ 1) ⊎ (version ≡ 2)

-- a root's first bytes, of which the last is the digit of the version
abbrev pub root_mark : ℕ → List ℕ
root_mark version = codes "WUMPUSR" ++ (48 + version) ∷ []

-- The bytes are the mark of the root's version and its four numbers. Its checkpoint is a blob that was drawn.
pub record SpellsRoot (root : Root) (bytes : List ℕ) : Type 0 where
  pub version : IsVersion root.version
  pub some : 0 < root.checkpoint
  pub drawn : root.checkpoint < root.next_blob
  pub size_fits : root.size < 2 ^ 64
  pub address_fits : root.next_address < 2 ^ 64
  pub blob_fits : root.next_blob < 2 ^ 64
  pub spelled : bytes ≡ root_mark root.version
      ++ (eight_bytes root.checkpoint ++ (eight_bytes root.size ++ (eight_bytes root.next_address ++ eight_bytes root.next_blob)))
