-- What is read of a part whose texts are compared: its terms, and at the place of each address of
-- the texts' ranges the number of the term that stands there.
use Rattle.std.specs.Prelude.{◌≡◌, ℕ, List, length, map}
use Rattle.wu_base.specs.declared.addresses.PartRec.{PartRec}
use Rattle.wu_base.specs.declared.addresses.Range.{Range}
use Rattle.wu_base.specs.declared.addresses.TermList.{TermList}
use Rattle.wu_part.specs.Directories.{PartDirectory}
use Rattle.wu_part.specs.Parts.{HoldBlocks, IsRecorded, SpellsPart}
use Rattle.wu_part.specs.declared.entries.TermEntry.{TermEntry}
use Rattle.wu_check.specs.declared.indexing.PartIndex.{PartIndex}
use Rattle.wu_check.specs.Numbering.{AreNumbers}
use Rattle.wu_check.specs.Places.{total_of}

-- the addresses are as many as the entry's, and its blocks hold them
abbrev pub HoldsAddresses : ℕ → List ℕ → TermEntry → List ℕ → Type 0
HoldsAddresses low bytes entry addresses = (entry.count ≡ length addresses) × HoldBlocks low bytes entry.blocks addresses

-- the index is that of a part with these lists, at the addresses of the ranges
pub record AreIndexed (ranges : List Range) (lists : List TermList) (index : PartIndex) : Type 0 where
  pub long : length index.numbers.items ≡ total_of ranges
  pub terms : index.terms.items ≡ map (λ list. list.term) lists
  pub numbers : AreNumbers ranges lists index.numbers.items

-- the bytes are a part with this directory, and the index is of its lists
pub record HasListsOf (directory : PartDirectory) (bytes : List ℕ) (ranges : List Range) (index : PartIndex) : Type 0 where
  pub lists : List TermList
  pub spelled : SpellsPart directory lists bytes
  pub indexed : AreIndexed ranges lists index

-- the bytes are the part, as it is recorded, and the index is of its lists
pub record IsIndexOf (part : PartRec) (bytes : List ℕ) (ranges : List Range) (index : PartIndex) : Type 0 where
  pub directory : PartDirectory
  pub lists : List TermList
  pub spelled : SpellsPart directory lists bytes
  pub told : IsRecorded part directory
  pub indexed : AreIndexed ranges lists index
