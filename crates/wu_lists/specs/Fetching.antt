-- The addresses that are fetched.
use Rattle.std.specs.Prelude.{ℕ, ◌≡◌, List, [], Option, None, Some, IfSome, true, filter, length}
use Rattle.std.specs.List.{AllByRecursion}
use Rattle.wu_base.specs.declared.addresses.Range.{Range}
use Rattle.wu_layout.specs.Postings.{is_live}
use Rattle.wu_outside.specs.Content.{Content}
use Rattle.wu_part.specs.declared.entries.BlockEntry.{BlockEntry}
use Rattle.wu_part.specs.declared.entries.TermEntry.{TermEntry}
use Rattle.wu_part.specs.Directories.{PartDirectory}
use Rattle.wu_part.specs.Parts.{HoldBlocks, HoldsList}
use Rattle.wu_lists.specs.declared.blocks.Block.{Block}
use Rattle.wu_lists.specs.Ascending.{AscendBetween}
use Rattle.wu_lists.specs.Blocks.{IsSpelling, bytes_of, entry_of}
use Rattle.wu_lists.specs.Keeping.{AreHeld, Kept}

-- each of the addresses lies in a frame
abbrev pub AreInFrames : List Range → List ℕ → Type 0
AreInFrames frames addresses = AllByRecursion (λ address. is_live frames address ≡ true) addresses

-- The addresses ascend from low up to, but without, high, and lie in the frames. Where the store tells that it has the blob, the blob has
-- all of some addresses, and what is kept of it is what it has, they are those of these addresses that lie in the frames.
pub record AreFetched (Has : List ℕ → List ℕ → Type 0) (frames : List Range) (blob low high : ℕ) (holds : Option Content) (kept : Kept)
    (found : List ℕ) : Type 0 where
  pub ascend : AscendBetween low high found
  pub live : AreInFrames frames found
  pub told : IfSome holds (λ content. (bytes addresses : List ℕ) → content.blobs blob ≡ Some bytes → AreHeld blob bytes kept
      → Has bytes addresses → found ≡ filter (is_live frames) addresses)

-- The same, of all addresses of some blocks, with those outside the frames: those of them that lie in the frames are those.
pub record AreGathered (Has : List ℕ → List ℕ → Type 0) (frames : List Range) (blob low high : ℕ) (holds : Option Content) (kept : Kept)
    (gathered : List ℕ) : Type 0 where
  pub ascend : AscendBetween low high gathered
  pub told : IfSome holds (λ content. (bytes addresses : List ℕ) → content.blobs blob ≡ Some bytes → AreHeld blob bytes kept
      → Has bytes addresses → filter (is_live frames) gathered ≡ filter (is_live frames) addresses)

-- the entry's addresses, by these bytes of its part; none where there is no entry
abbrev pub HasEntry : ℕ → List ℕ → List ℕ → Option TermEntry → List ℕ → Type 0
HasEntry low bytes term None addresses = addresses ≡ []
HasEntry low bytes term (Some entry) addresses = HoldsList low bytes entry (record { term = term; at = addresses })

-- by its directory, a part with these bytes has the term at these addresses
abbrev pub HasTerm : PartDirectory → List ℕ → List ℕ → List ℕ → Type 0
HasTerm directory term bytes addresses = HasEntry directory.low bytes term (entry_of directory.terms term) addresses

-- the same of a term of so many addresses with these blocks
pub record HasBlocks (low count : ℕ) (blocks : List BlockEntry) (bytes addresses : List ℕ) : Type 0 where
  pub number : count ≡ length addresses
  pub held : HoldBlocks low bytes blocks addresses

-- a blob with these bytes has the block with these addresses
abbrev pub HasBlock : Block → List ℕ → List ℕ → Type 0
HasBlock block bytes addresses = IsSpelling block addresses (bytes_of block bytes)
