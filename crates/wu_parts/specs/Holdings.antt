-- What a store holds of the parts of the index, and what is kept and needed of their blocks.
use Rattle.std.specs.Prelude.{◌≡◌, ℕ, List, [], ◌∷◌, Option, Some, zip}
use Rattle.std.specs.List.{AllByRecursion, AllZip, flat_map}
use Rattle.wu_base.specs.declared.addresses.PartRec.{PartRec}
use Rattle.wu_base.specs.declared.addresses.Range.{Range}
use Rattle.wu_outside.specs.Content.{Content}
use Rattle.wu_outside.specs.declared.ranges.ReadRange.{ReadRange}
use Rattle.wu_layout.specs.Layouts.{Part, IsRecordOf, lists_of}
use Rattle.wu_part.specs.Directories.{PartDirectory}
use Rattle.wu_part.specs.Parts.{IsRecorded, SpellsPart}
use Rattle.wu_lists.specs.declared.blocks.Block.{Block}
use Rattle.wu_lists.specs.Blocks.{needed}
use Rattle.wu_lists.specs.Fetching.{HasTerm}
use Rattle.wu_lists.specs.Keeping.{AreHeld, Asks, AsksFirst, Kept}
use Rattle.wu_parts.specs.Contents.{Contents}

-- Record and directory are the part's, and the content has the part's postings, term by term, under its blob.
pub record HoldsPart (content : Content) (recorded : PartRec) (directory : PartDirectory) (part : Part) : Type 0 where
  pub record_of : IsRecordOf recorded part
  pub told : IsRecorded recorded directory
  pub bytes : List ℕ
  pub held : content.blobs part.blob ≡ Some bytes
  pub spelled : SpellsPart directory (lists_of part.postings) bytes

-- the same of parts side by side, from left to right
abbrev pub HoldParts : Content → List PartRec → List PartDirectory → List Part → Type 0
HoldParts content [] [] [] = Unit {0}
HoldParts content [] [] (part ∷ parts) = ⊥
HoldParts content [] (directory ∷ directories) parts = ⊥
HoldParts content (recorded ∷ records) [] parts = ⊥
HoldParts content (recorded ∷ records) (directory ∷ directories) [] = ⊥
HoldParts content (recorded ∷ records) (directory ∷ directories) (part ∷ parts) =
    HoldsPart content recorded directory part × HoldParts content records directories parts

-- The part's blob is there, and by the part's directory it has the term at these addresses: at none where the directory doesn't have it.
abbrev pub HoldsTerm : Content → List ℕ → PartRec × PartDirectory → List ℕ → Type 0
HoldsTerm content term part addresses = (bytes : List ℕ) × (content.blobs part.0.blob ≡ Some bytes) × HasTerm part.1 term bytes addresses

-- the same of parts side by side, from left to right
abbrev pub HoldTerm : Content → List ℕ → List (PartRec × PartDirectory) → List (List ℕ) → Type 0
HoldTerm content term parts lists = AllZip (HoldsTerm content term) parts lists

-- each kept block of a part's blob has the bytes that the content has there
abbrev pub AreKept : Content → List PartRec → Kept → Type 0
AreKept content records kept =
    AllByRecursion (λ recorded. (bytes : List ℕ) → content.blobs recorded.blob ≡ Some bytes → AreHeld recorded.blob bytes kept) records

-- the blocks of the term that frames need, part by part from left to right
abbrev pub all_needed : List (PartRec × PartDirectory) → List ℕ → List Range → List Block
all_needed parts term frames = flat_map (λ part. needed part.0.blob part.1 term frames) parts

-- these were asked for in turn, in the parts that there are, and nothing else was read
abbrev pub AsksParts : Contents → List ℕ → List Range → Option Content → Kept → Option (List ReadRange) → Option (List ReadRange) → Type 0
AsksParts contents term frames holds kept_now ranges ranges_now =
    Asks (all_needed (zip contents.parts contents.directories) term frames) holds contents.kept kept_now ranges ranges_now

-- after an error: the first of these were asked for in turn, and none of the later ones
abbrev pub AsksFirstOfParts : Contents → List ℕ → List Range → Option Content → Kept → Type 0
AsksFirstOfParts contents term frames holds kept_now =
    AsksFirst (all_needed (zip contents.parts contents.directories) term frames) holds contents.kept kept_now
