-- Which ranges of a store a check reads, and in which order: the root, the checkpoint, and then each part from left to right, and behind it
-- the texts of its span.
use Rattle.std.specs.Prelude.{◌≡◌, ◌⊎◌, ℕ, ◌==◌, nat_le, nat_lt, if◌then◌else◌, List, [], ◌∷◌, ◌++◌, filter}
use Rattle.std.specs.Prelude.{Option, None, option_map}
use Rattle.std.specs.List.{flat_map}
use Rattle.wu_base.specs.declared.addresses.PartRec.{PartRec}
use Rattle.wu_base.specs.declared.limits.TheConstants.{ADDRESSES_MAX}
use Rattle.wu_outside.specs.Content.{Content}
use Rattle.wu_outside.specs.Ranges.{asked_size, root_range}
use Rattle.wu_outside.specs.declared.ranges.ReadRange.{ReadRange}
use Rattle.wu_image.specs.declared.checkpoints.Checkpoint.{Checkpoint}
use Rattle.wu_image.specs.declared.records.FileRec.{FileRec}
use Rattle.wu_image.specs.declared.roots.Root.{Root}
use Rattle.wu_image.specs.declared.roots.TheConstants.{ROOT_LEN}
use Rattle.wu_image.specs.Images.{IsByAddress}
use Rattle.wu_check.specs.Wrong.{HasCheckpoint, IsRootOf, parts_of}
use Rattle.wu_check.specs.declared.checking.Checked.{Checked}
use Rattle.wu_check.specs.declared.checking.Checked.TheVariants.{Sound, Broken}

-- ---- what was read

-- these ranges were read, in this order
abbrev pub ReadsAll : List ReadRange → Option (List ReadRange) → Option (List ReadRange) → Type 0
ReadsAll ranges before after = after ≡ option_map (λ earlier. earlier ++ ranges) before

-- the first ones of these ranges were read, in this order, and nothing else
abbrev pub ReadsFront : List ReadRange → Option (List ReadRange) → Option (List ReadRange) → Type 0
ReadsFront ranges before after = (read left : List ReadRange) × (read ++ left ≡ ranges) × ReadsAll read before after

-- the same of a list of that kind
abbrev pub ReadsAllOf : (List ReadRange → Type 0) → Option (List ReadRange) → Option (List ReadRange) → Type 0
ReadsAllOf Are before after = (ranges : List ReadRange) × Are ranges × ReadsAll ranges before after

abbrev pub ReadsFrontOf : (List ReadRange → Type 0) → Option (List ReadRange) → Option (List ReadRange) → Type 0
ReadsFrontOf Are before after = (ranges : List ReadRange) × Are ranges × ReadsFront ranges before after

-- where nothing was found wrong
abbrev pub IfSound : Checked → Type 0 → Type 0
IfSound (Sound files live stored parts) P = P
IfSound (Broken blob) P = Unit {0}

-- ---- blobs

-- a blob of so many bytes: its size is asked, and then it is read whole, in one read
abbrev pub whole_blob : ℕ → ℕ → List ReadRange
whole_blob blob size = asked_size blob ∷ record { blob = blob; at = 0; len = size } ∷ []

-- the same, or its size alone is asked
abbrev pub TriesBlob : ℕ → ℕ → List ReadRange → Type 0
TriesBlob blob size ranges = (ranges ≡ whole_blob blob size) ⊎ (ranges ≡ asked_size blob ∷ [])

-- a text; the empty one is in no blob, and isn't read
abbrev pub text_ranges : FileRec → List ReadRange
text_ranges file = if file.blob == 0 then [] else whole_blob file.blob file.len

abbrev pub texts_ranges : List FileRec → List ReadRange
texts_ranges files = flat_map text_ranges files

-- a part; one that has addresses from the limit on is wrong by that, and isn't read
abbrev pub part_ranges : PartRec → List ReadRange
part_ranges part = if nat_lt part.high ADDRESSES_MAX then whole_blob part.blob part.size else []

-- the same, or its size alone is asked, as where it has another one than was recorded
abbrev pub TriesPart : PartRec → List ReadRange → Type 0
TriesPart part ranges = (ranges ≡ part_ranges part) ⊎ (ranges ≡ asked_size part.blob ∷ [])

-- and then those texts
abbrev pub TriesOwn : PartRec → List FileRec → List ReadRange → Type 0
TriesOwn part files ranges = (own : List ReadRange) × TriesPart part own × (ranges ≡ own ++ texts_ranges files)

-- ---- what there is to read

-- each part, and behind it those of the texts that start at or before its last address; behind the last part the texts that are left
abbrev pub index_ranges : List FileRec → List PartRec → List ReadRange
index_ranges files [] = texts_ranges files
index_ranges files (part ∷ parts) =
    part_ranges part
    ++ (texts_ranges (filter (λ file. nat_le file.range.start part.high) files)
    ++ index_ranges (filter (λ file. nat_lt part.high file.range.start) files) parts)

-- the same where parts may be wrong
abbrev pub TriesIndex : List FileRec → List PartRec → List ReadRange → Type 0
TriesIndex files [] ranges = ranges ≡ texts_ranges files
TriesIndex files (part ∷ parts) ranges =
    (own later : List ReadRange) × TriesPart part own × TriesIndex (filter (λ file. nat_lt part.high file.range.start) files) parts later
    × (ranges ≡ own ++ (texts_ranges (filter (λ file. nat_le file.range.start part.high) files) ++ later))

-- the ranges are those of the parts that count and of the texts by their addresses
pub record AreOfIndex (version : ℕ) (checkpoint : Checkpoint) (ranges : List ReadRange) : Type 0 where
  pub order : List FileRec
  pub by_address : IsByAddress checkpoint.files order
  pub are : ranges ≡ index_ranges order (parts_of version checkpoint)

-- the same where parts may be wrong
pub record AreTried (version : ℕ) (checkpoint : Checkpoint) (ranges : List ReadRange) : Type 0 where
  pub order : List FileRec
  pub by_address : IsByAddress checkpoint.files order
  pub are : TriesIndex order (parts_of version checkpoint) ranges

-- they are those of the checkpoint that the root names, and then such ones of what this records
pub record AreUnderRoot (content : Content) (Are : ℕ → Checkpoint → List ReadRange → Type 0) (root : Root) (ranges : List ReadRange)
    : Type 0 where
  pub checkpoint : Checkpoint
  pub saved : HasCheckpoint content root checkpoint
  pub later : List ReadRange
  pub index : Are root.version checkpoint later
  pub are : ranges ≡ whole_blob root.checkpoint root.size ++ later

-- they are the root's, in a buffer of its length, and such ones under it
pub record AreFromRoot (content : Content) (Are : Root → List ReadRange → Type 0) (ranges : List ReadRange) : Type 0 where
  pub root : Root
  pub its : IsRootOf content root
  pub under : List ReadRange
  pub are_under : Are root under
  pub are : ranges ≡ root_range ROOT_LEN ∷ under

-- all that there is to read in a store in which nothing is wrong: where there is no root, only this was looked for
abbrev pub AreRead : Content → List ReadRange → Type 0
AreRead content ranges =
    (content.root ≡ None) × (ranges ≡ root_range ROOT_LEN ∷ []) ⊎ AreFromRoot content (AreUnderRoot content AreOfIndex) ranges

-- The most that there is to read where something may be wrong: under a root that is none there is nothing, under a checkpoint that is none
-- neither, and of what a checkpoint records maybe nothing.
abbrev pub MayBeOfIndex : ℕ → Checkpoint → List ReadRange → Type 0
MayBeOfIndex version checkpoint ranges = (ranges ≡ []) ⊎ AreTried version checkpoint ranges

abbrev pub MayBeUnderRoot : Content → Root → List ReadRange → Type 0
MayBeUnderRoot content root ranges =
    (ranges ≡ whole_blob root.checkpoint root.size) ⊎ AreUnderRoot content MayBeOfIndex root ranges

abbrev pub MayBeRead : Content → List ReadRange → Type 0
MayBeRead content ranges = (ranges ≡ root_range ROOT_LEN ∷ []) ⊎ AreFromRoot content (MayBeUnderRoot content) ranges
