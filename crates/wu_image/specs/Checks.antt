-- The rules of the layout, as they are asked.
use Rattle.std.specs.Prelude.{◌≡◌, ℕ, ◌+◌, ◌-◌, ◌^◌, ◌<◌, ◌≤◌, true, List, [], ◌∷◌, count_by}
use Rattle.std.specs.List.{AllByRecursion, list_any}
use Rattle.wu_base.specs.declared.addresses.Range.{Range}
use Rattle.wu_base.specs.declared.addresses.PartRec.{PartRec}
use Rattle.wu_base.specs.Ranges.{is_in}
use Rattle.wu_image.specs.declared.records.FileRec.{FileRec}
use Rattle.wu_image.specs.LayoutRules.{IsPart, lies_in, live_in}

-- ---- parts

-- the part may follow: no address is below from, the generation is within the limit, and it takes no more flushes than there are
pub record IsNextPart (from limit flushes next_address : ℕ) (part : PartRec) : Type 0 where
  pub begin : from ≤ part.low
  pub span : part.low ≤ part.high
  pub end : part.high < next_address
  pub generation : part.generation ≤ limit
  pub flushed : 2 ^ part.generation ≤ flushes
  pub holds : IsPart part

abbrev pub ArePartsFrom : ℕ → ℕ → ℕ → ℕ → List PartRec → Type 0
ArePartsFrom from limit flushes next_address [] = Unit {0}
ArePartsFrom from limit flushes next_address (part ∷ parts) =
    IsNextPart from limit flushes next_address part
    × ArePartsFrom (part.high + 1) part.generation (flushes - 2 ^ part.generation) next_address parts

-- ---- ranges

-- no address is in the ranges of two files
abbrev pub AreApart : List FileRec → Type 0
AreApart files = (address : ℕ) → count_by (λ file. is_in file.range address) files ≤ 1

-- none starts below from, and each ends before the next one starts
abbrev pub AreInOrder : ℕ → List Range → Type 0
AreInOrder from [] = Unit {0}
AreInOrder from (range ∷ ranges) = (from ≤ range.start) × AreInOrder (range.start + range.len) ranges

-- each range lies in a part, which has as many addresses as all that lie in it, or more
pub record RangesLieInParts (files : List FileRec) (parts : List PartRec) : Type 0 where
  pub homes : AllByRecursion (λ file. list_any (λ part. lies_in file.range part) parts ≡ true) files
  pub stored : AllByRecursion (λ part. live_in part files ≤ part.stored) parts

-- ---- blobs

-- each is above the one before, and none is below from
abbrev pub RiseFrom : ℕ → List ℕ → Type 0
RiseFrom from [] = Unit {0}
RiseFrom from (number ∷ numbers) = (from ≤ number) × RiseFrom (number + 1) numbers
