-- What has to hold of what is saved of texts and parts.
use Rattle.std.specs.Prelude.{◌≡◌, ◌↔◌, ℕ, ◌+◌, ◌-◌, ◌*◌, ◌^◌, ◌<◌, ◌≤◌, Bool, true, ◌&&◌, cond, eqb, nat_le, nat_lt, List, [], ◌∷◌, ◌++◌}
use Rattle.std.specs.Prelude.{map, filter, count_by, sum_by}
use Rattle.std.specs.List.{AllByRecursion, IsDistinct, list_any}
use Rattle.wu_base.specs.declared.addresses.Range.{Range}
use Rattle.wu_base.specs.declared.addresses.PartRec.{PartRec}
use Rattle.wu_base.specs.declared.limits.TheConstants.{GENERATION_MAX, TEXT_MAX}
use Rattle.wu_base.specs.Ranges.{is_in}
use Rattle.wu_image.specs.declared.records.FileRec.{FileRec}

-- A text has a blob unless it is empty. Its range has the two addresses of the file's tags, at most three more for each byte, and
-- ends by the next address.
pub record IsText (next_address : ℕ) (file : FileRec) : Type 0 where
  pub short : file.len ≤ TEXT_MAX
  pub kept : (file.blob ≡ 0) ↔ (file.len ≡ 0)
  pub some : 2 ≤ file.range.len
  pub long : file.range.len ≤ 3 * file.len + 2
  pub within : file.range.start + file.range.len ≤ next_address

-- the addresses that are stored have room in the part's span, and the part is as large as one of one address at least
pub record IsPart (part : PartRec) : Type 0 where
  pub size : 17 ≤ part.size
  pub some : 0 < part.stored
  pub room : part.stored ≤ part.high - part.low + 1

-- the parts' spans, each from low to high, ascend from an address on, are disjoint, and end before the next address
abbrev pub SpansAscend : ℕ → List PartRec → ℕ → Type 0
SpansAscend from [] next_address = from ≤ next_address
SpansAscend from (part ∷ parts) next_address =
    (from ≤ part.low) × (part.low ≤ part.high) × SpansAscend (part.high + 1) parts next_address

-- generations never rise from left to right, and none is above the limit
abbrev pub NeverRise : ℕ → List PartRec → Type 0
NeverRise limit [] = Unit {0}
NeverRise limit (part ∷ parts) = (part.generation ≤ limit) × NeverRise part.generation parts

-- the range lies within the part's span
abbrev pub lies_in : Range → PartRec → Bool
lies_in range part = nat_le part.low range.start && nat_le (range.start + range.len) (part.high + 1)

-- how many addresses the ranges have that lie within the part's span
abbrev pub live_in : PartRec → List FileRec → ℕ
live_in part files = sum_by (λ file. cond (lies_in file.range part) file.range.len 0) files

-- the blobs of texts and parts
abbrev pub named_blobs : List FileRec → List PartRec → List ℕ
named_blobs files parts = filter (nat_lt 0) (map (λ file. file.blob) files) ++ map (λ part. part.blob) parts

pub record AreLayoutRules (next_address next_blob flushes : ℕ) (files : List FileRec) (parts : List PartRec) : Type 0 where
  pub texts : AllByRecursion (IsText next_address) files
  -- no address is in the ranges of two files
  pub apart : (address : ℕ) → count_by (λ file. is_in file.range address) files ≤ 1
  pub spans : SpansAscend 0 parts next_address
  pub generations : NeverRise GENERATION_MAX parts
  pub parts_hold : AllByRecursion IsPart parts
  -- each range lies in a part, which has as many addresses as all that lie in it, or more
  pub homes : AllByRecursion (λ file. list_any (λ part. lies_in file.range part) parts ≡ true) files
  pub stored : AllByRecursion (λ part. live_in part files ≤ part.stored) parts
  -- the blobs differ, and were drawn
  pub distinct : IsDistinct eqb (named_blobs files parts)
  pub drawn : AllByRecursion (λ blob. (0 < blob) × (blob < next_blob)) (named_blobs files parts)
  -- a part of generation g took 2^g flushes
  pub flushed : sum_by (λ part. 2 ^ part.generation) parts ≤ flushes
  pub few : flushes < 2 ^ 62
