-- What is found on the walk over parts and texts, and on the way to it.
use Rattle.std.specs.Prelude.{◌≡◌, ◌⊎◌, ℕ, ◌<◌, ◌≤◌, eqb, Bool, MatchBool, if◌then◌else◌, List, [], map, Option, None, Some}
use Rattle.std.specs.List.{AllByRecursion, IsDistinct, flat_map}
use Rattle.wu_base.specs.declared.addresses.PartRec.{PartRec}
use Rattle.wu_base.specs.declared.addresses.Range.{Range}
use Rattle.wu_base.specs.declared.addresses.TermList.{TermList}
use Rattle.wu_base.specs.declared.limits.TheConstants.{TEXT_MAX}
use Rattle.wu_base.specs.Ranges.{AreApart}
use Rattle.wu_outside.specs.Content.{Content}
use Rattle.wu_image.specs.declared.records.FileRec.{FileRec}
use Rattle.wu_check.specs.Indexing.{AreIndexed, IsIndexOf}
use Rattle.wu_check.specs.Wrong.{AreSoundTexts, HasTokens, IsFirstPart, IsFirstText, IsSoundPart, IsWrongText}
use Rattle.wu_check.specs.declared.indexing.PartIndex.{PartIndex}
use Rattle.wu_check.specs.declared.walking.Verdict.{Verdict}
use Rattle.wu_check.specs.declared.walking.Verdict.TheVariants.{Sound, WrongPart, BrokenText}

-- ---- texts

-- the ranges of files
abbrev pub ranges_of : List FileRec → List Range
ranges_of files = map (λ file. file.range) files

-- the text is short enough to be cut into tokens, and its range has room for the file's tags
pub record IsReadable (file : FileRec) : Type 0 where
  pub short : file.len ≤ TEXT_MAX
  pub empty : file.blob ≡ 0 → file.len ≡ 0
  pub some : 2 ≤ file.range.len

-- the bytes are what the store has of the text
pub record IsTextIn (content : Content) (file : FileRec) (text : List ℕ) : Type 0 where
  pub held : 0 < file.blob → content.blobs file.blob ≡ Some text
  pub empty : file.blob ≡ 0 → text ≡ []

-- no text is wrong, or the blob is the first one's that is
abbrev pub FindsText : Content → List FileRec → Option ℕ → Type 0
FindsText content files None = AreSoundTexts content files
FindsText content files (Some blob) = IsFirstText content files blob

-- ---- a text beside a part

-- the index is that of lists, no two of which share an address, by these ranges, which lie apart
pub record IsIndexFor (ranges : List Range) (lists : List TermList) (index : PartIndex) : Type 0 where
  pub indexed : AreIndexed ranges lists index
  pub distinct : IsDistinct eqb (flat_map (λ list. list.at) lists)
  pub apart : AreApart ranges

-- the text is wrong; or it isn't, and the lists have its tokens, or haven't
abbrev pub IsCompared : Content → List TermList → FileRec → Option Bool → Type 0
IsCompared content lists file None = IsWrongText content file
IsCompared content lists file (Some same) =
    (IsWrongText content file → ⊥) × MatchBool same (HasTokens content lists file) (HasTokens content lists file → ⊥)

-- what is found of the texts of files, where the lists of the part are those
abbrev pub AreCompared : Content → List TermList → List FileRec → Verdict → Type 0
AreCompared content lists files Sound = AreSoundTexts content files × AllByRecursion (HasTokens content lists) files
AreCompared content lists files WrongPart = AreSoundTexts content files × (AllByRecursion (HasTokens content lists) files → ⊥)
AreCompared content lists files (BrokenText blob) = IsFirstText content files blob

-- the verdict on texts none of which is wrong
abbrev pub verdict_if : Bool → Verdict
verdict_if same = if same then Sound else WrongPart

-- the verdict on a broken part, by the first text that is
abbrev pub verdict_without : Option ℕ → Verdict
verdict_without None = WrongPart
verdict_without (Some blob) = BrokenText blob

-- where no text is found broken
abbrev pub UnlessText : Verdict → Type 0 → Type 0
UnlessText Sound P = P
UnlessText WrongPart P = P
UnlessText (BrokenText blob) P = Unit {0}

-- ---- a part

-- what is found of the part and of the texts of files that lie within its span
abbrev pub IsVerdict : Content → PartRec → List FileRec → Verdict → Type 0
IsVerdict content part files Sound = AreSoundTexts content files × IsSoundPart content files part
IsVerdict content part files WrongPart = AreSoundTexts content files × (IsSoundPart content files part → ⊥)
IsVerdict content part files (BrokenText blob) = IsFirstText content files blob

-- the content has the part, whose lists are indexed so
pub record HasIndex (content : Content) (part : PartRec) (files : List FileRec) (index : PartIndex) : Type 0 where
  pub bytes : List ℕ
  pub held : content.blobs part.blob ≡ Some bytes
  pub its : IsIndexOf part bytes (ranges_of files) index

-- ---- the walk

-- no part is wrong, or the blob is the leftmost one's that is
abbrev pub FindsPart : Content → List FileRec → List PartRec → Option ℕ → Type 0
FindsPart content files parts None = AllByRecursion (IsSoundPart content files) parts
FindsPart content files parts (Some blob) = IsFirstPart content files parts blob

-- the leftmost wrong part, after one more part
abbrev pub leftmost_of : Option ℕ → Verdict → ℕ → Option ℕ
leftmost_of (Some wrong) verdict blob = Some wrong
leftmost_of None Sound blob = None
leftmost_of None WrongPart blob = Some blob
leftmost_of None (BrokenText text) blob = None

-- nothing is wrong, or the blob is that of the first text that is, or, where none is, of the leftmost part
abbrev pub FindsWrong : Content → List FileRec → List PartRec → Option ℕ → Type 0
FindsWrong content files parts None = AreSoundTexts content files × AllByRecursion (IsSoundPart content files) parts
FindsWrong content files parts (Some blob) =
    IsFirstText content files blob ⊎ (AreSoundTexts content files × IsFirstPart content files parts blob)
