-- When a part is sound beside the texts within its span, and beside all texts.
use Rattle.std.proofs.Common.{◌≡◌, ℕ, ◌+◌, ◌<◌, ◌≤◌, true, List, [], ◌∷◌, ◌++◌, subst, arith}
use Rattle.std.specs.Prelude.{Option, Some, None, IfSome}
use Rattle.std.specs.List.{AllByRecursion}
use Rattle.std.proofs.lemmas.Bool.{and_parts, leb-true}
use Rattle.wu_base.specs.declared.addresses.PartRec.{PartRec}
use Rattle.wu_base.specs.declared.addresses.TermList.{TermList}
use Rattle.wu_base.specs.Ranges.{AreApart}
use Rattle.wu_base.proofs.EachLemmas.{each-append, each-map, each_left, each_right}
use Rattle.wu_outside.specs.Content.{Content}
use Rattle.wu_part.specs.Directories.{PartDirectory}
use Rattle.wu_part.specs.Parts.{SpellsPart}
use Rattle.wu_part.proofs.LawLemmas.{same_part}
use Rattle.wu_image.specs.declared.records.FileRec.{FileRec}
use Rattle.wu_image.specs.LayoutRules.{lies_in}
use Rattle.wu_check.specs.declared.indexing.PartIndex.{PartIndex}
use Rattle.wu_check.specs.declared.walking.Verdict.{Verdict}
use Rattle.wu_check.specs.declared.walking.Verdict.TheVariants.{Sound, WrongPart, BrokenText}
use Rattle.wu_check.specs.Walking.{AreCompared, HasIndex, IsIndexFor, IsVerdict, ranges_of}
use Rattle.wu_check.specs.Wrong.{HasTokens, IsSoundPart}
use Rattle.wu_check.proofs.ToldContents.{told_before}

abbrev pub LiesIn : PartRec → FileRec → Type 0
LiesIn part file = lies_in file.range part ≡ true

-- ---- a part that is indexed

pub index_for : (content : Content) (part : PartRec) (files : List FileRec) (index : PartIndex) → AreApart (ranges_of files)
    → (has : HasIndex content part files index) → IsIndexFor (ranges_of files) has.its.lists index
index_for content part files index apart has = record {
  indexed = has.its.indexed;
  distinct = has.its.spelled.distinct;
  apart = apart;
}

all_lie : (Holds : FileRec → Type 0) (part : PartRec) (files : List FileRec) → AllByRecursion (LiesIn part) files
    → AllByRecursion (λ file. LiesIn part file → Holds file) files → AllByRecursion Holds files
all_lie Holds part [] lie all = tt
all_lie Holds part (file ∷ files) lie all = (all.0 lie.0, all_lie Holds part files lie.1 all.1)

-- a sound part's lists are those that were read
tokens_read : (content : Content) (part : PartRec) (files : List FileRec) (bytes : List ℕ) (directory : PartDirectory) (lists : List TermList)
    → content.blobs part.blob ≡ Some bytes → SpellsPart directory lists bytes → AllByRecursion (LiesIn part) files
    → IsSoundPart content files part → AllByRecursion (HasTokens content lists) files
tokens_read content part files bytes directory lists held spelled lie sound =
    let both : Some sound.bytes ≡ Some bytes = subst (λ (b : Option (List ℕ)). b ≡ Some bytes) sound.held held in
    let same : sound.bytes ≡ bytes = cc in
    let its = subst (SpellsPart sound.directory sound.lists) same sound.spelled in
    let lists_same : sound.lists ≡ lists = (same_part sound.directory directory sound.lists lists bytes its spelled).1 in
    subst (λ (l : List TermList). AllByRecursion (HasTokens content l) files) lists_same
    (all_lie (HasTokens content sound.lists) part files lie sound.tokens)

pub verdict_indexed : (content : Content) (part : PartRec) (files : List FileRec) (index : PartIndex) (verdict : Verdict)
    → AllByRecursion (LiesIn part) files → (has : HasIndex content part files index)
    → AreCompared content has.its.lists files verdict → IsVerdict content part files verdict
verdict_indexed content part files index Sound lie has compared = (
  compared.0,
  record {
    bytes = has.bytes;
    held = has.held;
    directory = has.its.directory;
    lists = has.its.lists;
    spelled = has.its.spelled;
    told = has.its.told;
    tokens = each-map (HasTokens content has.its.lists) (λ file. LiesIn part file → HasTokens content has.its.lists file) files
        (λ file tokens lies. tokens) compared.1;
  },
)
verdict_indexed content part files index WrongPart lie has compared = (
  compared.0,
  λ sound. compared.1
      (tokens_read content part files has.bytes has.its.directory has.its.lists has.held has.its.spelled lie sound),
)
verdict_indexed content part files index (BrokenText blob) lie has compared = compared

-- by a store that tells its content, also after a call that left it as it was
pub verdict_told : (holds told : Option Content) → told ≡ holds → (part : PartRec) (files : List FileRec) (index : PartIndex) (verdict : Verdict)
    → AreApart (ranges_of files) → AllByRecursion (LiesIn part) files → IfSome holds (λ content. HasIndex content part files index)
    → ((lists : List TermList) → IsIndexFor (ranges_of files) lists index → IfSome told (λ content. AreCompared content lists files verdict))
    → IfSome holds (λ content. IsVerdict content part files verdict)
verdict_told None told same part files index verdict apart lie has compared = tt
verdict_told (Some content) told same part files index verdict apart lie has compared =
    verdict_indexed content part files index verdict lie has
    (told_before (λ held. AreCompared held has.its.lists files verdict) (Some content) told same
    (compared has.its.lists (index_for content part files index apart has)))

-- the ranges end by the greatest address of the part
pub ranges_bounded : (part : PartRec) (limit : ℕ) (files : List FileRec) → part.high < limit → AllByRecursion (LiesIn part) files
    → AllByRecursion (λ range. range.start + range.len ≤ limit) (ranges_of files)
ranges_bounded part limit [] below lie = tt
ranges_bounded part limit (file ∷ files) below lie =
    let end : file.range.start + file.range.len ≤ part.high + 1 = leb-true _ _ (and_parts _ _ lie.0).1 in
    (omega (arith, end, below), ranges_bounded part limit files below lie.1)

-- ---- beside texts elsewhere

-- the text's range ends before the part's span, or starts behind it
abbrev pub IsElsewhere : PartRec → FileRec → Type 0
IsElsewhere part file = LiesIn part file → ⊥

pub starts_before : (part : PartRec) (file : FileRec) → file.range.start < part.low → IsElsewhere part file
starts_before part file before lies =
    let low : part.low ≤ file.range.start = leb-true _ _ (and_parts _ _ lies).0 in absurd (omega (arith, low, before))

pub starts_behind : (part : PartRec) (file : FileRec) → 0 < file.range.len → part.high < file.range.start → IsElsewhere part file
starts_behind part file filled behind lies =
    let end : file.range.start + file.range.len ≤ part.high + 1 = leb-true _ _ (and_parts _ _ lies).1 in
    absurd (omega (arith, end, filled, behind))

module _ (content : Content) (part : PartRec) (before own behind : List FileRec) (none_before : AllByRecursion (IsElsewhere part) before)
    (none_behind : AllByRecursion (IsElsewhere part) behind) where
  pub sound_beside : IsSoundPart content own part → IsSoundPart content (before ++ (own ++ behind)) part
  sound_beside sound =
      let Holds = λ (file : FileRec). LiesIn part file → HasTokens content sound.lists file in
      record {
        bytes = sound.bytes;
        held = sound.held;
        directory = sound.directory;
        lists = sound.lists;
        spelled = sound.spelled;
        told = sound.told;
        tokens = each-append Holds before (own ++ behind)
            (each-map (IsElsewhere part) Holds before (λ file other lies. absurd (other lies)) none_before)
            (each-append Holds own behind sound.tokens
            (each-map (IsElsewhere part) Holds behind (λ file other lies. absurd (other lies)) none_behind));
      }

  pub sound_within : IsSoundPart content (before ++ (own ++ behind)) part → IsSoundPart content own part
  sound_within sound =
      let Holds = λ (file : FileRec). LiesIn part file → HasTokens content sound.lists file in
      record {
        bytes = sound.bytes;
        held = sound.held;
        directory = sound.directory;
        lists = sound.lists;
        spelled = sound.spelled;
        told = sound.told;
        tokens = each_left Holds own behind (each_right Holds before (own ++ behind) sound.tokens);
      }
