-- The parts that a checkpoint records, as they are opened.
use Rattle.std.proofs.Common.{◌≡◌, ℕ, ◌+◌, ◌<◌, ◌≤◌, ◌^◌, List, [], ◌∷◌, ◌++◌, ap, sym, ◌∙◌, subst, arith, ⊎_elim}
use Rattle.std.specs.Prelude.{Some, map}
use Rattle.std.specs.List.{AllByRecursion, AllZip}
use Rattle.wu_base.specs.declared.addresses.PartRec.{PartRec}
use Rattle.wu_outside.specs.Content.{Content}
use Rattle.wu_outside.specs.declared.ranges.ReadRange.{ReadRange}
use Rattle.wu_layout.specs.Layouts.{Part, lists_of}
use Rattle.wu_layout.specs.Invariants.{NeverRise}
use Rattle.wu_part.specs.Directories.{PartDirectory}
use Rattle.wu_part.specs.Parts.{SpellsPart}
use Rattle.wu_part.proofs.LawLemmas.{one_directory}
use Rattle.wu_parts.specs.Holdings.{HoldParts}
use Rattle.wu_parts.specs.Loading.{AreLoadable, AreOpened, HasDirectory, HasNoDirectory, IsFirstBroken, SpansFollow, end_of}
use Rattle.wu_parts.specs.Units.{as_part, as_parts}
use Rattle.wu_image.specs.declared.records.FileRec.{FileRec}
use Rattle.wu_image.specs.Images.{HoldsPart}
use Rattle.wu_image.specs.LayoutRules.{AreLayoutRules, IsPart, SpansAscend}
use Rattle.wu_image.specs.LayoutRules.{NeverRise as StayBelow}
use Rattle.wu_image.proofs.RuleLemmas.{sum_of_map}

-- ---- the rules of the layout are those of parts that may be opened

spans_follow : (from : ℕ) (parts : List PartRec) (next : ℕ) → SpansAscend from parts next → AllByRecursion IsPart parts
    → SpansFollow from parts
spans_follow from [] next s h = tt
spans_follow from (part ∷ parts) next s h =
    (s.0, omega (arith, s.1, h.0.room), spans_follow (part.high + 1) parts next s.2 h.1)

parts_drawn : (next : ℕ) (front : List ℕ) (parts : List PartRec)
    → AllByRecursion (λ blob. (0 < blob) × (blob < next)) (front ++ map (λ part. part.blob) parts)
    → AllByRecursion (λ recorded. recorded.blob < next) parts
parts_drawn next [] [] a = tt
parts_drawn next [] (part ∷ parts) a = (a.0.1, parts_drawn next [] parts a.1)
parts_drawn next (blob ∷ front) parts a = parts_drawn next front parts a.1

stay_within : (limit bound : ℕ) (parts : List PartRec) → limit ≤ bound → StayBelow limit parts
    → AllByRecursion (λ later. later.generation ≤ bound) (as_parts parts)
stay_within limit bound [] l n = tt
stay_within limit bound (part ∷ parts) l n =
    (omega (arith, n.0, l), stay_within part.generation bound parts (omega (arith, n.0, l)) n.1)

never_rise : (limit : ℕ) (parts : List PartRec) → StayBelow limit parts → NeverRise (as_parts parts)
never_rise limit [] n = tt
never_rise limit (part ∷ parts) n =
    (stay_within part.generation part.generation parts (omega arith) n.1, never_rise part.generation parts n.1)

pub loadable : (next next_blob flushes : ℕ) (files : List FileRec) (parts : List PartRec)
    → AreLayoutRules next next_blob flushes files parts → AreLoadable parts next_blob flushes
loadable next next_blob flushes files parts rules = record {
  spans = spans_follow 0 parts next rules.spans rules.parts_hold;
  below = parts_drawn next_blob _ parts rules.drawn;
  never_rise = never_rise _ parts rules.generations;
  flushed = omega (arith, sum_of_map (λ (part : Part). 2 ^ part.generation) as_part parts, rules.flushed);
  few = omega (arith, rules.few);
}

-- they end by the next address
pub end_below : (from : ℕ) (parts : List PartRec) (next : ℕ) → SpansAscend from parts next → end_of parts ≤ next
end_below from [] next s = omega arith
end_below from (part ∷ []) next s = s.2
end_below from (part ∷ more ∷ parts) next s = end_below (part.high + 1) (more ∷ parts) next s.2

-- ---- the parts of an image

-- what is opened of the part's blob is its directory
its_directory : (content : Content) (part : Part) (recorded : PartRec) (h : HoldsPart content part recorded) (directory : PartDirectory)
    (long : ℕ) → HasDirectory directory long (content.blobs recorded.blob) → h.directory ≡ directory
its_directory content part recorded h directory long own =
    let there : content.blobs recorded.blob ≡ Some h.blob = ap content.blobs h.recorded_of.blob ∙ h.held in
    let its : HasDirectory directory long (Some h.blob) = subst (HasDirectory directory long) there own in
    one_directory h.directory directory h.blob h.spelled.own its.0

pub opened_held : (content : Content) (records : List PartRec) (directories : List PartDirectory) (read : List ReadRange)
    (parts : List Part) → AreOpened (Some content) records directories read → AllZip (HoldsPart content) parts records
    → HoldParts content records directories parts
opened_held content [] [] read [] opened held = tt
opened_held content [] [] read (part ∷ parts) opened held = held
opened_held content [] (directory ∷ directories) read parts opened held = opened
opened_held content (recorded ∷ records) [] read parts opened held = opened
opened_held content (recorded ∷ records) (directory ∷ directories) read [] opened held = held
opened_held content (recorded ∷ records) (directory ∷ directories) read (part ∷ parts) opened held =
    let is = its_directory content part recorded held.0 directory opened.0 opened.2.own in (
      record {
        record_of = held.0.recorded_of;
        told = opened.2.told;
        bytes = held.0.blob;
        held = held.0.held;
        spelled = subst (λ (d : PartDirectory). SpellsPart d (lists_of part.postings) held.0.blob) is held.0.spelled;
      },
      opened_held content records directories opened.1 parts opened.4 held.1,
    )

pub none_broken : (content : Content) (records : List PartRec) (parts : List Part) (blob : ℕ) → AllZip (HoldsPart content) parts records
    → IsFirstBroken (Some content) records blob → ⊥
none_broken content [] parts blob held broken = broken
none_broken content (recorded ∷ records) [] blob held broken = held
none_broken content (recorded ∷ records) (part ∷ parts) blob held broken =
    ⊎_elim
    (λ b.
    let h : HoldsPart content part recorded = held.0 in
    let there : content.blobs blob ≡ Some h.blob = ap content.blobs (sym b.0) ∙ (ap content.blobs h.recorded_of.blob ∙ h.held) in
    let its : HasNoDirectory recorded (Some h.blob) = subst (HasNoDirectory recorded) there b.1 in
    its h.directory h.spelled.own h.told)
    (λ later. none_broken content records parts blob held.1 later.1)
    broken
