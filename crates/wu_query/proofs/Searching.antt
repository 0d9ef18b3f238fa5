-- A user's frames can be searched, whatever state the engine stands for.
use Rattle.std.proofs.Common.{◌≡◌, ℕ, ◌+◌, ◌≤◌, ◌<◌, ◌^◌, List, [], ◌∷◌, map, sym, subst, arith}
use Rattle.std.proofs.Math.Logic.{∥∥₁_elim}
use Rattle.std.specs.Coded.{le_prop}
use Rattle.std.specs.List.{AllByRecursion, AllByRecursion-prop}
use Rattle.std.specs.BTreeMap.{is_at}
use Rattle.std.specs.Ordering.{nat_cmp}
use Rattle.wu_base.specs.declared.addresses.Range.{Range}
use Rattle.wu_base.specs.declared.limits.TheConstants.{ADDRESSES_MAX}
use Rattle.wu_base.proofs.MapEntries.{All-found}
use Rattle.wu_tree.specs.FileSystems.{FileSystem}
use Rattle.wu_space.specs.Addresses.{Addresses, IsSpace, Ranges}
use Rattle.wu_space.proofs.Apart.{given-from_live}
use Rattle.wu_parts.specs.Contents.{Contents}
use Rattle.wu_view.specs.Views.{view_of as files_of}
use Rattle.wu_frames.specs.declared.Frame.{Frame}
use Rattle.wu_frames.specs.declared.Frames.{Frames}
use Rattle.wu_frames.specs.UserFrames.{CacheMatchesTree, AreFrames, Kept}
use Rattle.wu_frames.proofs.ViewFrames.{HasRange, all-have}
use Rattle.wu_query.specs.Records.{Records, recorded_ranges}
use Rattle.wu_query.specs.Soundness.{IsRecord, IsSound}
use Rattle.wu_query.specs.Finding.{CanBeRead}
use Rattle.wu_query.specs.Units.{CanBeSearched}

recorded-short : (files : Records) → AllByRecursion IsRecord files
    → AllByRecursion (λ (file : ℕ × Range). file.1.len < 2 ^ 26) (recorded_ranges files)
recorded-short [] all = tt
recorded-short (file ∷ files) all = (omega (arith, all.0.tokens, all.0.short), recorded-short files all.1)

-- each live range is shorter than a ranking may have units
pub ranges-short : (files : Records) (ranges : Ranges) → recorded_ranges files ≡ ranges → AllByRecursion IsRecord files
    → AllByRecursion (λ (file : ℕ × Range). file.1.len < 2 ^ 26) ranges
ranges-short files ranges same all =
    subst (AllByRecursion (λ (file : ℕ × Range). file.1.len < 2 ^ 26)) same (recorded-short files all)

module _ (fs : FileSystem) (space : Addresses) (parts : Contents) (files : Records) (kept : Kept) (rules : IsSpace space)
    (sound : IsSound fs space parts files kept) where
  bounded : (frames : List Frame) → AllByRecursion (HasRange space.ranges) frames
      → AllByRecursion (λ (range : Range). range.start + range.len ≤ ADDRESSES_MAX) (map (λ frame. frame.range) frames)
  bounded [] have = tt
  bounded (frame ∷ frames) have =
      let given = given-from_live space.next space.ranges rules.live frame.ino frame.range have.0 in
      (omega (arith, given, sound.few), bounded frames have.1)

  short : (frames : List Frame) → AllByRecursion (HasRange space.ranges) frames
      → AllByRecursion (λ (range : Range). range.len < 2 ^ 26) (map (λ frame. frame.range) frames)
  short [] have = tt
  short (frame ∷ frames) have =
      let all = ranges-short files space.ranges sound.ranges sound.records in
      let found = All-found (λ (file : ℕ × Range). file.1.len < 2 ^ 26) (is_at (nat_cmp frame.ino)) space.ranges frame.range all have.0 in
      (found.2, short frames have.1)

  pub can_be_searched : (uid : ℕ) (frames : Frames) → AreFrames fs space.ranges uid frames → CanBeSearched frames
  can_be_searched uid frames hers = record {
    apart = hers.ascending;
    bounded =
        subst (AllByRecursion (λ (range : Range). range.start + range.len ≤ ADDRESSES_MAX)) (sym hers.ranges_alone)
        (∥∥₁_elim hers.of_view (AllByRecursion-prop _ (λ _. le_prop) (map (λ (frame : Frame). frame.range) frames.by_address))
        (λ moved. bounded frames.by_address (all-have space.ranges (files_of fs uid) frames.by_address moved)));
    short =
        subst (AllByRecursion (λ (range : Range). range.len < 2 ^ 26)) (sym hers.ranges_alone)
        (∥∥₁_elim hers.of_view (AllByRecursion-prop _ (λ _. le_prop) (map (λ (frame : Frame). frame.range) frames.by_address))
        (λ moved. short frames.by_address (all-have space.ranges (files_of fs uid) frames.by_address moved)));
    of_frames = hers.ranges_alone;
  }

  -- and so can be read what is recorded of files
  pub can_be_read : AllByRecursion CanBeRead files
  can_be_read =
      each files sound.records
      (subst (AllByRecursion (λ (file : ℕ × Range). file.1.start + file.1.len ≤ space.next)) (sym sound.ranges) rules.live.given) where
        each : (fs' : Records) → AllByRecursion IsRecord fs'
            → AllByRecursion (λ (file : ℕ × Range). file.1.start + file.1.len ≤ space.next) (recorded_ranges fs')
            → AllByRecursion CanBeRead fs'
        each [] kept given = tt
        each (file ∷ files') kept given =
            (record { recorded = kept.0; bounded = omega (arith, given.0, sound.few) }, each files' kept.1 given.1)

-- An engine stays sound when blocks are kept anew, and frames that were made for its tree and its live ranges.
pub sound_prepared : (fs : FileSystem) (space : Addresses) (parts parts_now : Contents) (files : Records) (kept kept_now : Kept)
    → parts_now ≡ record parts { kept = parts_now.kept } → CacheMatchesTree fs space.ranges kept_now → IsSound fs space parts files kept
    → IsSound fs space parts_now files kept_now
sound_prepared fs space parts parts_now files kept kept_now same right sound =
    subst (λ (c : Contents). IsSound fs space c files kept_now) (sym same)
    (record {
      of_files = sound.of_files;
      ranges = sound.ranges;
      records = sound.records;
      few = sound.few;
      below = sound.below;
      blobs = sound.blobs;
      frames = right;
    })
