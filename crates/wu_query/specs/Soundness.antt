-- What an engine keeps, whatever is asked of it.
use Rattle.std.specs.Prelude.{◌≡◌, ℕ, ◌+◌, ◌*◌, ◌≤◌, ◌==◌, is_some, refl}
use Rattle.std.specs.List.{AllByRecursion, AllByRecursion-prop}
use Rattle.std.specs.Coded.{Coded, Coded-set, code_by, coded_bool, coded_ℕ, coded×, coded_list, le_prop, Π_prop}
use Rattle.wu_base.specs.declared.addresses.Range.{Range}
use Rattle.wu_base.specs.declared.limits.TheConstants.{ADDRESSES_MAX, TEXT_MAX}
use Rattle.wu_tree.specs.FileSystems.{FileSystem, is_file}
use Rattle.wu_space.specs.Addresses.{Addresses, range_of}
use Rattle.wu_parts.specs.Contents.{Contents}
use Rattle.wu_image.specs.declared.records.FileRec.{FileRec}
use Rattle.wu_frames.specs.UserFrames.{CacheMatchesTree, Kept}
use Rattle.wu_frames.proofs.FrameFacts.{CacheMatchesTree-prop}
use Rattle.wu_query.specs.Records.{Records, recorded_ranges}

-- What the record of a file keeps: its length is one that a text may have, its tokens are no more than such a text has, three for
-- each byte and two, and it names a blob exactly where the text has bytes.
pub record IsRecord (file : ℕ × FileRec) : Type 0 where
  pub number : file.1.ino ≡ file.0
  pub short : file.1.len ≤ TEXT_MAX
  pub tokens : file.1.range.len ≤ 3 * file.1.len + 2
  pub stored : (file.1.blob == 0) ≡ (file.1.len == 0)

-- What an engine that goes on keeps: records of exactly the regular files, and live ranges of these files alone; addresses that are
-- taken lie below the next one; blob 0 was never drawn; and frames that were made for its tree and its live ranges.
pub record IsSound (tree : FileSystem) (space : Addresses) (parts : Contents) (files : Records) (kept : Kept) : Type 0 where
  pub of_files : (ino : ℕ) → is_some (range_of space.ranges ino) ≡ is_file tree ino
  pub ranges : recorded_ranges files ≡ space.ranges
  pub records : AllByRecursion IsRecord files
  pub few : space.next ≤ ADDRESSES_MAX
  pub below : parts.memory.end ≤ space.next
  pub blobs : 1 ≤ parts.next_blob
  pub frames : CacheMatchesTree tree space.ranges kept

-- ---- each of these has one proof at most

abbrev coded_range : Coded Range
coded_range = code_by (ℕ × ℕ) (coded× coded_ℕ coded_ℕ) (λ r. (r.start, r.len)) (λ p. record { start = p.0; len = p.1 }) (λ _. refl)

pub IsRecord-prop : (file : ℕ × FileRec) → IsProp (IsRecord file)
IsRecord-prop file a b = λ i. record {
  number = Coded-set coded_ℕ _ _ a.number b.number i;
  short = le_prop a.short b.short i;
  tokens = le_prop a.tokens b.tokens i;
  stored = Coded-set coded_bool _ _ a.stored b.stored i;
}

pub IsSound-prop : (tree : FileSystem) (space : Addresses) (parts : Contents) (files : Records) (kept : Kept)
    → IsProp (IsSound tree space parts files kept)
IsSound-prop tree space parts files kept a b = λ i. record {
  of_files = Π_prop (λ ino. Coded-set coded_bool _ _) a.of_files b.of_files i;
  ranges = Coded-set (coded_list (coded× coded_ℕ coded_range)) _ _ a.ranges b.ranges i;
  records = AllByRecursion-prop _ IsRecord-prop files a.records b.records i;
  few = le_prop a.few b.few i;
  below = le_prop a.below b.below i;
  blobs = le_prop a.blobs b.blobs i;
  frames = CacheMatchesTree-prop tree space.ranges kept a.frames b.frames i;
}
