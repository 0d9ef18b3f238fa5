-- The live ranges by number, as the space of addresses keeps them.
use Rattle.std.proofs.Common.{◌≡◌, ℕ, true, false, cond, List, [], ◌∷◌, Some, option_map, map, refl, ap}
use Rattle.std.specs.Ordering.{nat_cmp}
use Rattle.std.specs.Map.{lookup, remove_entry}
use Rattle.std.specs.BTreeMap.{is_at, insert_entry}
use Rattle.wu_base.specs.declared.addresses.Range.{Range}
use Rattle.wu_base.proofs.MapEntries.{insert_entry-read, remove_entry-read}
use Rattle.wu_layout.specs.Layouts.{FileEntry, entry_of, ranges_by_number, ranges_of}

module _ (files : List (ℕ × FileEntry)) (ino : ℕ) where
  pub ranges_by_number-removal : remove_entry (is_at (nat_cmp ino)) (ranges_by_number files)
      ≡ ranges_by_number (remove_entry (is_at (nat_cmp ino)) files)
  ranges_by_number-removal = remove_entry-read (λ (entry : FileEntry). entry.range) (is_at (nat_cmp ino)) files

  pub ranges_by_number-put : (entry : FileEntry) → insert_entry nat_cmp (ranges_by_number files) ino entry.range
      ≡ ranges_by_number (insert_entry nat_cmp files ino entry)
  ranges_by_number-put entry = insert_entry-read (λ (e : FileEntry). e.range) nat_cmp files ino entry

pub lookup-ranges_by_number : (files : List (ℕ × FileEntry)) (ino : ℕ)
    → lookup (is_at (nat_cmp ino)) (ranges_by_number files) ≡ option_map (λ entry. entry.range) (entry_of files ino)
lookup-ranges_by_number [] ino = refl
lookup-ranges_by_number (file ∷ files) ino =
    elim (is_at (nat_cmp ino) file.0) as
    (λ b. cond b (Some file.1.range) (lookup (is_at (nat_cmp ino)) (ranges_by_number files))
    ≡ option_map (λ (entry : FileEntry). entry.range) (cond b (Some file.1) (entry_of files ino))) [
      | true ↦ refl
      | false ↦ lookup-ranges_by_number files ino
    ]

-- the live ranges, without their numbers
pub ranges-alone : (files : List (ℕ × FileEntry)) → map (λ file. file.1) (ranges_by_number files) ≡ ranges_of files
ranges-alone [] = refl
ranges-alone (file ∷ files) = ap (λ (rs : List Range). file.1.range ∷ rs) (ranges-alone files)
