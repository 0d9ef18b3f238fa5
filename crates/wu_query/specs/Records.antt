-- What an engine records of the regular files.
use Rattle.std.specs.Prelude.{ℕ, List, length, map, Option}
use Rattle.std.specs.Ordering.{nat_cmp}
use Rattle.std.specs.Map.{lookup}
use Rattle.std.specs.BTreeMap.{is_at}
use Rattle.wu_layout.specs.Layouts.{FileEntry}
use Rattle.wu_space.specs.Addresses.{Ranges}
use Rattle.wu_image.specs.declared.records.FileRec.{FileRec}
use Rattle.wu_query.specs.States.{Texts, text_in}

-- records by the number of their file, in the order of the numbers
abbrev pub Records : Type 0
Records = List (ℕ × FileRec)

-- the record of a file with its text
abbrev pub record_of : Texts → ℕ × FileEntry → FileRec
record_of texts file = record {
  ino = file.0;
  len = length (text_in texts file.0);
  blob = file.1.blob;
  range = file.1.range;
}

-- the records of the files
abbrev pub records_of : Texts → List (ℕ × FileEntry) → Records
records_of texts files = map (λ file. (file.0, record_of texts file)) files

-- the record of the file of that number
abbrev pub record_at : Records → ℕ → Option FileRec
record_at files ino = lookup (is_at (nat_cmp ino)) files

-- the live ranges that are recorded, by number
abbrev pub recorded_ranges : Records → Ranges
recorded_ranges files = map (λ file. (file.0, file.1.range)) files
