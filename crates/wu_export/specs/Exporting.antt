-- A script that is being written.
use Rattle.std.specs.Prelude.{ℕ, ◌+◌, List, ◌++◌, map, drop}
use Rattle.std.specs.List.{flat_map}
use Rattle.wu_base.specs.SortedOnce.{sorted_once}
use Rattle.wu_view.specs.Views.{path_cmp}
use Rattle.wu_export.specs.declared.Shown.{Shown}
use Rattle.wu_export.specs.Exports.{commands_of, directories_on, directory_entry, file_entries, files_from, first_file}

-- the paths of its directories, and the bytes that are written
pub record Begun : Type 0 where
  pub directories : List (List ℕ)
  pub script : List ℕ

-- the paths of the directories on these paths, ascending and each of them once
abbrev pub directories_through : List (List ℕ) → List (List ℕ)
directories_through paths = sorted_once path_cmp (flat_map directories_on paths)

-- the script of files with these paths, which has no file yet: each directory but the root is made
abbrev pub begun : List (List ℕ) → Begun
begun paths =
    let directories = directories_through paths in
    record { directories = directories; script = commands_of (map (directory_entry directories) (drop 1 directories)) }

-- and the file at that place is made
abbrev pub with_file : Begun → ℕ → Shown → Begun
with_file exporter place shown =
    record exporter {
      script = exporter.script
          ++ commands_of (file_entries exporter.directories (first_file exporter.directories + place) shown);
    }

-- or those of a view
abbrev pub with_files : Begun → List Shown → Begun
with_files exporter view =
    let directories = exporter.directories in
    record exporter { script = exporter.script ++ commands_of (files_from directories (first_file directories) view) }
