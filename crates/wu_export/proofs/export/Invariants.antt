use Rattle.std.proofs.Common.{◌≡◌, ◌+◌, ◌++◌, drop}
use Rattle.wu_export.specs.Exports.{commands_of, directories_of, entries_of, files_from, first_file}
use Rattle.wu_export.proofs.export.Given as goal

abbrev pub invariant-loop-place : goal.invariant-loop-place
invariant-loop-place l = record {
  directories : l.exporter.directories ≡ directories_of l.view;
  script : l.exporter.script
      ++ commands_of (files_from (directories_of l.view) (first_file (directories_of l.view) + l.place) (drop l.place l.view))
      ≡ commands_of (entries_of l.view);
}
