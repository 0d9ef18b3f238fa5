use Rattle.std.proofs.Common.{◌≡◌, ◌++◌, map}
use Rattle.wu_engine.proofs.saving.all_records.Given as goal

-- with those of the files to come they are all records
abbrev pub invariant-loop-file : goal.invariant-loop-file
invariant-loop-file l = l.records.items ++ l.file-iterator ≡ map (λ file. file.1) l.files.entries
