use Rattle.std.proofs.Common.{◌≡◌, ◌-◌, ◌^◌, min, take}
use Rattle.std.specs.Prelude.{sum_by}
use Rattle.wu_query.specs.Exporting.{size_recorded}
use Rattle.wu_query.specs.Records.{record_at}
use Rattle.wu_query.proofs.exporting.size_of_texts.Given as goal

-- the texts of the files so far are counted
abbrev pub invariant-loop-seen : goal.invariant-loop-seen
invariant-loop-seen l =
    l.size ≡ min (sum_by (λ seen. size_recorded (record_at l.files.entries seen.ino)) (take l.seen-index l.view)) (2 ^ 64 - 1)
