-- What an engine reports of its index: whether there is background work to do, and how large it is.
use Rattle.std.specs.Prelude.{length, sum_by}
use Rattle.wu_base.specs.declared.reports.Stat.{Stat}
use Rattle.wu_base.specs.declared.reports.Worked.{Worked}
use Rattle.wu_layout.specs.Layouts.{postings_of}
use Rattle.wu_layout.specs.Steps.{is_idle}
use Rattle.wu_parts.specs.Working.{answer_of}
use Rattle.wu_query.specs.States.{State}

-- Idle exactly where no job is under way and the policy names none, and else Busy
abbrev pub worked_in : State → Worked
worked_in s = answer_of (is_idle s.layout)

-- the regular files, the addresses in their live ranges, the postings in parts and in memory, dead ones too, and the parts
abbrev pub stat_of : State → Stat
stat_of s = record {
  files = length s.layout.files;
  live = sum_by (λ file. file.1.range.len) s.layout.files;
  stored = length (postings_of s.layout.parts s.layout.memory);
  parts = length s.layout.parts;
}
