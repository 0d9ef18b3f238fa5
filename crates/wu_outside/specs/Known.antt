-- What contracts see of the objects in memory.
use Rattle.std.specs.Prelude.{ℕ, List, Bool}
use Rattle.wu_outside.specs.Schedule.{Schedule}

-- a source of known bytes: those that are left, whether a read gave the end, how many bytes the last read gave, and how
-- many one asked for at most
pub record KnownSource : Type 0 where
  pub left : List ℕ
  pub ended : Bool
  pub last_read : ℕ
  pub most_asked : ℕ

-- the same of one whose calls follow a schedule
pub record ScheduledSource : Type 0 where
  pub source : KnownSource
  pub schedule : Schedule

-- the bytes that a sink gained, and the schedule of its calls
pub record ScheduledSink : Type 0 where
  pub gained : List ℕ
  pub schedule : Schedule
