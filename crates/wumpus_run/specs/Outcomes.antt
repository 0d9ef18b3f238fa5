-- What was done of what a command line asks for, as the contract of the top call has it.
use Rattle.std.specs.Prelude.{Option, option_and_then}
use Rattle.wu_outside.specs.Faults.{Rose}
use Rattle.wu_options.specs.declared.command_lines.CommandLine.{CommandLine}
use Rattle.wumpus_run.specs.declared.statuses.Status.{Status}
use Rattle.wumpus_run.specs.Checks.{ChecksStore, IfCheck}
use Rattle.wumpus_run.specs.Courses.{TakesCourse}
use Rattle.wumpus_run.specs.Demo.{IfDemo, IsShown}
use Rattle.wumpus_run.specs.Ended.{CallsBroken, IsOutcome, KeepsBlobs, OpensOnly}
use Rattle.wumpus_run.specs.Session.{Completes, FromImage, HasRoom, IsUsage, Moment, session_settings}

-- each field is the clause of that name, of this command line
pub record CarriesOut (line : Option CommandLine) (status : Status) (before now : Moment) : Type 0 where
  pub usage : IsUsage status line
  pub demo : IfDemo line (λ number. IsShown number status before.gained now.gained)
  pub check : IfCheck line (ChecksStore status before now)
  pub session : IsOutcome status (option_and_then session_settings line) before now
  pub course : FromImage before.holds (λ s. TakesCourse s status (option_and_then session_settings line) before now)
  pub blobs : KeepsBlobs before now
  pub opened : OpensOnly status (option_and_then session_settings line) before now
  pub broken : CallsBroken status before.holds
  pub complete : (Rose before.read_faults now.read_faults → ⊥) → (Rose before.write_faults now.write_faults → ⊥)
      → (Rose before.store_faults now.store_faults → ⊥)
      → FromImage before.holds (λ s. HasRoom s → Completes status (option_and_then session_settings line) before)
