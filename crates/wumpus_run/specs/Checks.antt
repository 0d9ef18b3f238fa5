-- A check of the store: the line that tells what was found, and how it ends.
use Rattle.std.specs.Prelude.{◌≡◌, ◌⊎◌, ℕ, List, [], ◌∷◌, ◌++◌, codes, decimal, Option, Some, None, IfSome}
use Rattle.std.specs.Io.KnownBytes.{Appends}
use Rattle.wu_base.specs.declared.reports.Stat.{Stat}
use Rattle.wu_outside.specs.Content.{Content}
use Rattle.wu_outside.specs.declared.traits.Fault.{Fault}
use Rattle.wu_outside.specs.declared.traits.Fault.TheVariants.{Failed}
use Rattle.wu_outside.specs.declared.traits.Fault.TheVariants as faults
use Rattle.wu_outside.specs.Gains.{GainsPrefix}
use Rattle.wu_check.specs.Reads.{MayBeRead, ReadsFrontOf}
use Rattle.wu_check.specs.Wrong.{IsChecked}
use Rattle.wu_check.specs.declared.checking.Checked.{Checked}
use Rattle.wu_check.specs.declared.checking.Checked.TheVariants.{Sound, Broken}
use Rattle.wu_query.specs.States.{State}
use Rattle.wu_engine.specs.Opening.{HoldsImage}
use Rattle.wu_options.specs.declared.command_lines.CommandLine.{CommandLine}
use Rattle.wu_options.specs.declared.command_lines.CommandLine.TheVariants.{Run, Demo, Check}
use Rattle.wumpus_run.specs.declared.statuses.Status.{Status}
use Rattle.wumpus_run.specs.declared.statuses.Status.TheVariants.{Done, WriteFault, NoMemory, StoreFault}
use Rattle.wumpus_run.specs.Session.{Moment}

-- nothing is wrong, and these numbers are counted
abbrev pub sound_with : Stat → Checked
sound_with stat = Sound stat.files stat.live stat.stored stat.parts

-- the content is an image of the state, and of no other
pub record IsImageOfOne (content : Content) (s : State) : Type 0 where
  pub image : HoldsImage (Some content) s
  pub alone : (other : State) → HoldsImage (Some content) other → other ≡ s

-- the line that tells what was found
abbrev pub check_line : Checked → List ℕ
check_line (Sound files live stored parts) = codes "check\tok\t" ++ decimal files ++ 9 ∷ [] ++ decimal live ++ 9 ∷ [] ++ decimal stored
    ++ 9 ∷ [] ++ decimal parts ++ 10 ∷ []
check_line (Broken blob) = codes "check\tbroken\t" ++ decimal blob ++ 10 ∷ []

-- how it ends where the store couldn't be read
abbrev pub status_of_reading : Fault → Status
status_of_reading Failed = StoreFault
status_of_reading faults.NoMemory = NoMemory

-- Where the store told its content, the sink gained on Done exactly the line that tells what is found of it, else nothing or a prefix of it.
pub record FindsStore (status : Status) (holds : Option Content) (before now : Option (List ℕ)) : Type 0 where
  pub ends : (status ≡ Done) ⊎ ((status ≡ WriteFault) ⊎ ((status ≡ StoreFault) ⊎ (status ≡ NoMemory)))
  pub done : status ≡ Done → IfSome holds (λ content. (checked : Checked) × IsChecked content checked
      × Appends before now (check_line checked))
  pub prefix : IfSome holds (λ content. Appends before now []
      ⊎ ((checked : Checked) × IsChecked content checked × GainsPrefix before now (check_line checked)))

-- The store was checked, and is as it was, also for a crash.
pub record ChecksStore (status : Status) (before now : Moment) : Type 0 where
  pub found : FindsStore status before.holds before.gained now.gained
  pub holds : now.holds ≡ before.holds
  pub moments : now.moments ≡ before.moments
  -- the first ones were read of what there is to read, in that order, and nothing else
  pub ranges : IfSome before.holds (λ content. ReadsFrontOf (MayBeRead content) before.reads now.reads)

-- where the command line is that of a check
abbrev pub IfCheck : Option CommandLine → Type 0 → Type 0
IfCheck None P = Unit {0}
IfCheck (Some (Run settings)) P = Unit {0}
IfCheck (Some (Demo number)) P = Unit {0}
IfCheck (Some Check) P = P
