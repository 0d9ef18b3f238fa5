-- What the arguments ask for, once they were read.
use Rattle.std.proofs.Common.{◌≡◌, Option, None, Some, Result, Ok, Err, List, ℕ, ◌⊎◌, inl, inr, refl, sym, ◌≤◌, ◌<◌, length, subst}
use Rattle.std.specs.Prelude.{IfOk, IfSome}
use Rattle.wu_base.specs.declared.memory.NoMemory.{NoMemory as Unread}
use Rattle.wu_options.specs.CommandLines.{command_line_of}
use Rattle.wu_options.specs.declared.command_lines.CommandLine.{CommandLine}
use Rattle.wu_options.specs.declared.command_lines.Settings.{Settings}
use Rattle.wumpus_run.specs.Ended.{asked_for}
use Rattle.wumpus_run.specs.Session.{Completes, IsUsage, Moment}
use Rattle.wumpus_run.specs.declared.statuses.Status.{Status}
use Rattle.wumpus_run.specs.declared.statuses.Status.TheVariants.{Done, InputTooLong, NoMemory, Usage}

-- a line that is asked for is that of the arguments
pub line-asked : (read : Result (Option CommandLine) Unread) (arguments : List (List ℕ)) (asked line : CommandLine) → asked ≡ line
    → IfOk read (λ found. found ≡ command_line_of arguments) → Ok asked ≡ asked_for read → Some line ≡ command_line_of arguments
line-asked (Ok (Some found)) arguments asked line same is e = cc
line-asked (Ok None) arguments asked line same is e = absurd (cc e)
line-asked (Err unread) arguments asked line same is e = absurd (cc e)

-- Where none is asked for, there was no memory, or the arguments ask for nothing.
pub by-unasked : (P : Status → Type 0) (read : Result (Option CommandLine) Unread) (arguments : List (List ℕ)) (status : Status)
    → IfOk read (λ found. found ≡ command_line_of arguments) → Err status ≡ asked_for read
    → P NoMemory → (None ≡ command_line_of arguments → P Usage) → P status
by-unasked P (Ok (Some line)) arguments status is e memory usage = absurd (cc e)
by-unasked P (Ok None) arguments status is e memory usage = let same : Usage ≡ status = cc e in subst P same (usage is)
by-unasked P (Err unread) arguments status is e memory usage = let same : NoMemory ≡ status = cc e in subst P same memory

-- so the status is that of usage, unless there was no memory
pub usage-unread : (line : Option CommandLine) → IsUsage NoMemory line
usage-unread line = record { only = λ e. absurd (cc e); comes = λ none. inr refl }

pub usage-unasked : (line : Option CommandLine) → None ≡ line → IsUsage Usage line
usage-unasked line none = record { only = λ e. sym none; comes = λ e. inl refl }

-- without memory nothing is promised of the status
pub completes-unread : (settings : Option Settings) (before : Moment) → Completes NoMemory settings before
completes-unread None before = tt
completes-unread (Some told) before = by-left before.left
  where
    by-left : (left : Option (List ℕ))
        → IfSome left (λ input. (length input ≤ told.max_input → (NoMemory ≡ Done) ⊎ (NoMemory ≡ NoMemory))
        × (told.max_input < length input → (NoMemory ≡ InputTooLong) ⊎ (NoMemory ≡ NoMemory)))
    by-left None = tt
    by-left (Some input) = (λ short. inr refl, λ long. inr refl)

-- nor is it without settings
pub completes-unasked : (status : Status) (settings : Option Settings) (before : Moment) → settings ≡ None → Completes status settings
    before
completes-unasked status None before none = tt
completes-unasked status (Some told) before none = absurd (cc none)
