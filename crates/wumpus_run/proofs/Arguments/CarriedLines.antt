-- What was done of what a command line asks for.
use Rattle.std.proofs.Common.{◌≡◌, ℕ, List, Option, None, Some, Result, Ok, Err, sym, ◌∙◌, refl, subst, ⊎_elim}
use Rattle.std.specs.Prelude.{IfOk, option_and_then}
use Rattle.wu_base.specs.declared.memory.NoMemory.{NoMemory as Unread}
use Rattle.wu_options.specs.CommandLines.{command_line_of}
use Rattle.wu_options.specs.declared.command_lines.CommandLine.{CommandLine}
use Rattle.wu_options.specs.declared.command_lines.CommandLine.TheVariants.{Run, Demo, Check}
use Rattle.wu_options.specs.declared.command_lines.Settings.{Settings}
use Rattle.wumpus_run.specs.declared.statuses.Status.{Status}
use Rattle.wumpus_run.specs.declared.statuses.Status.TheVariants.{Usage, WriteFault, NoMemory, StoreFault}
use Rattle.wumpus_run.specs.Checks.{ChecksStore}
use Rattle.wumpus_run.specs.Courses.{TakesCourse}
use Rattle.wumpus_run.specs.Demo.{IsShown}
use Rattle.wumpus_run.specs.Ended.{CallsBroken, asked_for, IsOutcome, KeepsBlobs, OpensOnly}
use Rattle.wumpus_run.specs.Outcomes.{CarriesOut}
use Rattle.wumpus_run.specs.Session.{FromImage, IsCounted, Moment, session_settings}
use Rattle.wumpus_run.proofs.Arguments.AskedLines.{by-unasked, completes-unread, line-asked, usage-unasked, usage-unread}
use Rattle.wumpus_run.proofs.Courses.CoursesAtEnd.{course_unread}
use Rattle.wumpus_run.proofs.DemoLemmas.{nothing-shown}
use Rattle.wumpus_run.proofs.Endings.RootRoom.{has_room}
use Rattle.wumpus_run.proofs.Endings.TakenAtEnd.{Completes-all}
use Rattle.wumpus_run.proofs.Arguments.UnaskedSessions.{IsUnasked, alone_unasked, alone_unread, blobs_alone, check_only, demo_only}
use Rattle.wumpus_run.proofs.Arguments.UnaskedSessions.{unasked_session, unchecked, unread_session, usage_only}

none_told : {X : Type 0} (x : X) → Some x ≡ None → ⊥
none_told x e = absurd (cc)

-- a session
pub carries_run : (settings : Settings) (status : Status) (before now : Moment) → IsOutcome status (Some settings) before now
    → FromImage before.holds (λ s. TakesCourse s status (Some settings) before now) → KeepsBlobs before now
    → OpensOnly status (Some settings) before now → CallsBroken status before.holds
    → CarriesOut (Some (Run settings)) status before now
carries_run settings status before now session course blobs opened broken = record {
  usage = record { only = λ e. absurd (none_told settings (session.usage e)); comes = λ none. absurd (none_told (Run settings) none) };
  demo = tt;
  check = tt;
  session = session;
  course = course;
  blobs = blobs;
  opened = opened;
  broken = broken;
  complete = λ read write store s image room.
      Completes-all settings status before now
      (record {
        usage = λ e. none_told settings (session.usage e);
        read = λ e. read (session.read_fault.rose e);
        write = λ e. write (session.write_fault.rose e);
        store = λ e. store (session.store_fault.rose e);
        damaged = session.damaged s image;
        spent = λ next e. has_room before.holds s image room next (session.spent.only next e);
      }) session.all_taken session.too_long;
}

no_usage : {status is : Status} → (is ≡ Usage → ⊥) → status ≡ is → status ≡ Usage → ⊥
no_usage other same e = other (sym same ∙ e)

-- a demonstration: of source and store nothing changed
pub carries_demo : (number : ℕ) (status : Status) (before now : Moment) → now.left ≡ before.left → now.most_asked ≡ before.most_asked
    → now.read_faults ≡ before.read_faults → now.holds ≡ before.holds → now.moments ≡ before.moments
    → now.store_faults ≡ before.store_faults → IsShown number status before.gained now.gained
    → IsCounted WriteFault status before.write_faults now.write_faults → CarriesOut (Some (Demo number)) status before now
carries_demo number status before now left asked read holds moments store shown write =
    let is : IsUnasked status before now = demo_only number status before now asked read store shown write in
    record {
      usage = record {
        only = λ e. absurd (⊎_elim (λ done. no_usage (λ f. (cc)) done e)
            (λ rest. ⊎_elim (λ fault. no_usage (λ f. (cc)) fault e) (λ memory. no_usage (λ f. (cc)) memory e) rest) shown.ends);
        comes = λ none. absurd (none_told (Demo number) none);
      };
      demo = shown;
      check = tt;
      session = unasked_session status before now is;
      course = λ s image. tt;
      blobs = blobs_alone before now holds;
      opened = alone_unasked status before now left holds moments;
      broken = λ content held blob e. absurd (is.damaged blob e);
      complete = λ read write store s image room. tt;
    }

-- a check of the store
pub carries_check : (status : Status) (before now : Moment) → now.left ≡ before.left → now.most_asked ≡ before.most_asked
    → now.read_faults ≡ before.read_faults → ChecksStore status before now
    → IsCounted WriteFault status before.write_faults now.write_faults
    → IsCounted StoreFault status before.store_faults now.store_faults → CarriesOut (Some Check) status before now
carries_check status before now left asked read checks write store =
    let is : IsUnasked status before now = check_only status before now asked read checks.found write store in
    record {
      usage = record {
        only = λ e. absurd (⊎_elim (λ done. no_usage (λ f. (cc)) done e)
            (λ rest. ⊎_elim (λ fault. no_usage (λ f. (cc)) fault e)
            (λ last. ⊎_elim (λ fault. no_usage (λ f. (cc)) fault e) (λ memory. no_usage (λ f. (cc)) memory e) last) rest)
            checks.found.ends);
        comes = λ none. absurd (none_told Check none);
      };
      demo = tt;
      check = checks;
      session = unasked_session status before now is;
      course = λ s image. tt;
      blobs = blobs_alone before now checks.holds;
      opened = alone_unasked status before now left checks.holds checks.moments;
      broken = λ content held blob e. absurd (is.damaged blob e);
      complete = λ read write store s image room. tt;
    }

-- nothing is asked for
pub carries_usage : (before : Moment) → CarriesOut None Usage before before
carries_usage before = record {
  usage = usage-unasked None refl;
  demo = tt;
  check = tt;
  session = unasked_session Usage before before (usage_only before);
  course = λ s image. tt;
  blobs = blobs_alone before before refl;
  opened = alone_unasked Usage before before refl refl refl;
  broken = λ content held blob e. absurd (cc);
  complete = λ read write store s image room. tt;
}

-- there was no memory to read the arguments
pub carries_unread : (line : Option CommandLine) (before : Moment) → CarriesOut line NoMemory before before
carries_unread line before =
    let settings = option_and_then session_settings line in
    record {
      usage = usage-unread line;
      demo = nothing-shown line before.gained;
      check = unchecked line before;
      session = unread_session settings before;
      course = λ s image. course_unread s settings before;
      blobs = blobs_alone before before refl;
      opened = alone_unread NoMemory settings before;
      broken = λ content held blob e. absurd (cc);
      complete = λ read write store s image room. completes-unread settings before;
    }

-- ---- of the arguments

module _ (read : Result (Option CommandLine) Unread) (arguments : List (List ℕ))
    (is : IfOk read (λ found. found ≡ command_line_of arguments))
  where
    -- what a line asks for that they spell
    pub carries_line : (line : CommandLine) (status : Status) (before now : Moment) → Ok line ≡ asked_for read
        → CarriesOut (Some line) status before now → CarriesOut (command_line_of arguments) status before now
    carries_line line status before now asked =
        subst (λ (l : Option CommandLine). CarriesOut l status before now) (line-asked read arguments line line refl is asked)

    -- or nothing
    pub carries_nothing : (status : Status) (before : Moment) → Err status ≡ asked_for read
        → CarriesOut (command_line_of arguments) status before before
    carries_nothing status before unasked =
        by-unasked (λ (ended : Status). CarriesOut (command_line_of arguments) ended before before) read arguments status is unasked
        (carries_unread (command_line_of arguments) before)
        (λ none. subst (λ (l : Option CommandLine). CarriesOut l Usage before before) none (carries_usage before))
