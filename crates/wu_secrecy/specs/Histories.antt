-- Sessions and histories of sessions, seen from outside, and the courses that they took.
use Rattle.std.specs.Prelude.{◌≡◌, ℕ, true, List, [], ◌∷◌, ◌++◌, take, slice_get, Option, Some, IfSome, option_map}
use Rattle.std.specs.Io.KnownBytes.{Appends}
use Rattle.std.specs.List.{flat_map}
use Rattle.wu_script.specs.Items.{items_of}
use Rattle.wu_script.specs.Said.{IsReading, Reading}
use Rattle.wu_options.specs.declared.command_lines.Settings.{Settings}
use Rattle.wu_query.specs.States.{State}
use Rattle.wumpus_run.specs.declared.statuses.Status.{Status}
use Rattle.wumpus_run.specs.Courses.{Reaches}
use Rattle.wumpus_run.specs.Replies.{Rules, state_after}
use Rattle.wumpus_run.specs.Session.{Moment}
use Rattle.wu_secrecy.specs.Turns.{Turn, asked_by, asked_in, is_asked_by, output_in, told_to, turn_of, turns_of}

-- ---- a session

-- A session: the state from which it went on, the settings that its arguments ask for, how it ended, and what source, sink and store
-- told before and after it.
pub record Session : Type 0 where
  pub start : State
  pub settings : Option Settings
  pub status : Status
  pub before : Moment
  pub now : Moment

abbrev pub session_from : State → Option Settings → Status → Moment → Moment → Session
session_from start settings status before now =
    record { start = start; settings = settings; status = status; before = before; now = now }

-- How far it came: the turns that were answered, and the one that was under way when it ended, with the part of its reply that was sent.
pub record Course : Type 0 where
  pub answered : List Turn
  pub under_way : Option Turn
  pub part : List ℕ

abbrev pub rules_with : Reading → Settings → Rules
rules_with read told = record { read = read; flush_at = told.flush_at }

-- The session took this course: its input was answered so far, from its start on, and its sink gained these replies and that part.
pub record IsCourseOf (read : Reading) (session : Session) (course : Course) : Type 0 where
  pub told : Settings
  pub asked_for : session.settings ≡ Some told
  pub input : List ℕ
  pub given : session.before.left ≡ Some input
  pub came : Reaches (rules_with read told) session.start (items_of input) session.status session.before.gained session.now.gained
  pub answered : course.answered ≡ turns_of (rules_with read told) session.start came.answered
  pub under_way : course.under_way
      ≡ option_map (turn_of read (state_after (rules_with read told) session.start came.answered)) came.under_way
  pub part : course.part ≡ came.part

-- what the sink gained
abbrev pub Sends : Session → Course → Type 0
Sends session course = Appends session.before.gained session.now.gained (output_in course.answered ++ course.part)

-- the bytes are the first ones of the reply
abbrev pub IsPartOf : List ℕ → List ℕ → Type 0
IsPartOf part reply = (missing : List ℕ) × (reply ≡ part ++ missing)

-- ---- a history

-- sessions one after the other, and the course of each
abbrev pub AreCoursesOf : Reading → List Session → List Course → Type 0
AreCoursesOf read [] [] = Unit {0}
AreCoursesOf read [] (course ∷ courses) = ⊥
AreCoursesOf read (session ∷ sessions) [] = ⊥
AreCoursesOf read (session ∷ sessions) (course ∷ courses) = IsCourseOf read session course × AreCoursesOf read sessions courses

-- all turns that were answered
abbrev pub turns_in : List Course → List Turn
turns_in courses = flat_map (λ course. course.answered) courses

-- ---- noninterference

-- Where the first n of her queries are the same, and over equal views, the first n replies are the same bytes.
abbrev pub TellAlike : ℕ → List Turn → List Turn → Type 0
TellAlike uid one other =
    (n : ℕ) → take n (asked_by uid one) ≡ take n (asked_by uid other) → take n (told_to uid one) ≡ take n (told_to uid other)

-- What was sent of the reply to a query of hers that was under way is the beginning of what she was told elsewhere, where her query of
-- that place is the same, and over an equal view.
abbrev pub BeginsAlike : ℕ → Course → List Turn → Type 0
BeginsAlike uid course other = (turn : Turn) → course.under_way ≡ Some turn → is_asked_by uid turn.entry ≡ true
    → (place : ℕ) → slice_get (asked_by uid other) place ≡ Some (asked_in uid turn)
    → IfSome (slice_get (told_to uid other) place) (IsPartOf course.part)

-- ---- what `run` answered

-- a session that was asked for, over a source and a store that tell what they have, has a course
abbrev pub HasCourse : Session → Type 0
HasCourse session = IfSome session.settings (λ told. IfSome session.before.left (λ input. IfSome session.before.holds (λ content.
    (read : Reading) → IsReading read → (course : Course) × IsCourseOf read session course)))
