-- The life of a machine: runs over one store, each of which finds it as the last one left it, or as a crash then left it.
use Rattle.std.specs.Prelude.{◌≡◌, ◌⊎◌, ℕ, List, [], ◌∷◌, Some}
use Rattle.std.specs.List.{AllByRecursion}
use Rattle.wu_outside.specs.Content.{Content}
use Rattle.wu_outside.specs.Crash.{AreAlike, LeftNow, Moments, starts_with}
use Rattle.wu_outside.specs.Surviving.{LeavesNow, LeavesOnly}
use Rattle.wu_layout.specs.Invariants.{SomeOf}
use Rattle.wu_script.specs.Items.{items_of}
use Rattle.wu_script.specs.Said.{Reading}
use Rattle.wu_options.specs.declared.command_lines.Settings.{Settings}
use Rattle.wu_query.specs.States.{State}
use Rattle.wu_engine.specs.Crashes.{IsImageOf}
use Rattle.wu_engine.specs.Opening.{HoldsImage}
use Rattle.wumpus_run.specs.declared.statuses.Status.{Status}
use Rattle.wumpus_run.specs.declared.statuses.Status.TheVariants.{Done}
use Rattle.wumpus_run.specs.Courses.{Reaches, TakesCourse, acknowledged_items, unacknowledged_items}
use Rattle.wumpus_run.specs.Crashes.{IsUnopened, last_save, left_to_next, next_save, saves_of}
use Rattle.wumpus_run.specs.Replies.{state_after}
use Rattle.wumpus_run.specs.Session.{FromImage, Moment}
use Rattle.wu_secrecy.specs.Histories.{AreCoursesOf, Course, Session, rules_with, session_from}

-- ---- runs

-- A run over a source, a sink and a store that tell what they have: its settings and its input, how it ended, what they told before and
-- after it, and what a crash may leave of the store then.
pub record Run : Type 0 where
  pub told : Settings
  pub input : List ℕ
  pub status : Status
  pub before : Moment
  pub now : Moment
  pub old : Moments
  pub new : Moments

-- What the contract of `run` says of it in the clause `course`; and that its store tells alike what it holds and what a crash leaves. A run
-- that is killed is taken to be one whose source, sink and store fail from then on: nothing here proves that it is.
pub record IsRun (run : Run) : Type 0 where
  pub given : run.before.left ≡ Some run.input
  pub old : run.before.moments ≡ Some run.old
  pub new : run.now.moments ≡ Some run.new
  pub course : FromImage run.before.holds (λ s. TakesCourse s run.status (Some run.told) run.before run.now)
  pub alike : AreAlike run.now.holds (Some run.new)

-- ---- lives

-- the next run finds the store as the last one left it
pub record GoesOn (last next : Run) : Type 0 where
  pub holds : next.before.holds ≡ last.now.holds
  pub moments : next.old ≡ last.new

-- or it finds what a crash after the last one left: any content that one may leave then, and nothing else is left of it
pub record Restarts (last next : Run) : Type 0 where
  pub content : Content
  pub left : LeftNow last.new content
  pub holds : next.before.holds ≡ Some content
  pub moments : next.old ≡ starts_with content

abbrev pub AreInTurn : Run → List Run → Type 0
AreInTurn last [] = Unit {0}
AreInTurn last (next ∷ later) = (GoesOn last next ⊎ Restarts last next) × AreInTurn next later

-- the first run finds an image of that state, and a crash then would leave none but such
pub record Begins (first : State) (run : Run) : Type 0 where
  pub image : HoldsImage run.before.holds first
  pub alone : LeavesNow (Some run.old) (IsImageOf first)

-- a life from that state on
abbrev pub IsLife : State → List Run → Type 0
IsLife first [] = Unit {0}
IsLife first (run ∷ later) = Begins first run × AreInTurn run later × AllByRecursion IsRun (run ∷ later)

-- ---- from which states its sessions go on

-- a run, and the state from which it went on
abbrev pub Started : Type 0
Started = Run × State

-- The state is the last save whose whole reply the sink has, by how far the run came, or the next one.
pub record IsAcknowledged (read : Reading) (started : Started) (s : State) : Type 0 where
  pub came : Reaches (rules_with read started.0.told) started.1 (items_of started.0.input) started.0.status started.0.before.gained
      started.0.now.gained
  pub is : (s ≡ last_save (rules_with read started.0.told) started.1 (acknowledged_items came.answered came.under_way came.missing))
      ⊎ (s ≡ next_save (rules_with read started.0.told)
      (state_after (rules_with read started.0.told) started.1 (acknowledged_items came.answered came.under_way came.missing))
      (unacknowledged_items came.under_way came.later came.missing))

-- the state that a run saved last: what its items leave where it was done, else the last save whose reply its sink has, or the next one
abbrev pub IsSavedBy : Reading → Started → State → Type 0
IsSavedBy read started s =
    (started.0.status ≡ Done) × (s ≡ left_to_next (state_after (rules_with read started.0.told) started.1 (items_of started.0.input)))
    ⊎ (started.0.status ≡ Done → ⊥) × IsAcknowledged read started s

-- A state that a run may find after these, the last one first: one that was saved by the last, or, where that couldn't open the store,
-- one that it might have found itself.
abbrev pub MayBeFound : Reading → State → List Started → State → Type 0
MayBeFound read first [] s = s ≡ first
MayBeFound read first (last ∷ earlier) s =
    IsSavedBy read last s ⊎ IsUnopened last.0.status last.0.before last.0.now × MayBeFound read first earlier s

-- each run went on from such a state, of which its store held an image; `earlier` are the runs before, the last one first
abbrev pub AreStarts : Reading → State → List Started → List Run → List State → Type 0
AreStarts read first earlier [] [] = Unit {0}
AreStarts read first earlier [] (s ∷ starts) = ⊥
AreStarts read first earlier (run ∷ runs) [] = ⊥
AreStarts read first earlier (run ∷ runs) (s ∷ starts) =
    HoldsImage run.before.holds s × MayBeFound read first earlier s × AreStarts read first ((run, s) ∷ earlier) runs starts

-- the sessions of the runs, each from its state on
abbrev pub sessions_of : List Run → List State → List Session
sessions_of [] starts = []
sessions_of (run ∷ runs) [] = []
sessions_of (run ∷ runs) (s ∷ starts) =
    session_from s (Some run.told) run.status run.before run.now ∷ sessions_of runs starts

-- A life as a history: for each run a state from which it went on, and the course that it took.
pub record History (read : Reading) (first : State) (runs : List Run) : Type 0 where
  pub starts : List State
  pub from : AreStarts read first [] runs starts
  pub courses : List Course
  pub took : AreCoursesOf read (sessions_of runs starts) courses

-- ---- a crash while a run goes on

-- an image of a state that the run might have found, or of one that it saves
abbrev pub IsFoundOrSaved : Reading → State → List Started → Started → Content → Type 0
IsFoundOrSaved read first earlier started content =
    (s : State)
    × (MayBeFound read first earlier s
    ⊎ SomeOf (λ saved. s ≡ saved) (saves_of (rules_with read started.0.told) started.1 (items_of started.0.input)))
    × IsImageOf s content

-- Where a crash before it would leave images of such states alone, so it is with a crash while it goes on.
abbrev pub SurvivesStop : Reading → State → List Started → Started → Type 0
SurvivesStop read first earlier started =
    ((content : Content) → LeftNow started.0.old content → (s : State) × MayBeFound read first earlier s × IsImageOf s content)
    → LeavesOnly (Some started.0.old) (Some started.0.new) (IsFoundOrSaved read first earlier started)
