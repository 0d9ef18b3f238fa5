-- The course of a session: one cut of its items, and by that cut what it replied, what it read, what it put, and what a crash leaves.
use Rattle.std.specs.Prelude.{◌≡◌, ◌⊎◌, ℕ, List, [], ◌∷◌, ◌++◌, Option, None, Some, IfSome, IsSome, option_map}
use Rattle.std.specs.Io.KnownBytes.{Appends}
use Rattle.std.specs.Option.{option_to_list}
use Rattle.wu_outside.specs.Content.{Content}
use Rattle.wu_outside.specs.Crash.{Moments}
use Rattle.wu_outside.specs.Surviving.{IsLeft, LeavesNow, LeavesOnly}
use Rattle.wu_outside.specs.declared.ranges.ReadRange.{ReadRange}
use Rattle.wu_script.specs.Commands.{Entry}
use Rattle.wu_script.specs.Items.{items_of}
use Rattle.wu_options.specs.declared.command_lines.Settings.{Settings}
use Rattle.wu_query.specs.States.{State}
use Rattle.wu_engine.specs.Crashes.{IsImageOf, IsImageOfEither}
use Rattle.wu_engine.specs.Opening.{AreReadAtOpening, Opens}
use Rattle.wumpus_run.specs.declared.statuses.Status.{Status}
use Rattle.wumpus_run.specs.declared.statuses.Status.TheVariants.{Done, Usage, ReadFault, WriteFault, NoMemory, InputTooLong, StoreFault}
use Rattle.wumpus_run.specs.declared.statuses.Status.TheVariants.{Damaged, Spent}
use Rattle.wumpus_run.specs.Crashes.{IsLeftOrSaved, IsUnopened, last_save, left_to_next, met_by, next_save, saves_so_far}
use Rattle.wumpus_run.specs.Permitted.{AreReadInTurn}
use Rattle.wumpus_run.specs.Replies.{AreRules, Rules, output_of, state_after}
use Rattle.wumpus_run.specs.Session.{HasOnlyDrawn, Moment, drawn_next}

-- ---- the cut

-- Where it stopped, by how it ended: on Done after all items; where reading failed or the input is too long, between two, before all or
-- after all; where writing failed, in one; out of memory, anywhere; where the store failed, in one before a byte of its reply, or at the
-- opening, before all, or in the last save, after all; without room, before all. The line of Usage says nothing, and that of Damaged no
-- more than that no byte of a reply was sent: Usage can't come with settings, nor Damaged over an image (`session` of `run`: `usage`,
-- `damaged`).
abbrev pub StopsAt : Status → List Entry → Option Entry → List Entry → List ℕ → Type 0
StopsAt Done answered under_way later part = (under_way ≡ None) × (later ≡ [])
StopsAt Usage answered under_way later part = Unit {0}
StopsAt ReadFault answered under_way later part = under_way ≡ None
StopsAt WriteFault answered under_way later part = IsSome under_way
StopsAt NoMemory answered under_way later part = Unit {0}
StopsAt InputTooLong answered under_way later part = under_way ≡ None
StopsAt StoreFault answered under_way later part = (part ≡ []) × (under_way ≡ None → (answered ≡ []) ⊎ (later ≡ []))
StopsAt (Damaged blob) answered under_way later part = part ≡ []
StopsAt (Spent next) answered under_way later part = (answered ≡ []) × (under_way ≡ None)

-- the items whose whole reply was written: the one under way too, where nothing of its reply is missing
abbrev pub acknowledged_items : List Entry → Option Entry → List ℕ → List Entry
acknowledged_items answered None missing = answered
acknowledged_items answered (Some entry) [] = answered ++ entry ∷ []
acknowledged_items answered (Some entry) (byte ∷ missing) = answered

-- and those after them
abbrev pub unacknowledged_items : Option Entry → List Entry → List ℕ → List Entry
unacknowledged_items None later missing = later
unacknowledged_items (Some entry) later [] = later
unacknowledged_items (Some entry) later (byte ∷ missing) = entry ∷ later

-- The cut of a script's items: the first were answered, and the next one may have been under way. By it the sink gained the replies to
-- those that were answered, of the reply to the one under way a part, and nothing of a later one's.
pub record Reaches (rules : Rules) (start : State) (items : List Entry) (status : Status) (before now : Option (List ℕ)) : Type 0 where
  pub answered : List Entry
  pub under_way : Option Entry
  pub later : List Entry
  pub all : items ≡ answered ++ (option_to_list under_way ++ later)
  pub part : List ℕ
  pub missing : List ℕ
  pub reply : output_of rules (state_after rules start answered) (option_to_list under_way) ≡ part ++ missing
  pub gained : Appends before now (output_of rules start answered ++ part)
  pub stops : StopsAt status answered under_way later part

-- ---- the opening

-- The store was opened. After the session a crash leaves an image of the last save whose whole reply was written, or of the next one.
pub record Opened (content : Content) (rules : Rules) (start : State) (told untold : List Entry) (opening : List ReadRange)
    (moments : Option Moments) : Type 0 where
  pub reads : Opens content opening
  pub leaves : LeavesNow moments
      (IsImageOfEither (last_save rules start told) (next_save rules (state_after rules start told) untold))

-- The opening stopped and with it the session, before it took or wrote a byte, and so before all items: it read no more than an opening
-- that fails may read, in its order, and a crash leaves only what could be left before.
pub record Unopened (content : Content) (status : Status) (before now : Moment) (answered : List Entry) (under_way : Option Entry)
    (opening : List ReadRange) : Type 0 where
  pub stopped : IsUnopened status before now
  pub none : answered ≡ []
  pub nor_begun : under_way ≡ None
  pub reads : AreReadAtOpening content opening
  pub leaves : LeavesNow now.moments (IsLeft before.moments)

-- ---- the course

-- A session of these items over a store with that content, from a state of which that is an image: all by the one cut.
pub record Course (content : Content) (rules : Rules) (start : State) (items : List Entry) (status : Status) (before now : Moment)
    : Type 0 where
  -- how far it came, and what it replied
  pub came : Reaches rules start items status before.gained now.gained
  -- First was read what an opening reads, and then, in turn, what the items read that were answered and the one under way: for the later
  -- ones nothing is.
  pub opening : List ReadRange
  pub read : List ReadRange
  pub for_items : AreReadInTurn (met_by rules start (came.answered ++ option_to_list came.under_way)) read
  pub in_turn : now.reads ≡ option_map (λ earlier. earlier ++ (opening ++ read)) before.reads
  -- The store has no blob more but those that the state names which the answered items left, and those that may have been drawn for the
  -- next item, or for the save at the end: in all, numbers from the next one on.
  pub drawn : HasOnlyDrawn start.layout before.holds (state_after rules start came.answered).layout
      (drawn_next rules (option_to_list came.under_way ++ came.later)) now.holds
  -- A crash in the session leaves what one could leave before it, or an image of a save that was made so far; one after it the last save
  -- whose whole reply the sink has, or the next one, and after Done what the items leave.
  pub crash : LeavesOnly before.moments now.moments
      (IsLeftOrSaved before.moments (saves_so_far rules start (came.answered ++ option_to_list came.under_way) came.later))
  pub opened : Opened content rules start (acknowledged_items came.answered came.under_way came.missing)
      (unacknowledged_items came.under_way came.later came.missing) opening now.moments
      ⊎ Unopened content status before now came.answered came.under_way opening
  pub durable : status ≡ Done → LeavesNow now.moments (IsImageOf (left_to_next (state_after rules start items)))

-- a session from that state on, over what the store held, took such a course, whatever reads the texts of expressions
abbrev pub TakesCourse : State → Status → Option Settings → Moment → Moment → Type 0
TakesCourse start status settings before now = IfSome settings (λ told. IfSome before.left (λ input. IfSome before.holds (λ content.
    (rules : Rules) → AreRules before.holds told rules → Course content rules start (items_of input) status before now)))
