-- What a session did, by what source, sink and store told before and after it.
use Rattle.std.specs.Prelude.{◌≡◌, ℕ, ◌+◌, ◌≤◌, ◌<◌, ◌⊎◌, ◌↔◌, List, [], ◌∷◌, length, take, max, ⊤, Option, Some, None, IfSome, IsSome}
use Rattle.std.specs.Prelude.{option_and_then, option_map}
use Rattle.std.specs.Io.KnownBytes.{Appends, Consumes}
use Rattle.wu_base.specs.declared.limits.TheConstants.{SPENT_AT, BLOBS_SPENT_AT, READ_MAX}
use Rattle.wu_outside.specs.Content.{Content}
use Rattle.wu_outside.specs.Crash.{Moments, settle}
use Rattle.wu_outside.specs.Faults.{Rose}
use Rattle.wu_outside.specs.declared.ranges.ReadRange.{ReadRange}
use Rattle.wu_outside.specs.declared.traits.Source as sources
use Rattle.wu_outside.specs.declared.traits.Sink as sinks
use Rattle.wu_outside.specs.declared.traits.Store as stores
use Rattle.wu_outside.specs.Gains.{GainsPrefix}
use Rattle.wu_script.specs.Holding.{GivesAtMost, but_last}
use Rattle.wu_script.specs.Items.{items_of, whole_items_of}
use Rattle.wu_options.specs.CommandLines.{command_line_of}
use Rattle.wu_options.specs.declared.command_lines.CommandLine.{CommandLine}
use Rattle.wu_options.specs.declared.command_lines.CommandLine.TheVariants.{Run, Demo, Check}
use Rattle.wu_options.specs.declared.command_lines.Settings.{Settings}
use Rattle.wumpus_run.specs.declared.statuses.Status.{Status}
use Rattle.wumpus_run.specs.declared.statuses.Status.TheVariants.{Done, Usage, ReadFault, WriteFault, NoMemory, InputTooLong, StoreFault}
use Rattle.wumpus_run.specs.declared.statuses.Status.TheVariants.{Damaged, Spent}
use Rattle.wu_layout.specs.Layouts.{Layout}
use Rattle.wu_query.specs.States.{State}
use Rattle.wu_engine.specs.Naming.{HasNoStray, IsNamed}
use Rattle.wu_engine.specs.States.{rested_state, saved_state}
use Rattle.wu_engine.specs.Opening.{HoldsImage, IsSpentAt, Opens}
use Rattle.wu_script.specs.Commands.{Entry, Flush, Save, Work}
use Rattle.wu_script.specs.Said.{Happens, Operates, Said, said_of}
use Rattle.wumpus_run.specs.Replies.{Rules, AreRules, output_of, state_after}
use Rattle.wumpus_run.specs.Taking.{TakesExactly, TakesAtMost, GainsAtLeast}

-- What source, sink and store tell at a moment, where they tell it.
pub record Moment : Type 0 where
  -- of the source: the bytes that it has left, how many its last read gave and the most that one asked for, and how many reads failed
  pub left : Option (List ℕ)
  pub last_read : ℕ
  pub most_asked : ℕ
  pub read_faults : ℕ
  -- of the sink: the bytes that it gained, and how many writes failed
  pub gained : Option (List ℕ)
  pub write_faults : ℕ
  -- of the store: what it holds, which ranges were read, what a crash leaves, and how many calls failed
  pub holds : Option Content
  pub reads : Option (List ReadRange)
  pub moments : Option Moments
  pub store_faults : ℕ

abbrev pub moment : {I O D : Type 0} → sources.Ghosts I → sinks.Ghosts O → stores.Ghosts D → I → O → D → Moment
moment Source Sink Store source sink store = record {
  left = Source.left source;
  last_read = Source.last_read source;
  most_asked = Source.most_asked source;
  read_faults = Source.faults source;
  gained = Sink.gained sink;
  write_faults = Sink.faults sink;
  holds = Store.holds store;
  reads = Store.reads store;
  moments = Store.moments store;
  store_faults = Store.faults store;
}

-- ---- which session

-- the settings of a session, where the command line is that of `run`
abbrev pub session_settings : CommandLine → Option Settings
session_settings (Run settings) = Some settings
session_settings (Demo number) = None
session_settings Check = None

-- the settings of the session that the arguments ask for
abbrev pub settings_of : List (List ℕ) → Option Settings
settings_of arguments = option_and_then session_settings (command_line_of arguments)

-- What the arguments have no use for is as it was: all where they ask for nothing, source and store at a demonstration, the source at a
-- check.
abbrev pub LeavesAlone : {I O D : Type 0} → Option CommandLine → (source source_now : I) (sink sink_now : O) (store store_now : D) → Type 0
LeavesAlone None source source_now sink sink_now store store_now =
    (source_now ≡ source) × (sink_now ≡ sink) × (store_now ≡ store)
LeavesAlone (Some (Run settings)) source source_now sink sink_now store store_now = Unit {0}
LeavesAlone (Some (Demo number)) source source_now sink sink_now store store_now = (source_now ≡ source) × (store_now ≡ store)
LeavesAlone (Some Check) source source_now sink sink_now store store_now = source_now ≡ source

-- `Usage` comes only where the arguments ask for nothing, and then it does come, unless there was no memory to read them.
pub record IsUsage (status : Status) (line : Option CommandLine) : Type 0 where
  pub only : status ≡ Usage → line ≡ None
  pub comes : line ≡ None → (status ≡ Usage) ⊎ (status ≡ NoMemory)

-- ---- a store that can't be opened

-- Where what the store holds can't be opened, as it is damaged or leaves no room, it holds the same afterwards, and no byte was taken or
-- written.
abbrev pub StaysShut : Option Settings → Moment → Moment → Type 0
StaysShut settings before now = IfSome settings (λ told. IfSome before.holds (λ content. ((read : List ReadRange) → Opens content read → ⊥)
    → (now.left ≡ before.left) × (now.gained ≡ before.gained) × (now.holds ≡ before.holds)))

-- ---- a session that took nothing

-- that is so unless a byte was taken, or there was none
abbrev pub UnlessTaken : Option (List ℕ) → Option (List ℕ) → Type 0 → Type 0
UnlessTaken before now IsSo = IfSome before (λ input. 0 < length input → now ≡ before → IsSo)

-- Where no byte was taken of an input that has one, the store was opened at most: it holds what it held, and was synced once or not.
abbrev pub OpensAlone : Moment → Moment → Type 0
OpensAlone before now = UnlessTaken before.left now.left
    ((now.holds ≡ before.holds) × ((now.moments ≡ before.moments) ⊎ (now.moments ≡ option_map settle before.moments)))

-- ---- what was taken, and which fault came

-- An object's fault ends a session exactly where its count of faults rose.
pub record IsCounted (fault status : Status) (before now : ℕ) : Type 0 where
  pub rose : status ≡ fault → Rose before now
  pub calm : (status ≡ fault → ⊥) → now ≡ before

-- No read that didn't fail asked for more than READ_MAX bytes at once, also of a long text.
abbrev pub AsksBriefly : Moment → Moment → Type 0
AsksBriefly before now = now.most_asked ≤ max before.most_asked READ_MAX

-- The source gave at most one byte past the limit.
abbrev pub StaysWithin : Option Settings → Moment → Moment → Type 0
StaysWithin settings before now = IfSome settings (λ told. TakesAtMost (told.max_input + 1) before.left now.left)

-- The input is called too long exactly where as many bytes as it may have were taken, and one more.
abbrev pub IsTooLong : Status → Option Settings → Moment → Moment → Type 0
IsTooLong status settings before now = IfSome settings (λ told. IfSome before.left (λ input.
    (status ≡ InputTooLong) ↔ TakesExactly (told.max_input + 1) (Some input) now.left))

-- ---- the state at the start

-- that is so from each state of which the store held an image
abbrev pub FromImage : Option Content → (State → Type 0) → Type 0
FromImage holds IsSo = (s : State) → HoldsImage holds s → IsSo s

-- there are addresses and blobs left for a session
abbrev pub HasRoom : State → Type 0
HasRoom s = (s.layout.next < SPENT_AT) × (s.layout.blob < BLOBS_SPENT_AT)

-- `Spent` comes only where the store's root leaves no room, with the number by which it doesn't, and then it does come where a session is
-- asked for, unless the store failed or there was no memory.
pub record IsSpent (status : Status) (settings : Option Settings) (holds : Option Content) : Type 0 where
  pub only : (next : ℕ) → status ≡ Spent next → IfSome holds (λ content. IsSpentAt content next)
  pub comes : IfSome settings (λ told. IfSome holds (λ content. (next : ℕ) → IsSpentAt content next
      → (status ≡ Spent next) ⊎ ((status ≡ StoreFault) ⊎ (status ≡ NoMemory))))

-- ---- what was saved

-- the store holds an image of the state that the items leave, saved and without a job
abbrev pub SavesAll : State → Option Settings → Moment → Moment → Type 0
SavesAll start settings before now = IfSome settings (λ told. IfSome before.left (λ input. (rules : Rules) → AreRules before.holds told rules
    → HoldsImage now.holds (rested_state (saved_state (state_after rules start (items_of input))))))

-- each blob of the store is one that this image names, or it was there before, and the image before didn't name it
abbrev pub LeavesNoStray : State → Option Settings → Moment → Moment → Type 0
LeavesNoStray start settings before now = IfSome settings (λ told. IfSome before.left (λ input. (rules : Rules) → AreRules before.holds told rules
    → HasNoStray start.layout before.holds (rested_state (saved_state (state_after rules start (items_of input)))).layout now.holds))

-- Below the first layout's next blob each that it doesn't name is as it was: none is touched that an earlier session left.
abbrev pub KeepsStrays : Layout → Option Content → Option Content → Type 0
KeepsStrays start None now = ⊤
KeepsStrays start (Some first) None = ⊥
KeepsStrays start (Some first) (Some now) =
    (blob : ℕ) → blob < start.blob → (IsNamed start blob → ⊥) → now.blobs blob ≡ first.blobs blob

-- the most blobs that are drawn for an item
abbrev pub drawn_by : Said → ℕ
drawn_by (Happens event text) = 2
drawn_by (Operates Flush) = 1
drawn_by (Operates (Work units)) = units
drawn_by (Operates Save) = 2
drawn_by _ = 0

-- the most that are drawn for the first of these items, or for the save at the end, where there is none
abbrev pub drawn_next : Rules → List Entry → ℕ
drawn_next rules [] = 2
drawn_next rules (entry ∷ later) = drawn_by (said_of rules.read entry)

-- Each blob that the store has is one that the layout names, or it was there at first, and the first layout didn't name it, or it has one of
-- so many numbers from the layout's next one on.
abbrev pub HasOnlyDrawn : Layout → Option Content → Layout → ℕ → Option Content → Type 0
HasOnlyDrawn start None layout most now = ⊤
HasOnlyDrawn start (Some first) layout most None = ⊥
HasOnlyDrawn start (Some first) layout most (Some now) =
    (blob : ℕ) → IsSome (now.blobs blob) → IsNamed layout blob
    ⊎ ((IsSome (first.blobs blob) × (IsNamed start blob → ⊥)) ⊎ ((layout.blob ≤ blob) × (blob < layout.blob + most)))

-- ---- what was written, from a state on

-- The input has at most as many bytes as it may, and none is left.
abbrev pub TakesAll : Option Settings → Moment → Moment → Type 0
TakesAll settings before now =
    IfSome settings (λ told. IfSome before.left (λ input. (length input ≤ told.max_input) × (now.left ≡ Some [])))

-- The sink gained exactly the output for the items of the input.
abbrev pub AnswersAll : State → Option Settings → Moment → Moment → Type 0
AnswersAll start settings before now = IfSome settings (λ told. IfSome before.left (λ input.
    (rules : Rules) → AreRules before.holds told rules → Appends before.gained now.gained (output_of rules start (items_of input))))

-- The sink gained a prefix of the output for the items of the input.
abbrev pub AnswersPrefix : State → Option Settings → Moment → Moment → Type 0
AnswersPrefix start settings before now = IfSome settings (λ told. IfSome before.left (λ input.
    (rules : Rules) → AreRules before.holds told rules → GainsPrefix before.gained now.gained (output_of rules start (items_of input))))

-- The sink gained a prefix of the output for the items of the bytes that the source gave, and so nothing where it gave none.
abbrev pub AnswersTaken : State → Option Settings → Moment → Moment → Type 0
AnswersTaken start settings before now = IfSome settings (λ told. (given : List ℕ) × Consumes before.left now.left given
    × ((rules : Rules) → AreRules before.holds told rules → GainsPrefix before.gained now.gained (output_of rules start (items_of given))))

-- The sink gained exactly the output for the whole items of the bytes that the source gave, without the one byte too many.
abbrev pub AnswersWholeItems : State → Option Settings → Moment → Moment → Type 0
AnswersWholeItems start settings before now = IfSome settings (λ told. (given : List ℕ) × Consumes before.left now.left given
    × ((rules : Rules) → AreRules before.holds told rules
    → Appends before.gained now.gained (output_of rules start (whole_items_of (take told.max_input given)))))

-- The sink gained at least the output for the whole items of the bytes that the source gave, without those of its last read, which are at
-- most READ_MAX, unless it gave none.
abbrev pub AnswersAllButOneRead : State → Option Settings → Moment → Moment → Type 0
AnswersAllButOneRead start settings before now = IfSome settings (λ told. (given : List ℕ) × Consumes before.left now.left given
    × GivesAtMost READ_MAX before.left now.left before.last_read now.last_read
    × ((rules : Rules) → AreRules before.holds told rules
    → GainsAtLeast before.gained now.gained (output_of rules start (whole_items_of (but_last now.last_read given)))))

-- No reply was held back where a session ended early.
abbrev pub HoldsNothingBack : State → Status → Option Settings → Moment → Moment → Type 0
HoldsNothingBack start Done settings before now = Unit {0}
HoldsNothingBack start Usage settings before now = Unit {0}
HoldsNothingBack start ReadFault settings before now = AnswersWholeItems start settings before now
HoldsNothingBack start InputTooLong settings before now = AnswersWholeItems start settings before now
HoldsNothingBack start WriteFault settings before now = AnswersAllButOneRead start settings before now
HoldsNothingBack start NoMemory settings before now = AnswersAllButOneRead start settings before now
HoldsNothingBack start StoreFault settings before now = AnswersAllButOneRead start settings before now
HoldsNothingBack start (Damaged blob) settings before now = AnswersAllButOneRead start settings before now
HoldsNothingBack start (Spent next) settings before now = (now.left ≡ before.left) × (now.gained ≡ before.gained)

-- An input within the limit is answered, and a longer one called too long, unless there was no memory.
abbrev pub Completes : Status → Option Settings → Moment → Type 0
Completes status settings before = IfSome settings (λ told. IfSome before.left (λ input.
    (length input ≤ told.max_input → (status ≡ Done) ⊎ (status ≡ NoMemory))
    × (told.max_input < length input → (status ≡ InputTooLong) ⊎ (status ≡ NoMemory))))

-- ---- how it ended

-- the exit status of the program
abbrev pub code_of : Status → ℕ
code_of Done = 0
code_of Usage = 1
code_of ReadFault = 2
code_of WriteFault = 3
code_of NoMemory = 4
code_of InputTooLong = 5
code_of StoreFault = 6
code_of (Damaged blob) = 7
code_of (Spent next) = 8
