-- What a session saves, item by item, and what a crash leaves of that.
use Rattle.std.specs.Prelude.{◌≡◌, ◌⊎◌, ℕ, List, [], ◌∷◌, ◌++◌, map, Option}
use Rattle.std.specs.List.{flat_map}
use Rattle.wu_outside.specs.Content.{Content}
use Rattle.wu_outside.specs.Crash.{Moments}
use Rattle.wu_outside.specs.Surviving.{IsLeft}
use Rattle.wu_layout.specs.Invariants.{SomeOf}
use Rattle.wu_script.specs.Commands.{Entry, Flush, Save, Stat, Work}
use Rattle.wu_script.specs.Said.{Asks, Happens, IsRefused, Operates, Said, SaysNothing, said_of}
use Rattle.wu_query.specs.States.{State}
use Rattle.wu_engine.specs.Crashes.{IsImageOf}
use Rattle.wu_engine.specs.States.{rested_state, saved_state}
use Rattle.wumpus_run.specs.declared.statuses.Status.{Status}
use Rattle.wumpus_run.specs.declared.statuses.Status.TheVariants.{NoMemory, StoreFault, Spent}
use Rattle.wumpus_run.specs.Replies.{Met, Rules, met, state_after}
use Rattle.wumpus_run.specs.Session.{Moment}

-- ---- what is saved

-- the state that a save leaves to the next session
abbrev pub left_to_next : State → State
left_to_next s = rested_state (saved_state s)

-- what is saved for an item in that state: something by a save alone
abbrev pub saved_for : State → Said → List State
saved_for s (Happens event text) = []
saved_for s (Asks uid question) = []
saved_for s (Operates Flush) = []
saved_for s (Operates (Work units)) = []
saved_for s (Operates Stat) = []
saved_for s (Operates Save) = left_to_next s ∷ []
saved_for s (IsRefused why) = []
saved_for s SaysNothing = []

-- each item of a script with the state that it meets
abbrev pub met_by : Rules → State → List Entry → List Met
met_by rules s entries = met rules.flush_at s (map (said_of rules.read) entries)

-- what the items save, in turn
abbrev pub saved_by : Rules → State → List Entry → List State
saved_by rules s entries = flat_map (λ m. saved_for m.0 m.1) (met_by rules s entries)

-- what is saved while a session goes on: the state that it starts from was, then what its items save, and at its end what they leave
abbrev pub saves_of : Rules → State → List Entry → List State
saves_of rules s entries = s ∷ saved_by rules s entries ++ left_to_next (state_after rules s entries) ∷ []

-- an image of one of these states
abbrev pub IsImageOfOne : List State → Content → Type 0
IsImageOfOne saves content = SomeOf (λ saved. IsImageOf saved content) saves

-- the last state of a list, and the first one, where there is one
abbrev pub last_or : State → List State → State
last_or s [] = s
last_or s (one ∷ others) = last_or one others

abbrev pub first_or : State → List State → State
first_or s [] = s
first_or s (one ∷ others) = one

-- the last save that these items made, or the start
abbrev pub last_save : Rules → State → List Entry → State
last_save rules s entries = last_or s (saved_by rules s entries)

-- the first save of these items, or the one after them
abbrev pub next_save : Rules → State → List Entry → State
next_save rules s entries = first_or (left_to_next (state_after rules s entries)) (saved_by rules s entries)

-- what was saved by the time that these items were reached, and those were to come: the state that the session started from, what the
-- reached items save, and, where no other is to come, what they leave
abbrev pub saves_so_far : Rules → State → List Entry → List Entry → List State
saves_so_far rules s reached [] = saves_of rules s reached
saves_so_far rules s reached (entry ∷ later) = s ∷ saved_by rules s reached

-- what a crash could leave at the start, or an image of one of these saves
abbrev pub IsLeftOrSaved : Option Moments → List State → Content → Type 0
IsLeftOrSaved old saves content = IsLeft old content ⊎ IsImageOfOne saves content

-- ---- no session

-- the session ended before it took a byte of its input: there was no memory, the store failed, or it leaves no room
pub record IsUnopened (status : Status) (before now : Moment) : Type 0 where
  pub ended : (status ≡ NoMemory) ⊎ ((status ≡ StoreFault) ⊎ ((next : ℕ) × (status ≡ Spent next)))
  pub untaken : now.left ≡ before.left
  pub unwritten : now.gained ≡ before.gained
