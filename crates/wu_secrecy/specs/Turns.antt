-- A session as turns: items in the order in which they were answered, each with the state that it met and its reply.
use Rattle.std.specs.Prelude.{ℕ, Bool, false, ◌==◌, List, [], ◌∷◌, map, filter}
use Rattle.std.specs.List.{flat_map}
use Rattle.wu_script.specs.Commands.{Entry, Asking}
use Rattle.wu_script.specs.Said.{Reading, said_of}
use Rattle.wu_query.specs.States.{State}
use Rattle.wu_query.specs.View.{Shown, view_of}
use Rattle.wumpus_run.specs.Replies.{Rules, after, said_bytes}

-- an item of a script, the state that it meets, and the bytes that answer it
pub record Turn : Type 0 where
  pub state : State
  pub entry : Entry
  pub reply : List ℕ

-- an item in a state, with its whole reply
abbrev pub turn_of : Reading → State → Entry → Turn
turn_of read s entry = record { state = s; entry = entry; reply = said_bytes s (said_of read entry) }

-- the turns of items from a state on: each meets the state that those before it leave
abbrev pub turns_of : Rules → State → List Entry → List Turn
turns_of rules s [] = []
turns_of rules s (entry ∷ entries) =
    turn_of rules.read s entry ∷ turns_of rules (after rules.flush_at s (said_of rules.read entry)) entries

-- the bytes of all replies, in turn
abbrev pub output_in : List Turn → List ℕ
output_in turns = flat_map (λ turn. turn.reply) turns

-- ---- what is a user's

-- Whether the item is a query of that user, answered or refused. An event, an operation, and a line that can't be read as a query are
-- nobody's.
abbrev pub is_asked_by : ℕ → Entry → Bool
is_asked_by uid (Asking asker wish) = asker == uid
is_asked_by uid _ = false

-- the turns of her queries
abbrev pub hers : ℕ → List Turn → List Turn
hers uid turns = filter (λ turn. is_asked_by uid turn.entry) turns

-- a query, and what its user could search when it was answered
pub record Asked : Type 0 where
  pub query : Entry
  pub view : List Shown

abbrev pub asked_in : ℕ → Turn → Asked
asked_in uid turn = record { query = turn.entry; view = view_of turn.state uid }

-- what she asked, and over which views, in turn
abbrev pub asked_by : ℕ → List Turn → List Asked
asked_by uid turns = map (asked_in uid) (hers uid turns)

-- what she was told, in turn
abbrev pub told_to : ℕ → List Turn → List (List ℕ)
told_to uid turns = map (λ turn. turn.reply) (hers uid turns)

-- ---- without the others

-- her queries among items, without what anybody else did
abbrev pub purged : ℕ → List Entry → List Entry
purged uid entries = filter (is_asked_by uid) entries
