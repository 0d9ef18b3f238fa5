-- What a session makes of the export of a user's view.
use Rattle.std.specs.Prelude.{◌≡◌, ℕ, ◌^◌, ◌<◌, List, ◌++◌, map, Some}
use Rattle.std.specs.List.{All, AllByRecursion, flat_map}
use Rattle.wu_tree.specs.FileSystems.{FileSystem}
use Rattle.wu_export.specs.Exports.{export_of}
use Rattle.wu_script.specs.declared.types.Reply.TheVariants.{Ok as Accepted}
use Rattle.wu_script.specs.Commands.{Entry}
use Rattle.wu_script.specs.Items.{items_of}
use Rattle.wu_script.specs.Replies.{reply_bytes}
use Rattle.wu_script.specs.Said.{Said, Happens, Asks, Operates, IsRefused, SaysNothing, said_of}
use Rattle.wu_query.specs.States.{State}
use Rattle.wu_query.specs.View.{view_of}
use Rattle.wu_engine.specs.States.{first_state}
use Rattle.wumpus_run.specs.Replies.{Rules, met, output_of, reply_to, state_after}

-- each node's number is within 32 bits, as the numbers of a script are
abbrev pub HasShortNumbers : FileSystem → Type 0
HasShortNumbers fs = AllByRecursion (λ node. node.0 < 2 ^ 32) fs.nodes

-- the script that is exported to the user
abbrev pub exported : State → ℕ → List ℕ
exported s uid = export_of (view_of s uid)

-- ---- what it makes

-- the item is an event, and the state that it meets accepts it
abbrev pub IsAcceptedIn : State → Said → Type 0
IsAcceptedIn s (Happens event text) = reply_to s (Happens event text) ≡ Some Accepted
IsAcceptedIn s (Asks uid question) = ⊥
IsAcceptedIn s (Operates operation) = ⊥
IsAcceptedIn s (IsRefused why) = ⊥
IsAcceptedIn s SaysNothing = ⊥

-- the items are events, each of which is accepted in its turn
abbrev pub AreAccepted : Rules → State → List Entry → Type 0
AreAccepted rules s entries = All (λ m. IsAcceptedIn m.0 m.1) (met rules.flush_at s (map (said_of rules.read) entries))

-- From the root directory alone each item of her export is an event that is accepted, and then she has the view that she has in that
-- state.
pub record IsRebuilt (rules : Rules) (s : State) (uid : ℕ) : Type 0 where
  pub accepted : AreAccepted rules first_state (items_of (exported s uid))
  pub view : view_of (state_after rules first_state (items_of (exported s uid))) uid ≡ view_of s uid

-- ---- what is told after it

-- the item is a query of that user, or a line that is refused, empty or a comment
abbrev pub IsQueryOf : ℕ → Said → Type 0
IsQueryOf uid (Asks asker question) = asker ≡ uid
IsQueryOf uid (IsRefused why) = Unit {0}
IsQueryOf uid SaysNothing = Unit {0}
IsQueryOf uid (Happens event text) = ⊥
IsQueryOf uid (Operates operation) = ⊥

-- the items of a script are queries of that user
abbrev pub AreQueriesOf : Rules → ℕ → List ℕ → Type 0
AreQueriesOf rules uid script = All (λ entry. IsQueryOf uid (said_of rules.read entry)) (items_of script)

-- `ok` for each of the items
abbrev pub oks : List Entry → List ℕ
oks entries = flat_map (λ entry. reply_bytes Accepted) entries

-- A session from nothing whose input is her export, and then any queries of hers, is answered by `ok` for each item of the export, and
-- then by what these queries are answered in that state.
abbrev pub IsToldTheSame : Rules → State → ℕ → List ℕ → Type 0
IsToldTheSame rules s uid queries =
    output_of rules first_state (items_of (exported s uid ++ queries))
    ≡ oks (items_of (exported s uid)) ++ output_of rules s (items_of queries)
