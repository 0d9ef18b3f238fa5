-- Which ranges of the store the items of a script read, in turn.
use Rattle.std.specs.Prelude.{◌≡◌, List, [], ◌∷◌, ◌++◌}
use Rattle.std.specs.List.{AllByRecursion}
use Rattle.wu_outside.specs.declared.ranges.ReadRange.{ReadRange}
use Rattle.wu_script.specs.Commands.{Flush, Save, Stat, Work}
use Rattle.wu_script.specs.Said.{Asks, Happens, IsRefused, Operates, Said, SaysNothing}
use Rattle.wu_query.specs.Permitted.{AreReadForQuery}
use Rattle.wu_query.specs.States.{State}
use Rattle.wu_engine.specs.Permitted.{MayReadForWork}
use Rattle.wumpus_run.specs.Replies.{Met}

-- the ranges that are read for an item in a state, in this order: only a query and background work read
abbrev pub AreReadFor : State → Said → List ReadRange → Type 0
AreReadFor s (Happens event text) read = read ≡ []
AreReadFor s (Asks uid question) read = AreReadForQuery s uid question read
AreReadFor s (Operates Flush) read = read ≡ []
AreReadFor s (Operates (Work units)) read = AllByRecursion (MayReadForWork s.layout units) read
AreReadFor s (Operates Stat) read = read ≡ []
AreReadFor s (Operates Save) read = read ≡ []
AreReadFor s (IsRefused why) read = read ≡ []
AreReadFor s SaysNothing read = read ≡ []

-- item by item, each in the state that it meets
abbrev pub AreReadInTurn : List Met → List ReadRange → Type 0
AreReadInTurn [] read = read ≡ []
AreReadInTurn (m ∷ later) read =
    (first rest : List ReadRange) × AreReadFor m.0 m.1 first × AreReadInTurn later rest × (read ≡ first ++ rest)
