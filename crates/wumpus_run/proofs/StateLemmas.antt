-- What the items of a script meet are states.
use Rattle.std.proofs.Common.{ℕ, List, [], ◌∷◌, map}
use Rattle.std.specs.List.{All, AllByRecursion}
use Rattle.std.proofs.lemmas.List.Elements.{All-from_recursion}
use Rattle.wu_engine.proofs.SavedStates.{saved_kept}
use Rattle.wu_script.specs.Commands.{Operation, Flush, Work, Stat, Save}
use Rattle.wu_script.specs.Said.{Reading, Said, Happens, Asks, Operates, IsRefused, SaysNothing, said_of}
use Rattle.wu_script.specs.Items.{items_of}
use Rattle.wu_script.proofs.EventLemmas.{TellsEvent, script_tells}
use Rattle.wu_query.specs.States.{State, IsState}
use Rattle.wu_engine.proofs.FlushedStates.{flushed_kept}
use Rattle.wu_engine.proofs.KeptStates.{state_kept}
use Rattle.wu_engine.proofs.WorkedStates.{worked_kept}
use Rattle.wumpus_run.specs.Replies.{after, after_operation, met, last_state}
use Rattle.wumpus_run.proofs.ShortTexts.{IsShort, script_short}

operated_kept : (s : State) (operation : Operation) → IsState s → IsState (after_operation s operation)
operated_kept s Flush is = flushed_kept s is
operated_kept s (Work units) is = worked_kept units s is
operated_kept s Stat is = is
operated_kept s Save is = saved_kept s is

stays : (flush_at : ℕ) (s : State) (said : Said) → TellsEvent said → IsShort said → IsState s → IsState (after flush_at s said)
stays flush_at s (Happens event text) event_is short is = state_kept flush_at s event text is event_is short
stays flush_at s (Asks uid question) event_is short is = is
stays flush_at s (Operates operation) event_is short is = operated_kept s operation is
stays flush_at s (IsRefused why) event_is short is = is
stays flush_at s SaysNothing event_is short is = is

all_met : (flush_at : ℕ) (s : State) (saids : List Said) → AllByRecursion TellsEvent saids → AllByRecursion IsShort saids → IsState s
    → AllByRecursion (λ m. IsState m.0) (met flush_at s saids)
all_met flush_at s [] tell short is = tt
all_met flush_at s (said ∷ saids) tell short is =
    (is, all_met flush_at (after flush_at s said) saids tell.1 short.1 (stays flush_at s said tell.0 short.0 is))

left : (flush_at : ℕ) (s : State) (saids : List Said) → AllByRecursion TellsEvent saids → AllByRecursion IsShort saids → IsState s
    → IsState (last_state flush_at s saids)
left flush_at s [] tell short is = is
left flush_at s (said ∷ saids) tell short is =
    left flush_at (after flush_at s said) saids tell.1 short.1 (stays flush_at s said tell.0 short.0 is)

-- every state that the items of a script meet, from a state on, and the one that they leave
pub met_states : (flush_at : ℕ) (read : Reading) (s : State) (bytes : List ℕ) → IsState s
    → All (λ m. IsState m.0) (met flush_at s (map (said_of read) (items_of bytes)))
met_states flush_at read s bytes is =
    All-from_recursion (λ m. IsState m.0) (met flush_at s (map (said_of read) (items_of bytes)))
    (all_met flush_at s (map (said_of read) (items_of bytes)) (script_tells read bytes) (script_short read bytes) is)

pub left_state : (flush_at : ℕ) (read : Reading) (s : State) (bytes : List ℕ) → IsState s
    → IsState (last_state flush_at s (map (said_of read) (items_of bytes)))
left_state flush_at read s bytes is =
    left flush_at s (map (said_of read) (items_of bytes)) (script_tells read bytes) (script_short read bytes) is
