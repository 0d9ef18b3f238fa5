-- A run after one that was done, beside that one going on.
use Rattle.std.specs.Prelude.{◌≡◌, ℕ}
use Rattle.wu_script.specs.Items.{items_of}
use Rattle.wu_script.specs.Said.{Reading}
use Rattle.wu_query.specs.States.{State}
use Rattle.wu_query.specs.View.{view_of}
use Rattle.wumpus_run.specs.Replies.{state_after}
use Rattle.wu_secrecy.specs.Histories.{rules_with}
use Rattle.wu_secrecy.specs.Lives.{Run}
use Rattle.wu_secrecy.specs.Turns.{asked_by, told_to, turns_of}

-- the state that the items of a run's input leave
abbrev pub state_left : Reading → Run → State → State
state_left read run s = state_after (rules_with read run.told) s (items_of run.input)

-- The input of the next run, which goes on from t, is answered to her as if the run from s had gone on with it: her queries meet the same
-- views, their replies are the same bytes, and in the end she has the same view. The limits of memory may differ.
pub record IsAsIfGoneOn (read : Reading) (run : Run) (s : State) (next : Run) (t : State) (uid : ℕ) : Type 0 where
  pub asked : asked_by uid (turns_of (rules_with read next.told) t (items_of next.input))
      ≡ asked_by uid (turns_of (rules_with read run.told) (state_left read run s) (items_of next.input))
  pub told : told_to uid (turns_of (rules_with read next.told) t (items_of next.input))
      ≡ told_to uid (turns_of (rules_with read run.told) (state_left read run s) (items_of next.input))
  pub view : view_of (state_after (rules_with read next.told) t (items_of next.input)) uid
      ≡ view_of (state_after (rules_with read run.told) (state_left read run s) (items_of next.input)) uid
