-- Which items of a script can't change what a user may search.
use Rattle.std.specs.Prelude.{ℕ}
use Rattle.wu_script.specs.Said.{Asks, Happens, IsRefused, Operates, Said, SaysNothing}
use Rattle.wu_query.specs.States.{State}
use Rattle.wu_secrecy.specs.Unseen.{IsUnseen}

-- only an event can
abbrev pub IsUnseenItem : ℕ → State → Said → Type 0
IsUnseenItem uid s (Happens event text) = IsUnseen s.tree uid event
IsUnseenItem uid s (Asks asker question) = Unit {0}
IsUnseenItem uid s (Operates operation) = Unit {0}
IsUnseenItem uid s (IsRefused why) = Unit {0}
IsUnseenItem uid s SaysNothing = Unit {0}
