-- A demonstration: what it counts over the replies of its session, and the line that tells it.
use Rattle.std.specs.Prelude.{◌≡◌, ℕ, ◌+◌, ◌*◌, ◌≤◌, ◌⊎◌, true, List, [], ◌∷◌, ◌++◌, map, length}
use Rattle.std.specs.Prelude.{codes, decimal, Option, Some, None}
use Rattle.std.specs.Io.KnownBytes.{Appends}
use Rattle.wu_base.specs.declared.limits.TheConstants.{BLOBS_SPENT_AT, FLUSH_DEFAULT, SPENT_AT, WORK_MAX}
use Rattle.wu_outside.specs.Gains.{GainsPrefix}
use Rattle.wu_outside.specs.Known.{KnownSource}
use Rattle.wu_outside.specs.Stored.{PlainBlobs, plain_content}
use Rattle.wu_ask.specs.declared.Answered.{Answered}
use Rattle.wu_ask.specs.declared.Answered.TheVariants as answers
use Rattle.wu_script.specs.declared.types.Reply.{Reply}
use Rattle.wu_script.specs.declared.types.Reply.TheVariants.{Ok as Accepted, Answered as Told, Refused, Worked, Stat}
use Rattle.wu_script.specs.Holding.{Held, Follows}
use Rattle.wu_script.specs.Items.{items_of}
use Rattle.wu_script.specs.Said.{Reading, IsReading, said_of}
use Rattle.wu_demo.specs.Script.{demo_script}
use Rattle.wu_options.specs.declared.command_lines.CommandLine.{CommandLine}
use Rattle.wu_options.specs.declared.command_lines.CommandLine.TheVariants.{Run, Demo, Check}
use Rattle.wu_query.specs.States.{State}
use Rattle.wu_engine.specs.declared.engines.Engine.{Engine}
use Rattle.wu_engine.specs.Stands.{Stands}
use Rattle.wu_engine.specs.States.{first_state}
use Rattle.wumpus_run.specs.declared.demo.TheConstants.{SCRIPT_MAX}
use Rattle.wumpus_run.specs.declared.statuses.Status.{Status}
use Rattle.wumpus_run.specs.declared.statuses.Status.TheVariants.{Done, WriteFault, NoMemory}
use Rattle.wumpus_run.specs.declared.tallies.Tally.{Tally}
use Rattle.wumpus_run.specs.Replies.{Met, met, reply_to}

-- ---- what is counted

abbrev pub no_reply : Tally
no_reply = record { commands = 0; oks = 0; refused = 0; counts = 0; hits = 0 }

-- of the answers only the hits of `count` are summed
abbrev pub with_answer : Tally → Answered → Tally
with_answer tally (answers.Count hits files) = record tally { counts = tally.counts + 1; hits = tally.hits + hits }
with_answer tally answered = tally

abbrev pub with_reply : Tally → Reply → Tally
with_reply tally Accepted = record tally { oks = tally.oks + 1 }
with_reply tally (Refused why) = record tally { refused = tally.refused + 1 }
with_reply tally (Told answered) = with_answer tally answered
with_reply tally (Worked worked) = tally
with_reply tally (Stat stat) = tally

-- with the reply to an item, if it has one
abbrev pub counted : Tally → Option Reply → Tally
counted tally None = tally
counted tally (Some reply) = with_reply (record tally { commands = tally.commands + 1 }) reply

-- with the replies to items
abbrev pub counted_all : Tally → List Met → Tally
counted_all tally [] = tally
counted_all tally (m ∷ ms) = counted_all (counted tally (reply_to m.0 m.1)) ms

-- the same of the items of a script, from a state on
abbrev pub tally_from : Reading → Tally → State → List ℕ → Tally
tally_from read tally s bytes = counted_all tally (met FLUSH_DEFAULT s (map (said_of read) (items_of bytes)))

-- the numbers of a script's session from the root directory alone
abbrev pub script_tally : Reading → List ℕ → Tally
script_tally read bytes = tally_from read no_reply first_state bytes

-- whatever the texts say as expressions, that is counted in the script's session
abbrev pub IsTallyOf : List ℕ → Tally → Type 0
IsTallyOf script tally = (read : Reading) → IsReading read → tally ≡ script_tally read script

-- ---- the line

abbrev pub tally_line : ℕ → Tally → List ℕ
tally_line number tally = codes "demo\t" ++ decimal number ++ 9 ∷ [] ++ decimal tally.commands ++ 9 ∷ [] ++ decimal tally.oks ++ 9 ∷ []
    ++ decimal tally.refused ++ 9 ∷ [] ++ decimal tally.counts ++ 9 ∷ [] ++ decimal tally.hits ++ 10 ∷ []

abbrev pub demo_line : Reading → ℕ → List ℕ
demo_line read number = tally_line number (script_tally read (demo_script number))

abbrev pub IsDemoLine : ℕ → List ℕ → Type 0
IsDemoLine number line = (read : Reading) → IsReading read → line ≡ demo_line read number

-- ---- bounds

-- each number is at most that of the items, and the sum of the hits has as many summands
pub record IsFew (most : ℕ) (tally : Tally) : Type 0 where
  pub commands : tally.commands ≤ most
  pub oks : tally.oks ≤ most
  pub refused : tally.refused ≤ most
  pub counts : tally.counts ≤ most
  pub hits : tally.hits ≤ 18446744073709551616 * most

-- ---- the session under way

-- It goes on: for each byte that is held or may still be given there are addresses, blobs and flushes left, and each item that was counted
-- took one or more of the bytes.
pub record IsReady (source : KnownSource) (reader : Held) (engine : Engine) (tally : Tally) : Type 0 where
  pub goes_on : engine.ended ≡ None
  pub flush_at : engine.parts.flush_at ≡ FLUSH_DEFAULT
  pub addresses : engine.space.next + 3 * (length reader.bytes + reader.spare) ≤ SPENT_AT + 3 * SCRIPT_MAX
  pub blobs : engine.parts.next_blob + WORK_MAX * (length reader.bytes + reader.spare) ≤ BLOBS_SPENT_AT + WORK_MAX * SCRIPT_MAX
  pub flushes : engine.parts.flushes + WORK_MAX * (length reader.bytes + reader.spare) ≤ BLOBS_SPENT_AT + WORK_MAX * SCRIPT_MAX
  pub items : ℕ
  pub few : IsFew items tally
  pub left : items + (length reader.bytes + reader.spare) ≤ SCRIPT_MAX
  pub follows : Follows source.ended source.last_read reader
  pub at_end : reader.ended ≡ true → source.left ≡ []

-- Engine and store stand for a state, and what was counted so far, with what the bytes that are left add from that state on, is what is
-- counted of the whole script.
pub record IsUnderWay (script : List ℕ) (source : KnownSource) (reader : Held) (engine : Engine) (store : PlainBlobs) (tally : Tally)
    : Type 0 where
  pub state : State
  pub stands : Stands engine (Some (plain_content store)) state
  pub sums : (read : Reading) → IsReading read → tally_from read tally state (reader.bytes ++ source.left) ≡ script_tally read script

-- ---- how a demonstration ends

-- It is done, or the line couldn't be written, or there was no memory. On Done the sink gained exactly the line, and else a prefix of it.
pub record IsShown (number : ℕ) (status : Status) (before now : Option (List ℕ)) : Type 0 where
  pub ends : (status ≡ Done) ⊎ ((status ≡ WriteFault) ⊎ (status ≡ NoMemory))
  pub done : status ≡ Done → (read : Reading) → IsReading read → Appends before now (demo_line read number)
  pub prefix : (read : Reading) → IsReading read → GainsPrefix before now (demo_line read number)

-- where the command line is that of a demonstration
abbrev pub IfDemo : Option CommandLine → (ℕ → Type 0) → Type 0
IfDemo None P = Unit {0}
IfDemo (Some (Run settings)) P = Unit {0}
IfDemo (Some (Demo number)) P = P number
IfDemo (Some Check) P = Unit {0}
