-- The replies to a script, and the state that it leaves.
use Rattle.std.specs.Prelude.{◌≡◌, ℕ, List, [], ◌∷◌, map, Option, Some, None, IsSome}
use Rattle.std.specs.List.{flat_map}
use Rattle.wu_outside.specs.Content.{Content}
use Rattle.wu_script.specs.declared.types.Why.TheVariants.{Tree}
use Rattle.wu_script.specs.declared.types.Reply.{Reply}
use Rattle.wu_script.specs.declared.types.Reply.TheVariants.{Ok as Accepted, Answered, Refused, Worked, Stat as Told}
use Rattle.wu_script.specs.Commands.{Entry, Operation, Flush, Work, Stat, Save}
use Rattle.wu_script.specs.Said.{Reading, IsReading, Said, Happens, Asks, Operates, IsRefused, SaysNothing, said_of}
use Rattle.wu_script.specs.Replies.{reply_bytes}
use Rattle.wu_options.specs.declared.command_lines.Settings.{Settings}
use Rattle.wu_query.specs.States.{State}
use Rattle.wu_query.specs.View.{view_of}
use Rattle.wu_query.specs.Answer.{answer}
use Rattle.wu_engine.specs.States.{step, after_event, flushed_state, saved_state, worked_state}
use Rattle.wu_engine.specs.Reports.{stat_of, worked_in}
use Rattle.wu_engine.specs.Stands.{verdict_of}
use Rattle.wu_engine.specs.declared.verdicts.Verdict.{Verdict}
use Rattle.wu_engine.specs.declared.verdicts.Verdict.TheVariants as verdicts

-- ---- of one item

-- the reply to an event
abbrev pub verdict_reply : Verdict → Reply
verdict_reply verdicts.Made = Accepted
verdict_reply (verdicts.Refused refusal) = Refused (Tree refusal)

-- the reply to an operation in a state; that to background work is of the state after it
abbrev pub operation_reply : State → Operation → Reply
operation_reply s Flush = Accepted
operation_reply s (Work units) = Worked (worked_in (worked_state units s))
operation_reply s Stat = Told (stat_of s)
operation_reply s Save = Accepted

-- the reply to what an item says in a state; an empty line and a comment have none
abbrev pub reply_to : State → Said → Option Reply
reply_to s (Happens event text) = Some (verdict_reply (verdict_of (step s event text)))
reply_to s (Asks uid question) = Some (Answered (answer (view_of s uid) question))
reply_to s (Operates operation) = Some (operation_reply s operation)
reply_to s (IsRefused why) = Some (Refused why)
reply_to s SaysNothing = None

-- the state after an operation
abbrev pub after_operation : State → Operation → State
after_operation s Flush = flushed_state s
after_operation s (Work units) = worked_state units s
after_operation s Stat = s
after_operation s Save = saved_state s

-- the state after it, where memory is full at so many postings; only an accepted event and an operation change it
abbrev pub after : ℕ → State → Said → State
after flush_at s (Happens event text) = after_event flush_at s event text
after flush_at s (Asks uid question) = s
after flush_at s (Operates operation) = after_operation s operation
after flush_at s (IsRefused why) = s
after flush_at s SaysNothing = s

abbrev pub bytes_of : Option Reply → List ℕ
bytes_of None = []
bytes_of (Some reply) = reply_bytes reply

-- the bytes that answer it
abbrev pub said_bytes : State → Said → List ℕ
said_bytes s said = bytes_of (reply_to s said)

-- ---- of a script, where memory is full at so many postings

-- an item with the state that it meets
abbrev pub Met : Type 0
Met = State × Said

-- each item with the state that it meets, which the items before it leave
abbrev pub met : ℕ → State → List Said → List Met
met flush_at s [] = []
met flush_at s (said ∷ saids) = (s, said) ∷ met flush_at (after flush_at s said) saids

-- the replies to items
abbrev pub replies_to : ℕ → State → List Said → List ℕ
replies_to flush_at s saids = flat_map (λ m. said_bytes m.0 m.1) (met flush_at s saids)

-- the state that items leave
abbrev pub left_by : ℕ → State → List Met → State
left_by flush_at s [] = s
left_by flush_at s (m ∷ ms) = left_by flush_at (after flush_at m.0 m.1) ms

abbrev pub last_state : ℕ → State → List Said → State
last_state flush_at s saids = left_by flush_at s (met flush_at s saids)

-- What items and states leave open: what each text says as an expression, and at how many postings memory is full.
pub record Rules : Type 0 where
  pub read : Reading
  pub flush_at : ℕ

-- The rules of a session over a store that tells what it holds; there is one such reading, since each text has one. Of the output over
-- any other store nothing is said.
abbrev pub AreRules : Option Content → Settings → Rules → Type 0
AreRules holds told rules = IsReading rules.read × (rules.flush_at ≡ told.flush_at) × IsSome holds

-- the output for the items of a script
abbrev pub output_of : Rules → State → List Entry → List ℕ
output_of rules s entries = replies_to rules.flush_at s (map (said_of rules.read) entries)

-- the state that the items of a script leave
abbrev pub state_after : Rules → State → List Entry → State
state_after rules s entries = last_state rules.flush_at s (map (said_of rules.read) entries)
