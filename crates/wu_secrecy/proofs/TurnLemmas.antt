-- The turns of a session and its output, and her replies as functions of her views.
use Rattle.std.proofs.Common.{◌≡◌, ℕ, true, false, cond, List, [], ◌∷◌, ◌++◌, map, refl, ap, ◌∙◌}
use Rattle.std.specs.Prelude.{Result, Ok, Err}
use Rattle.std.specs.List.{AllByRecursion}
use Rattle.std.proofs.lemmas.Bool.{eqb-true}
use Rattle.wu_ask.specs.Questions.{Question}
use Rattle.wu_script.specs.Commands.{Entry, Asking, QuerySyntax}
use Rattle.wu_script.specs.Replies.{reply_bytes}
use Rattle.wu_script.specs.Said.{Reading, asked, question_in, said_of}
use Rattle.wu_script.specs.declared.types.Why.{Why}
use Rattle.wu_query.specs.States.{State}
use Rattle.wu_query.specs.View.{view_of}
use Rattle.wumpus_run.specs.Replies.{Rules, after, output_of, said_bytes}
use Rattle.wu_secrecy.specs.Turns.{Turn, asked_by, asked_in, hers, is_asked_by, output_in, told_to, turns_of}
use Rattle.wu_secrecy.specs.Answers.{answer_to, bytes_over, reply_over}

-- the replies of a session's turns are its output
pub output_of-turns : (rules : Rules) (s : State) (entries : List Entry) → output_in (turns_of rules s entries) ≡ output_of rules s entries
output_of-turns rules s [] = refl
output_of-turns rules s (entry ∷ entries) =
    ap (λ (later : List ℕ). said_bytes s (said_of rules.read entry) ++ later)
    (output_of-turns rules (after rules.flush_at s (said_of rules.read entry)) entries)

-- ---- one query

bytes-asked : (uid : ℕ) (s : State) (question : Result Question Why)
    → said_bytes s (asked uid question) ≡ reply_bytes (reply_over (view_of s uid) question)
bytes-asked uid s (Ok question) = refl
bytes-asked uid s (Err why) = refl

pub bytes-query : (read : Reading) (s : State) (uid : ℕ) (wish : QuerySyntax)
    → said_bytes s (said_of read (Asking uid wish)) ≡ bytes_over read (Asking uid wish) (view_of s uid)
bytes-query read s uid wish = bytes-asked uid s (question_in read wish)

-- a query of hers is answered over her view
pub reply-hers : (read : Reading) (uid : ℕ) (s : State) (entry : Entry) → is_asked_by uid entry ≡ true
    → said_bytes s (said_of read entry) ≡ bytes_over read entry (view_of s uid)
reply-hers read uid s (Asking asker wish) its =
    bytes-query read s asker wish
    ∙ ap (λ (who : ℕ). bytes_over read (Asking asker wish) (view_of s who)) (eqb-true asker uid its)
reply-hers read uid s _ its = absurd cc

-- ---- turns

-- the reply of each turn is that to its item in its state
abbrev pub AreWhole : Reading → List Turn → Type 0
AreWhole read turns = AllByRecursion (λ turn. turn.reply ≡ said_bytes turn.state (said_of read turn.entry)) turns

pub whole-turns : (rules : Rules) (s : State) (entries : List Entry) → AreWhole rules.read (turns_of rules s entries)
whole-turns rules s [] = tt
whole-turns rules s (entry ∷ entries) = (refl, whole-turns rules (after rules.flush_at s (said_of rules.read entry)) entries)

pub whole-append : (read : Reading) (one other : List Turn) → AreWhole read one → AreWhole read other → AreWhole read (one ++ other)
whole-append read [] other whole more = more
whole-append read (turn ∷ one) other whole more = (whole.0, whole-append read one other whole.1 more)

-- what she was told is what she asked, answered over her views
pub told-answers : (read : Reading) (uid : ℕ) (turns : List Turn) → AreWhole read turns
    → told_to uid turns ≡ map (answer_to read) (asked_by uid turns)
told-answers read uid [] whole = refl
told-answers read uid (turn ∷ turns) whole =
    elim (is_asked_by uid turn.entry) as
    (λ b. is_asked_by uid turn.entry ≡ b → map (λ (t : Turn). t.reply) (cond b (turn ∷ hers uid turns) (hers uid turns))
    ≡ map (answer_to read) (map (asked_in uid) (cond b (turn ∷ hers uid turns) (hers uid turns)))) [
      | true ↦ λ its. λ i.
          (whole.0 ∙ reply-hers read uid turn.state turn.entry its) i ∷ told-answers read uid turns whole.1 i
      | false ↦ λ its. told-answers read uid turns whole.1
    ] refl
