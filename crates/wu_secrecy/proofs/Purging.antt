-- What others do unseen can be left out.
use Rattle.std.proofs.Common.{◌≡◌, ℕ, Bool, true, false, cond, List, [], ◌∷◌, map, Result, Ok, Err, refl, ap, sym, ◌∙◌}
use Rattle.std.specs.List.{AllByRecursion}
use Rattle.wu_ask.specs.Questions.{Question}
use Rattle.wu_script.specs.Commands.{Entry, Asking}
use Rattle.wu_script.specs.Items.{items_of}
use Rattle.wu_script.specs.Said.{asked, question_in, said_of}
use Rattle.wu_script.specs.declared.types.Why.{Why}
use Rattle.wu_query.specs.States.{IsState, State}
use Rattle.wu_query.specs.View.{Shown, view_of}
use Rattle.wumpus_run.specs.Replies.{Rules, after, met}
use Rattle.wu_secrecy.specs.Turns.{Asked, Turn, asked_by, asked_in, hers, is_asked_by, purged, told_to, turn_of, turns_of}
use Rattle.wu_secrecy.specs.Answers.{answer_to}
use Rattle.wu_secrecy.specs.UnseenItems.{IsUnseenItem}
use Rattle.wu_secrecy.proofs.Noninterference.{session-told}
use Rattle.wu_secrecy.proofs.UnseenItems.{script-views}

-- queries over one view
abbrev over : List Shown → List Entry → List Asked
over view entries = map (λ (entry : Entry). record { query = entry; view = view }) entries

abbrev asked-first : ℕ → Bool → Turn → List Turn → List Asked
asked-first uid b turn turns = map (asked_in uid) (cond b (turn ∷ hers uid turns) (hers uid turns))

-- where each item is met with the same view, her queries are over that
asked-same : (rules : Rules) (uid : ℕ) (view : List Shown) (s : State) (entries : List Entry)
    → AllByRecursion (λ m. view_of m.0 uid ≡ view) (met rules.flush_at s (map (said_of rules.read) entries))
    → asked_by uid (turns_of rules s entries) ≡ over view (purged uid entries)
asked-same rules uid view s [] same = refl
asked-same rules uid view s (entry ∷ entries) same =
    let later = after rules.flush_at s (said_of rules.read entry) in
    let rest = asked-same rules uid view later entries same.1 in
    elim (is_asked_by uid entry) as
    (λ b. asked-first uid b (turn_of rules.read s entry) (turns_of rules later entries)
    ≡ over view (cond b (entry ∷ purged uid entries) (purged uid entries))) [
      | true ↦ λ i. record { query = entry; view = same.0 i } ∷ rest i
      | false ↦ rest
    ]

-- a query leaves the state
after-asked : (flush_at uid : ℕ) (s : State) (question : Result Question Why) → after flush_at s (asked uid question) ≡ s
after-asked flush_at uid s (Ok question) = refl
after-asked flush_at uid s (Err why) = refl

after-hers : (rules : Rules) (uid : ℕ) (s : State) (entry : Entry) → is_asked_by uid entry ≡ true
    → after rules.flush_at s (said_of rules.read entry) ≡ s
after-hers rules uid s (Asking asker wish) its = after-asked rules.flush_at asker s (question_in rules.read wish)
after-hers rules uid s _ its = absurd cc

-- her queries alone are over the view at the start
asked-purged : (rules : Rules) (uid : ℕ) (s : State) (entries : List Entry)
    → asked_by uid (turns_of rules s (purged uid entries)) ≡ over (view_of s uid) (purged uid entries)
asked-purged rules uid s [] = refl
asked-purged rules uid s (entry ∷ entries) =
    elim (is_asked_by uid entry) as
    (λ b. is_asked_by uid entry ≡ b
    → asked_by uid (turns_of rules s (cond b (entry ∷ purged uid entries) (purged uid entries)))
    ≡ over (view_of s uid) (cond b (entry ∷ purged uid entries) (purged uid entries))) [
      | true ↦ λ its.
          ap (λ (b : Bool). asked-first uid b (turn_of rules.read s entry)
          (turns_of rules (after rules.flush_at s (said_of rules.read entry)) (purged uid entries))) its
          ∙ ap (λ (t : State). asked-first uid true (turn_of rules.read s entry) (turns_of rules t (purged uid entries)))
          (after-hers rules uid s entry its)
          ∙ ap (λ (rest : List Asked). record { query = entry; view = view_of s uid } ∷ rest) (asked-purged rules uid s entries)
      | false ↦ λ other. asked-purged rules uid s entries
    ] refl

-- so she is told the same without the others
pub told-purged : (rules : Rules) (uid : ℕ) (s : State) (bytes : List ℕ) → IsState s
    → AllByRecursion (λ m. IsUnseenItem uid m.0 m.1) (met rules.flush_at s (map (said_of rules.read) (items_of bytes)))
    → told_to uid (turns_of rules s (items_of bytes)) ≡ told_to uid (turns_of rules s (purged uid (items_of bytes)))
told-purged rules uid s bytes is unseen =
    let entries = items_of bytes in
    let same = script-views rules.flush_at uid rules.read s bytes is unseen in
    session-told rules s entries uid
    ∙ ap (map (answer_to rules.read))
    (asked-same rules uid (view_of s uid) s entries same ∙ sym (asked-purged rules uid s entries))
    ∙ sym (session-told rules s (purged uid entries) uid)
