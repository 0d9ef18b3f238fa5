-- Flushes, background work and saves show in no view.
use Rattle.std.proofs.Common.{◌≡◌, ℕ, List, [], ◌∷◌, Result, Ok, Err, map, refl, ap, ◌∙◌, subst}
use Rattle.wu_tree.specs.FileSystems.{FileSystem}
use Rattle.wu_tree.specs.Steps.{step as tree_step}
use Rattle.wu_tree.specs.declared.events.Event.{Event}
use Rattle.wu_tree.specs.declared.events.Effect.{Effect}
use Rattle.wu_tree.specs.declared.events.Refusal.{Refusal}
use Rattle.wu_view.specs.Views.{view_of as files_of}
use Rattle.wu_script.specs.Commands.{Operation, Flush, Work, Stat, Save}
use Rattle.wu_script.specs.Said.{Said, Happens, Asks, Operates, IsRefused, SaysNothing}
use Rattle.wu_query.specs.States.{State, Texts}
use Rattle.wu_query.specs.View.{shown_of, view_of}
use Rattle.wu_engine.specs.States.{after_event, followed, step, stepped, texts_after}
use Rattle.wumpus_run.specs.Replies.{after, after_operation, last_state}

-- one tree and the same texts, indexed in whatever way
abbrev pub HaveSameFiles : State → State → Type 0
HaveSameFiles s t = (s.tree ≡ t.tree) × (s.texts ≡ t.texts)

followed_alike : (one other : ℕ) (s t : State) (text : List ℕ) (r : Result (FileSystem × Effect) Refusal) → HaveSameFiles s t
    → HaveSameFiles (followed one s (stepped text s r)) (followed other t (stepped text t r))
followed_alike one other s t text (Ok (tree, effect)) same = (refl, ap (texts_after effect text) same.1)
followed_alike one other s t text (Err refusal) same = same

event_alike : (one other : ℕ) (s t : State) (event : Event) (text : List ℕ) → HaveSameFiles s t
    → HaveSameFiles (after_event one s event text) (after_event other t event text)
unfolding step
event_alike one other s t event text same =
    subst
    (λ (tree : FileSystem). HaveSameFiles (followed one s (stepped text s (tree_step s.tree event)))
    (followed other t (stepped text t (tree_step tree event))))
    same.0 (followed_alike one other s t text (tree_step s.tree event) same)

operation_alike : (s t : State) (operation : Operation) → HaveSameFiles s t
    → HaveSameFiles (after_operation s operation) (after_operation t operation)
operation_alike s t Flush same = same
operation_alike s t (Work units) same = same
operation_alike s t Stat same = same
operation_alike s t Save same = same

pub after_alike : (one other : ℕ) (s t : State) (said : Said) → HaveSameFiles s t → HaveSameFiles (after one s said) (after other t said)
after_alike one other s t (Happens event text) same = event_alike one other s t event text same
after_alike one other s t (Asks uid question) same = same
after_alike one other s t (Operates operation) same = operation_alike s t operation same
after_alike one other s t (IsRefused why) same = same
after_alike one other s t SaysNothing same = same

pub last_alike : (one other : ℕ) (s t : State) (saids : List Said) → HaveSameFiles s t
    → HaveSameFiles (last_state one s saids) (last_state other t saids)
last_alike one other s t [] same = same
last_alike one other s t (said ∷ saids) same =
    last_alike one other (after one s said) (after other t said) saids (after_alike one other s t said same)

pub view_alike : (s t : State) (uid : ℕ) → HaveSameFiles s t → view_of s uid ≡ view_of t uid
unfolding view_of
view_alike s t uid same =
    ap (λ (tree : FileSystem). map (shown_of s.texts) (files_of tree uid)) same.0
    ∙ ap (λ (texts : Texts). map (shown_of texts) (files_of t.tree uid)) same.1

-- wherever memory is full, a script leaves the same views
pub left_alike : (one other : ℕ) (s : State) (saids : List Said) (uid : ℕ)
    → view_of (last_state one s saids) uid ≡ view_of (last_state other s saids) uid
left_alike one other s saids uid =
    view_alike (last_state one s saids) (last_state other s saids) uid (last_alike one other s s saids (refl, refl))

-- an operation changes no file and no text
unchanged : (s : State) (operation : Operation) → HaveSameFiles (after_operation s operation) s
unchanged s Flush = (refl, refl)
unchanged s (Work units) = (refl, refl)
unchanged s Stat = (refl, refl)
unchanged s Save = (refl, refl)

-- so a script with an operation before it leaves the same views
pub operated_alike : (flush_at : ℕ) (operation : Operation) (s : State) (saids : List Said) (uid : ℕ)
    → view_of (last_state flush_at s (Operates operation ∷ saids)) uid ≡ view_of (last_state flush_at s saids) uid
operated_alike flush_at operation s saids uid =
    view_alike (last_state flush_at s (Operates operation ∷ saids)) (last_state flush_at s saids) uid
    (last_alike flush_at flush_at (after_operation s operation) s saids (unchanged s operation))
