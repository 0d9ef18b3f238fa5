-- What the items of a script save, in turn.
use Rattle.std.proofs.Common.{◌≡◌, ◌≤◌, ◌⊎◌, ℕ, List, [], ◌∷◌, ◌++◌, refl, sym, ap, ◌∙◌, subst, inl, inr, ⊎_elim, arith}
use Rattle.std.proofs.Common.{append_assoc, append-nil}
use Rattle.wu_layout.specs.Invariants.{SomeOf}
use Rattle.wu_layout.proofs.KeptLemmas.{SomeOf-left, SomeOf-right}
use Rattle.wu_script.specs.Commands.{Entry, Save}
use Rattle.wu_script.specs.Said.{Operates, Said, said_of}
use Rattle.wu_query.specs.States.{State}
use Rattle.wumpus_run.specs.Crashes.{first_or, last_or, last_save, left_to_next, next_save, saved_by, saved_for, saves_of}
use Rattle.wumpus_run.specs.Crashes.{saves_so_far}
use Rattle.wumpus_run.specs.Replies.{Rules, after, state_after}
use Rattle.wumpus_run.proofs.SessionLemmas.{state-append}

-- ---- of one item

-- what an item saves is the first save from there on
first_is : (P : State → Type 0) (s other : State) (said : Said) (more : List State) → SomeOf P (saved_for s said)
    → P (first_or other (saved_for s said ++ more))
first_is P s other (Operates Save) more is = ⊎_elim (λ one. one) (λ none. absurd none) is
first_is P s other _ more is = absurd is

-- and the last save after it, where it saves; else that is the one before it
last_is : (P : State → Type 0) (s last other : State) (said : Said) (more : List State) → P (last_or last (saved_for s said))
    → P last ⊎ P (first_or other (saved_for s said ++ more))
last_is P s last other (Operates Save) more is = inr is
last_is P s last other _ more is = inl is

-- the next blob never falls below one that the last save names
pub below_after : (flush_at : ℕ) (s last : State) (said : Said) → last.layout.blob ≤ s.layout.blob
    → s.layout.blob ≤ (after flush_at s said).layout.blob
    → (last_or last (saved_for s said)).layout.blob ≤ (after flush_at s said).layout.blob
below_after flush_at s last (Operates Save) below onward = omega arith
below_after flush_at s last _ below onward = omega (arith, below, onward)

-- ---- items one after the other

-- the last of a list is the first one given or one of the list
last_some : (P : State → Type 0) (s : State) (saves : List State) → P (last_or s saves) → SomeOf P (s ∷ saves)
last_some P s [] is = inl is
last_some P s (save ∷ saves) is = inr (last_some P save saves is)

last_or-append : (s : State) (saves more : List State) → last_or s (saves ++ more) ≡ last_or (last_or s saves) more
last_or-append s [] more = refl
last_or-append s (save ∷ saves) more = last_or-append save saves more

-- what items and more save is what these save, and then what the others save from the state that they leave
saved-append : (rules : Rules) (s : State) (entries more : List Entry)
    → saved_by rules s (entries ++ more) ≡ saved_by rules s entries ++ saved_by rules (state_after rules s entries) more
saved-append rules s [] more = refl
saved-append rules s (entry ∷ entries) more =
    let said = said_of rules.read entry in
    let next = after rules.flush_at s said in
    ap (λ (saves : List State). saved_for s said ++ saves) (saved-append rules next entries more)
    ∙ sym (append_assoc (saved_for s said) (saved_by rules next entries) (saved_by rules (state_after rules next entries) more))

-- the last save of items and one more
pub last_save-one : (rules : Rules) (s : State) (answered : List Entry) (entry : Entry) → last_save rules s (answered ++ entry ∷ [])
    ≡ last_or (last_save rules s answered) (saved_for (state_after rules s answered) (said_of rules.read entry))
last_save-one rules s answered entry =
    let saves = saved_by rules s answered in
    let own = saved_for (state_after rules s answered) (said_of rules.read entry) in
    ap (last_or s) (saved-append rules s answered (entry ∷ []) ∙ ap (λ (xs : List State). saves ++ xs) (append-nil own))
    ∙ last_or-append s saves own

-- what items save, and what they leave at the end
abbrev later_saves : Rules → State → List Entry → List State
later_saves rules s entries = saved_by rules s entries ++ left_to_next (state_after rules s entries) ∷ []

saves-append : (rules : Rules) (start : State) (answered later : List Entry) → saves_of rules start (answered ++ later)
    ≡ (start ∷ saved_by rules start answered) ++ later_saves rules (state_after rules start answered) later
saves-append rules start answered later =
    let saves = saved_by rules start answered in
    let others = saved_by rules (state_after rules start answered) later in
    let end = state_after rules start (answered ++ later) in
    ap (λ (xs : List State). start ∷ xs ++ left_to_next end ∷ []) (saved-append rules start answered later)
    ∙ ap (λ (u : State). start ∷ (saves ++ others) ++ left_to_next u ∷ []) (state-append rules start answered later)
    ∙ ap (λ (xs : List State). start ∷ xs)
    (append_assoc saves others (left_to_next (state_after rules (state_after rules start answered) later) ∷ []))

module _ (P : State → Type 0) (rules : Rules) (start : State) (answered : List Entry) where
  -- what was saved so far is saved so far with an item more, and so is what that saves
  pub so_far_more : (entry : Entry) → SomeOf P (start ∷ saved_by rules start answered)
      → SomeOf P (start ∷ saved_by rules start (answered ++ entry ∷ []))
  so_far_more entry is =
      let own = saved_by rules (state_after rules start answered) (entry ∷ []) in
      subst (λ (saves : List State). SomeOf P (start ∷ saves)) (sym (saved-append rules start answered (entry ∷ [])))
      (SomeOf-left P (start ∷ saved_by rules start answered) own is)

  pub so_far_own : (entry : Entry)
      → SomeOf P (last_save rules start answered ∷ saved_for (state_after rules start answered) (said_of rules.read entry))
      → SomeOf P (start ∷ saved_by rules start (answered ++ entry ∷ []))
  so_far_own entry is =
      let s = state_after rules start answered in
      let before : List State = start ∷ saved_by rules start answered in
      let own = saved_for s (said_of rules.read entry) in
      ⊎_elim
      (λ last. so_far_more entry (last_some P start (saved_by rules start answered) last))
      (λ one. subst (λ (saves : List State). SomeOf P (start ∷ saves)) (sym (saved-append rules start answered (entry ∷ [])))
      (SomeOf-right P before (saved_by rules s (entry ∷ [])) (SomeOf-left P own [] one))) is

  -- whatever is to come
  pub so_far_among : (later : List Entry) → SomeOf P (start ∷ saved_by rules start answered)
      → SomeOf P (saves_so_far rules start answered later)
  so_far_among [] is =
      SomeOf-left P (start ∷ saved_by rules start answered) (left_to_next (state_after rules start answered) ∷ []) is
  so_far_among (entry ∷ later) is = is

  -- and it is a save of all
  pub so_far_of_all : (later : List Entry) → SomeOf P (saves_so_far rules start answered later)
      → SomeOf P (saves_of rules start (answered ++ later))
  so_far_of_all [] is =
      subst (λ (es : List Entry). SomeOf P (saves_of rules start es)) (sym (append-nil answered)) is
  so_far_of_all (entry ∷ later) is =
      subst (λ (saves : List State). SomeOf P saves) (sym (saves-append rules start answered (entry ∷ later)))
      (SomeOf-left P (start ∷ saved_by rules start answered) (later_saves rules (state_after rules start answered) (entry ∷ later)) is)

  -- what items leave at the end is a save of them
  pub one_at_end : P (last_save rules start answered) ⊎ P (left_to_next (state_after rules start answered))
      → SomeOf P (saves_of rules start answered)
  one_at_end is =
      let before : List State = start ∷ saved_by rules start answered in
      let end : List State = left_to_next (state_after rules start answered) ∷ [] in
      ⊎_elim (λ last. SomeOf-left P before end (last_some P start (saved_by rules start answered) last))
      (λ next. SomeOf-right P before end (inl next)) is

  -- what an item saves is the next save
  pub next_is : (s : State) (entry : Entry) (later : List Entry) → SomeOf P (saved_for s (said_of rules.read entry))
      → P (next_save rules s (entry ∷ later))
  next_is s entry later is =
      let said = said_of rules.read entry in
      first_is P s (left_to_next (state_after rules s (entry ∷ later))) said (saved_by rules (after rules.flush_at s said) later) is

  -- after an item the last save is the one before it, or the next
  pub last_or_next : (s last : State) (entry : Entry) (later : List Entry) → P (last_or last (saved_for s (said_of rules.read entry)))
      → P last ⊎ P (next_save rules s (entry ∷ later))
  last_or_next s last entry later is =
      let said = said_of rules.read entry in
      last_is P s last (left_to_next (state_after rules s (entry ∷ later))) said (saved_by rules (after rules.flush_at s said) later) is
