-- The next item of a session's input, which meets the state that the items before it leave.
use Rattle.std.proofs.Common.{◌≡◌, ℕ, List, [], ◌∷◌, ◌++◌, Option, None, Some, refl, sym, ap, ◌∙◌, append-nil}
use Rattle.wu_script.specs.Commands.{Entry, Save}
use Rattle.wu_script.specs.declared.types.Item.{Item}
use Rattle.wu_script.specs.Items.{IsBeforeEnd, IsFirstItem, IsNext, first_of, items_of}
use Rattle.wu_script.specs.Replies.{reply_bytes}
use Rattle.wu_script.specs.Said.{IsReading, Operates, Said, said_by, said_of}
use Rattle.wu_script.proofs.ItemListLemmas.{items_of-some}
use Rattle.wu_options.specs.declared.command_lines.Settings.{Settings}
use Rattle.wu_query.specs.States.{State}
use Rattle.wumpus_run.specs.Crashes.{saved_for}
use Rattle.wumpus_run.specs.Replies.{Rules, output_of, said_bytes, state_after}
use Rattle.wumpus_run.proofs.SessionLemmas.{HasAnsweredItems, first_item}

-- the first item of bytes that are known
pub next_known : (left : List ℕ) (rest : Option (List ℕ)) (item : Item) → IsNext (Some left) rest item
    → (bytes : List ℕ) × IsFirstItem left bytes item
next_known left None item next = absurd next
next_known left (Some bytes) item next = (bytes, next)

-- an item without a reply saves nothing
pub silent-saves_none : (s : State) (said : Said) → said_bytes s said ≡ [] → saved_for s said ≡ []
unfolding reply_bytes
silent-saves_none s (Operates Save) none = absurd (cc)
silent-saves_none s _ none = refl

-- the next item of some bytes, which isn't their end
pub record IsMet (rules : Rules) (left rest : List ℕ) (item : Item) : Type 0 where
  pub are : IsReading rules.read
  pub other : IsBeforeEnd item
  pub next : IsFirstItem left rest item

abbrev pub entry_of : List ℕ → Entry
entry_of left = (first_of left).entry

abbrev pub later_of : List ℕ → List Entry
later_of left = items_of (first_of left).rest

pub says : {rules : Rules} {left rest : List ℕ} {item : Item} → IsMet rules left rest item
    → said_by item ≡ said_of rules.read (entry_of left)
says {rules} {left} {rest} {item} met = (first_item left rest item met.other met.next).1 rules.read met.are

module _ {told : Settings} {start : State} {rules : Rules} {gained between : Option (List ℕ)} {input left rest : List ℕ} {s : State}
    {item : Item} (sent : HasAnsweredItems told start rules gained between input left s) (met : IsMet rules left rest item) where
  -- it is the next item of the input
  pub with_entry : items_of input ≡ sent.answered ++ entry_of left ∷ later_of left
  with_entry = sent.split
      ∙ ap (λ (es : List Entry). sent.answered ++ es) (items_of-some left (first_item left rest item met.other met.next).0)

  pub reply_of : said_bytes s (said_by item) ≡ output_of rules (state_after rules start sent.answered) (entry_of left ∷ [])
  reply_of =
      let end = state_after rules start sent.answered in
      ap (λ (t : State). said_bytes t (said_by item)) sent.state ∙ ap (said_bytes end) (says met)
      ∙ sym (append-nil (said_bytes end (said_of rules.read (entry_of left))))

  pub own_saves : saved_for s (said_by item) ≡ saved_for (state_after rules start sent.answered) (said_of rules.read (entry_of left))
  own_saves =
      ap (λ (t : State). saved_for t (said_by item)) sent.state
      ∙ ap (λ (said : Said). saved_for (state_after rules start sent.answered) said) (says met)
