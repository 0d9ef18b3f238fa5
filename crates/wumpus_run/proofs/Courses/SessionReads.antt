-- What a session reads: what its opening reads, and then what each of its items reads in the state that it meets.
use Rattle.std.proofs.Common.{◌≡◌, ℕ, List, [], ◌∷◌, ◌++◌, Option, Some, refl, sym, ap, ◌∙◌, subst, append_assoc, append-nil}
use Rattle.std.specs.Prelude.{option_map}
use Rattle.wu_outside.specs.Content.{Content}
use Rattle.wu_outside.specs.declared.ranges.ReadRange.{ReadRange}
use Rattle.wu_lists.proofs.Asking.{ranges-none}
use Rattle.wu_script.specs.Commands.{Entry, Flush, Save, Stat, Work}
use Rattle.wu_script.specs.declared.types.Item.{Item}
use Rattle.wu_script.specs.Said.{Asks, Happens, IsRefused, Operates, Said, SaysNothing, said_by, said_of}
use Rattle.wu_options.specs.declared.command_lines.Settings.{Settings}
use Rattle.wu_query.specs.Permitted.{ReadsSuch}
use Rattle.wu_query.specs.Reads.{texts_read}
use Rattle.wu_query.specs.States.{State}
use Rattle.wu_query.proofs.PermittedBlocks.{reads_joined}
use Rattle.wu_engine.specs.Opening.{IsOpen, Opens}
use Rattle.wumpus_run.specs.Crashes.{met_by}
use Rattle.wumpus_run.specs.Permitted.{AreReadFor, AreReadInTurn}
use Rattle.wumpus_run.specs.Replies.{Rules, after, state_after}
use Rattle.wumpus_run.proofs.Courses.NextItems.{IsMet, entry_of, says}
use Rattle.wumpus_run.proofs.SessionLemmas.{HasAnsweredItems}

-- ---- one item

-- of what an item reads it may be nothing
unreached : (s : State) (said : Said) → AreReadFor s said []
unreached s (Happens event text) = refl
unreached s (Asks uid question) = record {
  blocks = [];
  needed = tt;
  texts = [];
  left = texts_read s uid question;
  front = refl;
  in_turn = refl;
}
unreached s (Operates Flush) = refl
unreached s (Operates (Work units)) = tt
unreached s (Operates Stat) = refl
unreached s (Operates Save) = refl
unreached s (IsRefused why) = refl
unreached s SaysNothing = refl

-- what reads nothing
pub reads_nothing : (s : State) (said : Said) (before after : Option (List ReadRange)) → after ≡ before
    → ReadsSuch (AreReadFor s said) before after
reads_nothing s said before after same = ([], unreached s said, same ∙ ranges-none before)

-- what was read, and then nothing
pub then_nothing : (old new : Option (List ReadRange)) (read : List ReadRange) → new ≡ option_map (λ earlier. earlier ++ read) old
    → new ≡ option_map (λ earlier. earlier ++ (read ++ [])) old
then_nothing old new read same = same ∙ ap (λ (rs : List ReadRange). option_map (λ earlier. earlier ++ rs) old) (sym (append-nil read))

-- ---- items one after the other

-- what items read, and then what others read in the state that they leave
in_turn_then : (rules : Rules) (s : State) (entries more : List Entry) (first later : List ReadRange)
    → AreReadInTurn (met_by rules s entries) first → AreReadInTurn (met_by rules (state_after rules s entries) more) later
    → AreReadInTurn (met_by rules s (entries ++ more)) (first ++ later)
in_turn_then rules s [] more first later none for_more =
    subst (λ (read : List ReadRange). AreReadInTurn (met_by rules s more) (read ++ later)) (sym none) for_more
in_turn_then rules s (entry ∷ entries) more first later for_entries for_more = (
  for_entries.0,
  for_entries.1 ++ later,
  for_entries.2,
  in_turn_then rules (after rules.flush_at s (said_of rules.read entry)) entries more for_entries.1 later for_entries.3 for_more,
  ap (λ (read : List ReadRange). read ++ later) for_entries.4 ∙ append_assoc for_entries.0 for_entries.1 later,
)

one_read : (rules : Rules) (s : State) (entry : Entry) (read : List ReadRange) → AreReadFor s (said_of rules.read entry) read
    → AreReadInTurn (met_by rules s (entry ∷ [])) read
one_read rules s entry read for_item = (read, [], for_item, refl, sym (append-nil read))

-- what the opening read, and then what the answered items did
pub record HasReadItems (content : Content) (start : State) (rules : Rules) (answered : List Entry) (old new : Option (List ReadRange))
    : Type 0 where
  pub opening : List ReadRange
  pub opened : Opens content opening
  pub read : List ReadRange
  pub for_items : AreReadInTurn (met_by rules start answered) read
  pub in_turn : new ≡ option_map (λ earlier. earlier ++ (opening ++ read)) old

-- the store was opened
pub HasReadItems-none : (content : Content) (start : State) (rules : Rules) (old new : Option (List ReadRange))
    → IsOpen (Some content) old new → HasReadItems content start rules [] old new
HasReadItems-none content start rules old new opening = record {
  opening = opening.0;
  opened = opening.1;
  read = [];
  for_items = refl;
  in_turn = then_nothing old new opening.0 opening.2;
}

-- an item was read, and what it reads
pub HasReadItems-one : {told : Settings} {content : Content} {start : State} {rules : Rules} {gained between : Option (List ℕ)}
    {input left rest : List ℕ} {s : State} {item : Item} {old mid new : Option (List ReadRange)}
    → (sent : HasAnsweredItems told start rules gained between input left s) → IsMet rules left rest item
    → HasReadItems content start rules sent.answered old mid → ReadsSuch (AreReadFor s (said_by item)) mid new
    → HasReadItems content start rules (sent.answered ++ entry_of left ∷ []) old new
HasReadItems-one {told} {content} {start} {rules} {gained} {between} {input} {left} {rest} {s} {item} {old} {mid} {new} sent met so_far
    reads =
    let met_at = state_after rules start sent.answered in
    record {
      opening = so_far.opening;
      opened = so_far.opened;
      read = so_far.read ++ reads.0;
      for_items = in_turn_then rules start sent.answered (entry_of left ∷ []) so_far.read reads.0 so_far.for_items
          (one_read rules met_at (entry_of left) reads.0
          (subst (λ (said : Said). AreReadFor met_at said reads.0) (says met)
          (subst (λ (t : State). AreReadFor t (said_by item) reads.0) sent.state reads.1)));
      in_turn = reads.2 ∙ ap (option_map (λ (earlier : List ReadRange). earlier ++ reads.0)) so_far.in_turn
          ∙ reads_joined old (so_far.opening ++ so_far.read) reads.0
          ∙ ap (λ (rs : List ReadRange). option_map (λ earlier. earlier ++ rs) old) (append_assoc so_far.opening so_far.read reads.0);
    }
