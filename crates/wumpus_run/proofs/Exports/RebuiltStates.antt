-- A session whose input is an export makes the files of its view, and tells their user what she was told of them.
use Rattle.std.proofs.Common.{◌≡◌, ℕ, ◌≤◌, List, [], ◌∷◌, ◌++◌, length, map, Option, None, Some, Result, Ok, refl, ap, ap₂, sym, ◌∙◌}
use Rattle.std.proofs.Common.{subst}
use Rattle.std.proofs.Common.{append-nil}
use Rattle.std.specs.List.{All, AllByRecursion, flat_map}
use Rattle.std.proofs.lemmas.List.Elements.{All-from_recursion, recursion_from_All}
use Rattle.wu_base.specs.declared.limits.TheConstants.{TEXT_MAX}
use Rattle.wu_base.proofs.Members.{map_has}
use Rattle.wu_tree.specs.FileSystems.{FileSystem}
use Rattle.wu_tree.specs.Steps.{effect_of, next, refusal_of, step as tree_step, unless_refused}
use Rattle.wu_tree.specs.declared.events.Effect.{Effect}
use Rattle.wu_tree.specs.declared.events.Refusal.{Refusal}
use Rattle.wu_view.specs.Views.{view_of as files_of}
use Rattle.wu_export.specs.declared.Shown.{Shown}
use Rattle.wu_export.specs.Exports.{Entry as Made, Directory, File, Link, Text, entries_of, export_of}
use Rattle.wu_export.specs.Rebuilding.{IsExportable, IsRebuilt as IsMadeAgain, Makes, event_of}
use Rattle.wu_export.proofs.Rebuilt.{rebuilt}
use Rattle.wu_script.specs.declared.types.Reply.TheVariants.{Answered, Ok as Accepted}
use Rattle.wu_script.specs.Commands.{Entry}
use Rattle.wu_script.specs.Items.{items_of}
use Rattle.wu_script.specs.Replies.{reply_bytes}
use Rattle.wu_script.specs.Said.{Said, Happens, Asks, Operates, IsRefused, SaysNothing, said_of}
use Rattle.wu_script.proofs.ItemListLemmas.{items_of-none}
use Rattle.wu_query.specs.Answer.{answer}
use Rattle.wu_query.specs.States.{IsState, State, Texts}
use Rattle.wu_query.specs.View.{shown_of, view_of}
use Rattle.wu_engine.specs.Stands.{verdict_of}
use Rattle.wu_engine.specs.States.{first_state, followed, layout_after, step, texts_after}
use Rattle.wumpus_run.specs.Rebuilt.{AreQueriesOf, HasShortNumbers, IsAcceptedIn, IsQueryOf, IsRebuilt, IsToldTheSame, exported, oks}
use Rattle.wumpus_run.specs.Replies.{Rules, after, bytes_of, last_state, met, output_of, reply_to, said_bytes, state_after, verdict_reply}
use Rattle.wumpus_run.proofs.Exports.ExportableViews.{exportable}
use Rattle.wumpus_run.proofs.Exports.NumberedEntries.{all_sayable}
use Rattle.wumpus_run.proofs.Exports.RebuiltTexts.{view_shown, with_entries, with_entry}
use Rattle.wumpus_run.proofs.SessionLemmas.{output-append}
use Rattle.wumpus_run.proofs.Exports.WrittenItems.{item_of, items_written, text_of}
use Rattle.wumpus_run.proofs.Exports.WrittenLines.{IsSayable}

-- ---- one event

-- what its item says
abbrev said_by : Made → Said
said_by made = Happens (event_of made) (text_of made)

same_effect : (refusal : Option Refusal) (fs fs' : FileSystem) (effect effect' : Effect)
    → unless_refused refusal fs effect ≡ Ok (fs', effect') → effect ≡ effect'
same_effect None fs fs' effect effect' is = let same : (fs, effect) ≡ (fs', effect') = cc in ap (λ (p : FileSystem × Effect). p.1) same
same_effect (Some refusal) fs fs' effect effect' is = absurd cc

texts_of_effect : (fs : FileSystem) (made : Made) (texts : Texts)
    → texts_after (effect_of fs (event_of made)) (text_of made) texts ≡ with_entry texts made
texts_of_effect fs (Directory number parent name) texts = refl
texts_of_effect fs (File number parent name) texts = refl
texts_of_effect fs (Link number parent name) texts = refl
texts_of_effect fs (Text number text) texts = refl

-- an event that the tree accepts is accepted, and makes of tree and texts what it says
record IsMadeFrom (flush_at : ℕ) (s : State) (made : Made) (fs : FileSystem) : Type 0 where
  accepted : reply_to s (said_by made) ≡ Some Accepted
  tree : (after flush_at s (said_by made)).tree ≡ fs
  texts : (after flush_at s (said_by made)).texts ≡ with_entry s.texts made

made_from : (flush_at : ℕ) (s : State) (made : Made) (fs : FileSystem) (effect : Effect)
    → tree_step s.tree (event_of made) ≡ Ok (fs, effect) → IsMadeFrom flush_at s made fs
unfolding step
made_from flush_at s made fs effect is =
    let event = event_of made in
    let text = text_of made in
    let stepped : step s event text ≡ Ok (record {
      tree = fs;
      texts = texts_after effect text s.texts;
      layout = layout_after effect text s.layout;
    }) = rw is refl in
    let same = same_effect (refusal_of s.tree event) (next s.tree event) fs (effect_of s.tree event) effect is in
    record {
      accepted = ap (λ (r : Result State Refusal). Some (verdict_reply (verdict_of r))) stepped;
      tree = ap (λ (r : Result State Refusal). (followed flush_at s r).tree) stepped;
      texts = ap (λ (r : Result State Refusal). (followed flush_at s r).texts) stepped
          ∙ ap (λ (e : Effect). texts_after e text s.texts) (sym same) ∙ texts_of_effect s.tree made s.texts;
    }

-- ---- all of them

module _ (flush_at : ℕ) where
  -- they are accepted one after the other, and leave that tree and these texts
  record AreMadeFrom (s : State) (entries : List Made) (fs : FileSystem) : Type 0 where
    accepted : AllByRecursion (λ m. IsAcceptedIn m.0 m.1) (met flush_at s (map said_by entries))
    replies : flat_map (λ m. said_bytes m.0 m.1) (met flush_at s (map said_by entries)) ≡ flat_map (λ made. reply_bytes Accepted) entries
    tree : (last_state flush_at s (map said_by entries)).tree ≡ fs
    texts : (last_state flush_at s (map said_by entries)).texts ≡ with_entries s.texts entries

  all_made : (s : State) (entries : List Made) (fs : FileSystem) → Makes s.tree entries fs → AreMadeFrom s entries fs
  all_made s [] fs makes = record { accepted = tt; replies = refl; tree = makes; texts = refl }
  all_made s (made ∷ entries) fs makes =
      let one = made_from flush_at s made makes.0 makes.1 makes.2 in
      let then = after flush_at s (said_by made) in
      let others : AreMadeFrom then entries fs =
      all_made then entries fs (subst (λ (tree : FileSystem). Makes tree entries fs) (sym one.tree) makes.3) in
      record {
        accepted = (one.accepted, others.accepted);
        replies = ap₂ (λ (reply : List ℕ) (replies : List ℕ). reply ++ replies) (ap bytes_of one.accepted) others.replies;
        tree = others.tree;
        texts = others.texts ∙ ap (λ (texts : Texts). with_entries texts entries) one.texts;
      }

-- ---- the view

module _ (rules : Rules) where
  said_items : (entries : List Made) → map (said_of rules.read) (map item_of entries) ≡ map said_by entries
  said_items [] = refl
  said_items (made ∷ entries) = ap (λ (saids : List Said). said_by made ∷ saids) (said_items entries)

  ok_items : (entries : List Made) → oks (map item_of entries) ≡ flat_map (λ made. reply_bytes Accepted) entries
  ok_items [] = refl
  ok_items (made ∷ entries) = ap (λ (replies : List ℕ). reply_bytes Accepted ++ replies) (ok_items entries)

  -- queries of one user change nothing, and are answered by her view
  queries_alike : (s t : State) (uid : ℕ) (entries : List Entry) → view_of s uid ≡ view_of t uid
      → AllByRecursion (λ entry. IsQueryOf uid (said_of rules.read entry)) entries → output_of rules s entries ≡ output_of rules t entries
  queries_alike s t uid [] same of = refl
  queries_alike s t uid (entry ∷ entries) same of =
      by_said (said_of rules.read entry) refl of.0 (queries_alike s t uid entries same of.1)
    where
      by_said : (said : Said) → said_of rules.read entry ≡ said → IsQueryOf uid said → output_of rules s entries ≡ output_of rules t entries
          → output_of rules s (entry ∷ entries) ≡ output_of rules t (entry ∷ entries)
      by_said (Asks asker question) is its others =
          let hers : view_of s asker ≡ view_of t asker = subst (λ (u : ℕ). view_of s u ≡ view_of t u) (sym its) same in
          rw is (ap₂ (λ (reply : List ℕ) (replies : List ℕ). reply ++ replies)
          (ap (λ (view : List Shown). bytes_of (Some (Answered (answer view question)))) hers) others)
      by_said (IsRefused why) is its others = rw is (ap (λ (replies : List ℕ). bytes_of (reply_to s (IsRefused why)) ++ replies) others)
      by_said SaysNothing is its others = rw is others
      by_said (Happens event text) is its others = absurd its
      by_said (Operates operation) is its others = absurd its

  module _ (s : State) (uid : ℕ) (is : IsState s) (short : HasShortNumbers s.tree) where
    abbrev view : List Shown
    view = view_of s uid

    view_exportable : IsExportable view
    unfolding view_of
    view_exportable = exportable s.tree is.tree uid (shown_of s.texts) (λ seen. refl)

    entries_sayable : AllByRecursion IsSayable (entries_of view)
    unfolding view_of
    entries_sayable = all_sayable s.tree is.tree uid (shown_of s.texts) (λ seen. refl) short (λ one h.
        let m = map_has (shown_of s.texts) one (files_of s.tree uid) h in
        subst (λ (file : Shown). length file.text ≤ TEXT_MAX) m.1.1 (is.short m.0.ino))

    exported_items : (rest : List ℕ) → items_of (exported s uid ++ rest) ≡ map item_of (entries_of view) ++ items_of rest
    unfolding export_of
    exported_items rest = items_written (entries_of view) entries_sayable rest

    items_alone : items_of (exported s uid) ≡ map item_of (entries_of view)
    items_alone =
        ap items_of (sym (append-nil (exported s uid))) ∙ exported_items []
        ∙ ap (λ (others : List Entry). map item_of (entries_of view) ++ others) items_of-none ∙ append-nil (map item_of (entries_of view))

    again : IsMadeAgain view
    again = rebuilt view view_exportable

    made : AreMadeFrom rules.flush_at first_state (entries_of view) again.after
    made = all_made rules.flush_at first_state (entries_of view) again.after again.made

    last : State
    last = last_state rules.flush_at first_state (map said_by (entries_of view))

    last_view : view_of last uid ≡ view
    unfolding view_of last
    last_view =
        ap (λ (tree : FileSystem). map (shown_of last.texts) (files_of tree uid)) made.tree
        ∙ ap (λ (texts : Texts). map (shown_of texts) (files_of again.after uid)) made.texts
        ∙ ap (map (shown_of (with_entries [] (entries_of (view_of s uid))))) (again.seen uid)
        ∙ view_shown (view_of s uid) view_exportable.some

    saids_are : map (said_of rules.read) (items_of (exported s uid)) ≡ map said_by (entries_of view)
    saids_are = ap (map (said_of rules.read)) items_alone ∙ said_items (entries_of view)

    pub view_rebuilt : IsRebuilt rules s uid
    unfolding last
    view_rebuilt = record {
      accepted = subst (λ (saids : List Said). All (λ m. IsAcceptedIn m.0 m.1) (met rules.flush_at first_state saids)) (sym saids_are)
          (All-from_recursion (λ m. IsAcceptedIn m.0 m.1) (met rules.flush_at first_state (map said_by (entries_of view))) made.accepted);
      view = ap (λ (saids : List Said). view_of (last_state rules.flush_at first_state saids) uid) saids_are ∙ last_view;
    }

    pub told_the_same : (queries : List ℕ) → AreQueriesOf rules uid queries → IsToldTheSame rules s uid queries
    told_the_same queries of =
        let items = items_of (exported s uid) in
        let split : items_of (exported s uid ++ queries) ≡ items ++ items_of queries =
        exported_items queries ∙ ap (λ (first : List Entry). first ++ items_of queries) (sym items_alone) in
        let first : output_of rules first_state items ≡ oks items =
        ap (λ (saids : List Said). flat_map (λ m. said_bytes m.0 m.1) (met rules.flush_at first_state saids)) saids_are
        ∙ made.replies ∙ sym (ap oks items_alone ∙ ok_items (entries_of view)) in
        ap (output_of rules first_state) split
        ∙ output-append rules first_state items (items_of queries)
        ∙ ap (λ (bytes : List ℕ). bytes ++ output_of rules (state_after rules first_state items) (items_of queries)) first
        ∙ ap (λ (bytes : List ℕ). oks items ++ bytes)
        (queries_alike (state_after rules first_state items) s uid (items_of queries) view_rebuilt.view
        (recursion_from_All (λ entry. IsQueryOf uid (said_of rules.read entry)) (items_of queries) of))
