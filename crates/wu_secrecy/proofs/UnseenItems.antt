-- What shows in nothing that a user may search leaves her view as it was, texts too.
use Rattle.std.proofs.Common.{◌≡◌, ℕ, Bool, true, false, cond, List, [], ◌∷◌, map, Ok, refl, ap, sym, ◌∙◌, subst, inl, inr}
use Rattle.std.specs.Prelude.{Option, None, Some}
use Rattle.std.specs.List.{AllByRecursion}
use Rattle.std.proofs.lemmas.List.Elements.{recursion_from_All}
use Rattle.wu_base.proofs.Members.{Has}
use Rattle.wu_tree.specs.declared.events.Event.{Event}
use Rattle.wu_tree.specs.declared.events.Event.TheVariants.{User, Mkdir, Create, Text, Link, Unlink, Rmdir, Rename, Chmod, Chown}
use Rattle.wu_tree.specs.declared.events.Event.TheVariants.{Acl as SetAcl}
use Rattle.wu_tree.specs.declared.events.Effect.{Effect}
use Rattle.wu_tree.specs.FileSystems.{FileSystem, is_file}
use Rattle.wu_tree.specs.Rules.{IsTree}
use Rattle.wu_tree.specs.Steps.{IsEvent, dropped_at, effect_of, is_same_node, next, no_effect, refusal_of}
use Rattle.wu_tree.specs.Steps.{step as tree_step}
use Rattle.wu_tree.specs.Effects.{TellsFiles}
use Rattle.wu_tree.proofs.EffectLemmas.{effects_tell_files}
use Rattle.wu_tree.proofs.EventRules.{accepted, none_some, same_some}
use Rattle.wu_tree.proofs.KeptTrees.{step_keeps}
use Rattle.wu_view.specs.declared.Seen.{Seen}
use Rattle.wu_view.specs.Views.{view_of as files_of}
use Rattle.wu_frames.proofs.SeenLinks.{file-of_view}
use Rattle.wu_script.specs.Commands.{Flush, Operation, Save, Stat, Work}
use Rattle.wu_script.specs.Items.{items_of}
use Rattle.wu_script.specs.Said.{Asks, Happens, IsRefused, Operates, Reading, Said, SaysNothing, said_of}
use Rattle.wu_script.proofs.EventLemmas.{TellsEvent, script_tells}
use Rattle.wu_query.specs.States.{IsState, State, Texts, text_in}
use Rattle.wu_query.specs.View.{Shown, shown_of, view_of}
use Rattle.wu_engine.specs.States.{after_event, flushed_if_full, texts_after, with_text, without_text}
use Rattle.wu_engine.proofs.FileChanges.{changes}
use Rattle.wu_engine.proofs.KeptStates.{after_cases, after_effect}
use Rattle.wu_engine.proofs.StateTexts.{text-elsewhere, text-left}
use Rattle.wumpus_run.specs.Replies.{Met, after, after_operation, last_state, met}
use Rattle.wumpus_run.proofs.StateLemmas.{met_states}
use Rattle.wu_secrecy.specs.Unseen.{IsUnseen, is_searchable}
use Rattle.wu_secrecy.specs.UnseenItems.{IsUnseenItem}
use Rattle.wu_secrecy.proofs.UnseenEvents.{unseen-tree}
use Rattle.wu_secrecy.proofs.ViewsAlike.{view-searchable}

-- ---- texts

-- files whose texts are the same are shown alike
shown-alike : (one other : Texts) (files : List Seen)
    → ((file : Seen) → Has file files → text_in one file.ino ≡ text_in other file.ino)
    → map (shown_of one) files ≡ map (shown_of other) files
shown-alike one other [] same = refl
shown-alike one other (file ∷ files) same = λ i.
    record { paths = file.paths; text = same file (inl refl) i } ∷ shown-alike one other files (λ f h. same f (inr h)) i

text-with : (o : Option ℕ) (text : List ℕ) (texts : Texts) (q : ℕ) → (o ≡ Some q → ⊥)
    → text_in (with_text o text texts) q ≡ text_in texts q
text-with None text texts q n = refl
text-with (Some ino) text texts q n = text-elsewhere texts ino text q (λ e. n (ap Some (sym e)))

text-without : (o : Option ℕ) (texts : Texts) (q : ℕ) → (o ≡ Some q → ⊥) → text_in (without_text o texts) q ≡ text_in texts q
text-without None texts q n = refl
text-without (Some ino) texts q n = text-left texts ino q (λ e. n (ap Some (sym e)))

-- ---- which text an event gives

none-texted : (same : Bool) (dropped : Option ℕ) → (cond same no_effect (record no_effect { dropped = dropped })).texted ≡ None
none-texted true dropped = refl
none-texted false dropped = refl

texted-unseen : (fs : FileSystem) (uid : ℕ) (event : Event) → IsUnseen fs uid event → (q : ℕ)
    → (effect_of fs event).texted ≡ Some q → is_searchable fs uid q ≡ true → ⊥
texted-unseen fs uid (Text ino) unseen q e h =
    let f : true ≡ false = sym h ∙ ap (is_searchable fs uid) (sym (same_some ino q e)) ∙ unseen in
    cc
texted-unseen fs uid (User other groups) unseen q e h = none_some q e
texted-unseen fs uid (Mkdir ino parent name perm) unseen q e h = none_some q e
texted-unseen fs uid (Create ino parent name perm) unseen q e h = none_some q e
texted-unseen fs uid (Link ino parent name) unseen q e h = none_some q e
texted-unseen fs uid (Unlink parent name) unseen q e h = none_some q e
texted-unseen fs uid (Rmdir parent name) unseen q e h = none_some q e
texted-unseen fs uid (Rename parent name new_parent new_name) unseen q e h =
    none_some q (sym (none-texted (is_same_node fs parent name new_parent new_name) (dropped_at fs new_parent new_name)) ∙ e)
texted-unseen fs uid (Chmod ino mode) unseen q e h = none_some q e
texted-unseen fs uid (Chown ino owner group) unseen q e h = none_some q e
texted-unseen fs uid (SetAcl ino acl mask) unseen q e h = none_some q e

-- ---- an event

module _ (flush_at uid : ℕ) (s : State) (event : Event) (text : List ℕ) (is : IsState s) (valid : IsEvent event)
    (unseen : IsUnseen s.tree uid event) where
  -- the text of a file that she may search before and after
  text-kept : (tree : FileSystem) (effect : Effect) → IsTree tree → tree_step s.tree event ≡ Ok (tree, effect)
      → files_of tree uid ≡ files_of s.tree uid → (file : Seen) → Has file (files_of s.tree uid)
      → text_in (texts_after effect text s.texts) file.ino ≡ text_in s.texts file.ino
  text-kept tree effect t e same file h =
      let q = file.ino in
      let tells : TellsFiles s.tree effect tree = effects_tell_files s.tree is.tree event tree effect e in
      let change = changes s.tree event tree effect e in
      let before : is_file s.tree q ≡ true = file-of_view s.tree is.tree uid file h in
      let now : is_file tree q ≡ true =
      file-of_view tree t uid file (subst (λ (files : List Seen). Has file files) (sym same) h) in
      let left : Texts = without_text effect.dropped s.texts in
      text-with effect.texted text (with_text effect.made [] left) q
      (λ given. texted-unseen s.tree uid event unseen q (ap (λ (x : Effect). x.texted) change.0 ∙ given)
      (view-searchable s.tree is.tree uid file h))
      ∙ text-with effect.made [] left q (λ made. let f : true ≡ false = sym before ∙ change.1.made q made in cc)
      ∙ text-without effect.dropped s.texts q (λ gone. ((tells.files q).0 now).0 gone)

  unseen-accepted : (tree : FileSystem) (effect : Effect) → tree_step s.tree event ≡ Ok (tree, effect)
      → view_of (flushed_if_full flush_at (after_effect s tree effect text)) uid ≡ view_of s uid
  unfolding view_of
  unseen-accepted tree effect e =
      let a = accepted (refusal_of s.tree event) (next s.tree event) tree (effect_of s.tree event) effect e in
      let t : IsTree tree = step_keeps s.tree is.tree event tree effect valid e in
      let same : files_of tree uid ≡ files_of s.tree uid =
      subst (λ (f : FileSystem). files_of f uid ≡ files_of s.tree uid) a.1.0
      (unseen-tree s.tree is.tree uid event (subst IsTree (sym a.1.0) t) a.0 unseen) in
      ap (λ (files : List Seen). map (shown_of (texts_after effect text s.texts)) files) same
      ∙ shown-alike (texts_after effect text s.texts) s.texts (files_of s.tree uid) (text-kept tree effect t e same)

  pub unseen-event : view_of (after_event flush_at s event text) uid ≡ view_of s uid
  unseen-event =
      after_cases flush_at s event text (λ (after : State). view_of after uid ≡ view_of s uid) refl unseen-accepted

-- ---- items

pub unseen-operation : (s : State) (operation : Operation) (uid : ℕ) → view_of (after_operation s operation) uid ≡ view_of s uid
unfolding view_of
unseen-operation s Flush uid = refl
unseen-operation s (Work units) uid = refl
unseen-operation s Stat uid = refl
unseen-operation s Save uid = refl

unseen-item : (flush_at uid : ℕ) (s : State) (said : Said) → IsState s → TellsEvent said → IsUnseenItem uid s said
    → view_of (after flush_at s said) uid ≡ view_of s uid
unseen-item flush_at uid s (Happens event text) is valid unseen = unseen-event flush_at uid s event text is valid unseen
unseen-item flush_at uid s (Asks asker question) is valid unseen = refl
unseen-item flush_at uid s (Operates operation) is valid unseen = unseen-operation s operation uid
unseen-item flush_at uid s (IsRefused why) is valid unseen = refl
unseen-item flush_at uid s SaysNothing is valid unseen = refl

unseen-items : (flush_at uid : ℕ) (s : State) (saids : List Said) → AllByRecursion TellsEvent saids
    → AllByRecursion (λ m. IsState m.0) (met flush_at s saids) → AllByRecursion (λ m. IsUnseenItem uid m.0 m.1) (met flush_at s saids)
    → view_of (last_state flush_at s saids) uid ≡ view_of s uid
unseen-items flush_at uid s [] valid states unseen = refl
unseen-items flush_at uid s (said ∷ saids) valid states unseen =
    unseen-items flush_at uid (after flush_at s said) saids valid.1 states.1 unseen.1
    ∙ unseen-item flush_at uid s said states.0 valid.0 unseen.0

-- while nothing is seen, each item is met with the same view
views-same : (flush_at uid : ℕ) (view : List Shown) (s : State) (saids : List Said) → view_of s uid ≡ view
    → AllByRecursion TellsEvent saids → AllByRecursion (λ m. IsState m.0) (met flush_at s saids)
    → AllByRecursion (λ m. IsUnseenItem uid m.0 m.1) (met flush_at s saids)
    → AllByRecursion (λ m. view_of m.0 uid ≡ view) (met flush_at s saids)
views-same flush_at uid view s [] same valid states unseen = tt
views-same flush_at uid view s (said ∷ saids) same valid states unseen = (
  same,
  views-same flush_at uid view (after flush_at s said) saids
      (unseen-item flush_at uid s said states.0 valid.0 unseen.0 ∙ same) valid.1 states.1 unseen.1,
)

-- a script of which she sees nothing
pub unseen-script : (flush_at uid : ℕ) (read : Reading) (s : State) (bytes : List ℕ) → IsState s
    → AllByRecursion (λ m. IsUnseenItem uid m.0 m.1) (met flush_at s (map (said_of read) (items_of bytes)))
    → view_of (last_state flush_at s (map (said_of read) (items_of bytes))) uid ≡ view_of s uid
unseen-script flush_at uid read s bytes is unseen =
    unseen-items flush_at uid s (map (said_of read) (items_of bytes)) (script_tells read bytes)
    (recursion_from_All (λ (m : Met). IsState m.0) (met flush_at s (map (said_of read) (items_of bytes)))
    (met_states flush_at read s bytes is)) unseen

pub script-views : (flush_at uid : ℕ) (read : Reading) (s : State) (bytes : List ℕ) → IsState s
    → AllByRecursion (λ m. IsUnseenItem uid m.0 m.1) (met flush_at s (map (said_of read) (items_of bytes)))
    → AllByRecursion (λ m. view_of m.0 uid ≡ view_of s uid) (met flush_at s (map (said_of read) (items_of bytes)))
script-views flush_at uid read s bytes is unseen =
    views-same flush_at uid (view_of s uid) s (map (said_of read) (items_of bytes)) refl (script_tells read bytes)
    (recursion_from_All (λ (m : Met). IsState m.0) (met flush_at s (map (said_of read) (items_of bytes)))
    (met_states flush_at read s bytes is)) unseen
