-- What is true of a state at first, and stays true with each event.
use Rattle.std.proofs.Common.{◌≡◌, ℕ, ◌+◌, ◌≤◌, List, [], length, Bool, true, false, cond, Ok, Err, refl, ap, sym, ◌∙◌, subst, arith}
use Rattle.std.specs.Prelude.{Option, Some, None}
use Rattle.wu_base.specs.declared.limits.TheConstants.{TEXT_MAX}
use Rattle.wu_tree.specs.declared.events.Event.{Event}
use Rattle.wu_tree.specs.declared.events.Event.TheVariants.{User, Mkdir, Create, Text, Link, Unlink, Rmdir, Rename, Chmod, Chown}
use Rattle.wu_tree.specs.declared.events.Event.TheVariants.{Acl as SetAcl}
use Rattle.wu_tree.specs.declared.events.Effect.{Effect}
use Rattle.wu_tree.specs.declared.events.Refusal.{Refusal}
use Rattle.wu_tree.specs.FileSystems.{FileSystem}
use Rattle.wu_tree.specs.Steps.{IsEvent, effect_of, no_effect, dropped_at, is_same_node}
use Rattle.wu_tree.specs.Steps.{step as tree_step}
use Rattle.wu_tree.specs.Effects.{TellsFiles}
use Rattle.wu_tree.proofs.EffectLemmas.{effects_tell_files}
use Rattle.wu_tree.proofs.KeptTrees.{step_keeps}
use Rattle.wu_tree.proofs.TreeInvariant.{root_sound}
use Rattle.wu_layout.specs.Layouts.{Layout}
use Rattle.wu_layout.specs.Steps.{flush_if_full}
use Rattle.wu_layout.proofs.Updates.{first_is_layout, layout_after_other}
use Rattle.wu_query.specs.States.{State, IsState}
use Rattle.wu_engine.specs.States.{first_state, flushed_if_full, followed, step, stepped, after_event, texts_after, layout_without}
use Rattle.wu_engine.specs.States.{layout_with, layout_after}
use Rattle.wu_engine.specs.Stands.{taken_by}
use Rattle.wu_engine.specs.Indexing.{is_stored, terms_given}
use Rattle.wu_engine.proofs.FileChanges.{changes}
use Rattle.wu_engine.proofs.FlushedStates.{full_kept, rises-full}
use Rattle.wu_engine.proofs.StateTexts.{texts_kept, short_kept, first_texts, root_files}
use Rattle.wu_engine.proofs.StateLayouts.{layout_kept, text_at}

-- ---- at first

pub first_is_state : IsState first_state
first_is_state = record {
  tree = root_sound.tree;
  texts = first_texts;
  short = λ ino. omega arith;
  layout = layout_after_other (λ ino. false) _ _ _ first_state.layout root_files (λ ino. refl) (first_is_layout (text_at []));
}

-- ---- what an event makes of a state

abbrev pub after_effect : State → FileSystem → Effect → List ℕ → State
after_effect s tree effect text = record {
  tree = tree;
  texts = texts_after effect text s.texts;
  layout = layout_after effect text s.layout;
}

module _ (s : State) (event : Event) (text : List ℕ) where
  pub step-accepted : (tree : FileSystem) (effect : Effect) → tree_step s.tree event ≡ Ok (tree, effect)
      → step s event text ≡ Ok (after_effect s tree effect text)
  unfolding step
  step-accepted tree effect is = ap (stepped text s) is

  pub step-refused : (refusal : Refusal) → tree_step s.tree event ≡ Err refusal → step s event text ≡ Err refusal
  unfolding step
  step-refused refusal is = ap (stepped text s) is

  pub effect_kept : IsState s → IsEvent event → length text ≤ TEXT_MAX → (tree : FileSystem) (effect : Effect)
      → tree_step s.tree event ≡ Ok (tree, effect) → IsState (after_effect s tree effect text)
  effect_kept is valid short tree effect e =
      let tells : TellsFiles s.tree effect tree = effects_tell_files s.tree is.tree event tree effect e in
      record {
        tree = step_keeps s.tree is.tree event tree effect valid e;
        texts = texts_kept s is.texts tree effect text (layout_after effect text s.layout) tells;
        short = short_kept effect text s.texts is.texts.ascend short is.short;
        layout = layout_kept s tree effect tells (changes s.tree event tree effect e).1 text is.layout;
      }

module _ (flush_at : ℕ) (s : State) (event : Event) (text : List ℕ) where
  -- what holds after each accepted event and its flush, and before, holds after the event
  pub after_cases : (P : State → Type 0) → P s
      → ((tree : FileSystem) (effect : Effect) → tree_step s.tree event ≡ Ok (tree, effect)
      → P (flushed_if_full flush_at (after_effect s tree effect text)))
      → P (after_event flush_at s event text)
  after_cases P before accepted =
      elim (tree_step s.tree event) as (λ r. tree_step s.tree event ≡ r → P (after_event flush_at s event text)) [
        | Ok p ↦ λ e. subst P (sym (ap (followed flush_at s) (step-accepted s event text p.0 p.1 e))) (accepted p.0 p.1 e)
        | Err refusal ↦ λ e. subst P (sym (ap (followed flush_at s) (step-refused s event text refusal e))) before
      ] refl

  pub state_kept : IsState s → IsEvent event → length text ≤ TEXT_MAX → IsState (after_event flush_at s event text)
  state_kept is valid short =
      after_cases IsState is
      (λ tree effect e. full_kept flush_at (after_effect s tree effect text) (effect_kept s event text is valid short tree effect e))

-- ---- how far the next address rises

abbrev pub taken_with : Option ℕ → List ℕ → ℕ
taken_with o text = length (terms_given o text)

pub taken-effect : (fs : FileSystem) (event : Event) (text : List ℕ)
    → taken_with (effect_of fs event).made [] + taken_with (effect_of fs event).texted text ≡ taken_by event text
taken-effect fs (User uid groups) text = refl
taken-effect fs (Mkdir ino parent name perm) text = refl
taken-effect fs (Create ino parent name perm) text = omega arith
taken-effect fs (Text ino) text = omega arith
taken-effect fs (Link ino parent name) text = refl
taken-effect fs (Unlink parent name) text = refl
taken-effect fs (Rmdir parent name) text = refl
taken-effect fs (Rename parent name new_parent new_name) text =
    elim (is_same_node fs parent name new_parent new_name) as
    (λ b. taken_with (cond b no_effect (record no_effect { dropped = dropped_at fs new_parent new_name })).made []
    + taken_with (cond b no_effect (record no_effect { dropped = dropped_at fs new_parent new_name })).texted text ≡ 0) [
      | true ↦ refl
      | false ↦ refl
    ]
taken-effect fs (Chmod ino mode) text = refl
taken-effect fs (Chown ino uid gid) text = refl
taken-effect fs (SetAcl ino acl mask) text = refl

next-with : (o : Option ℕ) (text : List ℕ) (layout : Layout) → (layout_with o text layout).next ≡ layout.next + taken_with o text
next-with None text layout = omega arith
next-with (Some ino) text layout = refl

next-without : (o : Option ℕ) (layout : Layout) → (layout_without o layout).next ≡ layout.next
next-without None layout = refl
next-without (Some ino) layout = refl

pub next_rises : (flush_at : ℕ) (s : State) (event : Event) (text : List ℕ)
    → (after_event flush_at s event text).layout.next ≤ s.layout.next + taken_by event text
next_rises flush_at s event text =
    after_cases flush_at s event text (λ t. t.layout.next ≤ s.layout.next + taken_by event text) (omega arith) (λ tree effect e.
    let left : Layout = layout_without effect.dropped s.layout in
    let made : Layout = layout_with effect.made [] left in
    let same : effect_of s.tree event ≡ effect = (changes s.tree event tree effect e).0 in
    let taken : taken_with effect.made [] + taken_with effect.texted text ≡ taken_by event text =
    subst (λ (f : Effect). taken_with f.made [] + taken_with f.texted text ≡ taken_by event text) same (taken-effect s.tree event text) in
    let a : left.next ≡ s.layout.next = next-without effect.dropped s.layout in
    let b : made.next ≡ left.next + taken_with effect.made [] = next-with effect.made [] left in
    let c : (layout_without effect.texted made).next ≡ made.next = next-without effect.texted made in
    let d : (layout_after effect text s.layout).next ≡ (layout_without effect.texted made).next + taken_with effect.texted text =
    next-with effect.texted text (layout_without effect.texted made) in
    let f : (flush_if_full flush_at (layout_after effect text s.layout)).next ≡ (layout_after effect text s.layout).next =
    (rises-full flush_at (layout_after effect text s.layout)).next in
    omega arith)

-- ---- how far the next blob rises

drawn-with : (o : Option ℕ) (text : List ℕ) (layout : Layout) → (layout_with o text layout).blob ≡ layout.blob + cond (is_stored o text) 1 0
drawn-with None text layout = omega arith
drawn-with (Some ino) text layout = refl

drawn-without : (o : Option ℕ) (layout : Layout) → (layout_without o layout).blob ≡ layout.blob
drawn-without None layout = refl
drawn-without (Some ino) layout = refl

pub none-stored : (o : Option ℕ) → is_stored o [] ≡ false
none-stored None = refl
none-stored (Some ino) = refl

at_most_one : (b : Bool) → cond {A = ℕ} b 1 0 ≤ 1
at_most_one true = omega arith
at_most_one false = omega arith

module _ (effect : Effect) (layout : Layout) where
  -- a file that is made has no blob
  pub drawn-made : (layout_without effect.texted (layout_with effect.made [] (layout_without effect.dropped layout))).blob ≡ layout.blob
  drawn-made =
      let left : Layout = layout_without effect.dropped layout in
      let none : cond {A = ℕ} (is_stored effect.made []) 1 0 ≡ 0 = ap (λ (b : Bool). cond {A = ℕ} b 1 0) (none-stored effect.made) in
      omega (
        arith,
        drawn-without effect.texted (layout_with effect.made [] left),
        drawn-with effect.made [] left,
        none,
        drawn-without effect.dropped layout,
      )

  pub drawn-after : (text : List ℕ) → (layout_after effect text layout).blob ≡ layout.blob + cond (is_stored effect.texted text) 1 0
  drawn-after text =
      drawn-with effect.texted text (layout_without effect.texted (layout_with effect.made [] (layout_without effect.dropped layout)))
      ∙ ap (λ (n : ℕ). n + cond (is_stored effect.texted text) 1 0) drawn-made

-- one for the text, and one for the part that a flush makes
pub blob_rises : (flush_at : ℕ) (s : State) (event : Event) (text : List ℕ)
    → (after_event flush_at s event text).layout.blob ≤ s.layout.blob + 2
blob_rises flush_at s event text =
    after_cases flush_at s event text (λ t. t.layout.blob ≤ s.layout.blob + 2) (omega arith)
    (λ tree effect e.
    omega (
      arith,
      (rises-full flush_at (layout_after effect text s.layout)).blob,
      drawn-after effect s.layout text,
      at_most_one (is_stored effect.texted text),
    ))

-- ---- flushes

flushes-with : (o : Option ℕ) (text : List ℕ) (layout : Layout) → (layout_with o text layout).flushes ≡ layout.flushes
flushes-with None text layout = refl
flushes-with (Some ino) text layout = refl

flushes-without : (o : Option ℕ) (layout : Layout) → (layout_without o layout).flushes ≡ layout.flushes
flushes-without None layout = refl
flushes-without (Some ino) layout = refl

pub flushes-after : (effect : Effect) (text : List ℕ) (layout : Layout) → (layout_after effect text layout).flushes ≡ layout.flushes
flushes-after effect text layout =
    flushes-with effect.texted text _ ∙ flushes-without effect.texted _ ∙ flushes-with effect.made [] _
    ∙ flushes-without effect.dropped layout

pub flushes_rise : (flush_at : ℕ) (s : State) (event : Event) (text : List ℕ)
    → (after_event flush_at s event text).layout.flushes ≤ s.layout.flushes + 1
flushes_rise flush_at s event text =
    after_cases flush_at s event text (λ t. t.layout.flushes ≤ s.layout.flushes + 1) (omega arith)
    (λ tree effect e.
    omega (arith, (rises-full flush_at (layout_after effect text s.layout)).flushed, flushes-after effect text s.layout))
