-- Which events leave the store alone.
use Rattle.std.proofs.Common.{◌≡◌, ℕ, ◌+◌, ◌<◌, Bool, true, false, cond, not, List, length, Ok, refl, sym, ◌∙◌, subst, arith}
use Rattle.std.specs.Prelude.{nat_lt}
use Rattle.std.proofs.lemmas.Bool.{and_parts, ltb-true}
use Rattle.wu_tree.specs.declared.events.Event.{Event}
use Rattle.wu_tree.specs.declared.events.Event.TheVariants.{User, Mkdir, Create, Text, Link, Unlink, Rmdir, Rename, Chmod, Chown}
use Rattle.wu_tree.specs.declared.events.Event.TheVariants.{Acl as SetAcl}
use Rattle.wu_tree.specs.declared.events.Effect.{Effect}
use Rattle.wu_tree.specs.FileSystems.{FileSystem}
use Rattle.wu_tree.specs.Steps.{effect_of, no_effect, dropped_at, is_same_node}
use Rattle.wu_tree.specs.Steps.{step as tree_step}
use Rattle.wu_parts.specs.Contents.{Contents}
use Rattle.wu_engine.specs.declared.verdicts.Verdict.TheVariants.{Made}
use Rattle.wu_engine.specs.Indexing.{is_stored, terms_after}
use Rattle.wu_engine.specs.Stands.{gives_text, leaves_store, taken_by}
use Rattle.wu_engine.proofs.FileChanges.{changes}
use Rattle.wu_engine.proofs.SoundLemmas.{length-terms_after}

stored-effect : (fs : FileSystem) (event : Event) (text : List ℕ) → is_stored (effect_of fs event).texted text ≡ gives_text Made event text
stored-effect fs (User uid groups) text = refl
stored-effect fs (Mkdir ino parent name perm) text = refl
stored-effect fs (Create ino parent name perm) text = refl
stored-effect fs (Text ino) text = refl
stored-effect fs (Link ino parent name) text = refl
stored-effect fs (Unlink parent name) text = refl
stored-effect fs (Rmdir parent name) text = refl
stored-effect fs (Rename parent name new_parent new_name) text =
    elim (is_same_node fs parent name new_parent new_name) as
    (λ b. is_stored (cond b no_effect (record no_effect { dropped = dropped_at fs new_parent new_name })).texted text ≡ false) [
      | true ↦ refl
      | false ↦ refl
    ]
stored-effect fs (Chmod ino mode) text = refl
stored-effect fs (Chown ino uid gid) text = refl
stored-effect fs (SetAcl ino acl mask) text = refl

negated : (b : Bool) → not b ≡ true → b ≡ false
negated true h = sym h
negated false h = refl

pub left_alone : (fs : FileSystem) (event : Event) (text : List ℕ) (after : FileSystem) (effect : Effect)
    → tree_step fs event ≡ Ok (after, effect) → (contents : Contents) → leaves_store Made event text contents ≡ true
    → (is_stored effect.texted text ≡ false) × (contents.memory.stored + length (terms_after effect text) < contents.flush_at)
left_alone fs event text after effect e contents leaves =
    let both = and_parts (not (gives_text Made event text)) (nat_lt (contents.memory.stored + taken_by event text) contents.flush_at)
    leaves in
    let stored : is_stored effect.texted text ≡ gives_text Made event text =
    subst (λ (f : Effect). is_stored f.texted text ≡ gives_text Made event text) (changes fs event after effect e).0
    (stored-effect fs event text) in
    let few = ltb-true (contents.memory.stored + taken_by event text) contents.flush_at both.1 in (
      stored ∙ negated (gives_text Made event text) both.0,
      omega (arith, few, length-terms_after fs event text after effect e),
    )
