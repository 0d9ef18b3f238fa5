-- Which files there are after an event, by its effect.
use Rattle.std.proofs.Common.{◌≡◌, ℕ, List, Bool, true, false, cond, refl, ap, sym, ◌∙◌, subst, inl, inr, ⊎_elim}
use Rattle.std.specs.Prelude.{Option, Some, None, Ok, ◌&&◌}
use Rattle.std.proofs.lemmas.Bool.{or_parts}
use Rattle.wu_base.proofs.Options.{none_either_way}
use Rattle.wu_tree.specs.declared.events.Event.{Event}
use Rattle.wu_tree.specs.declared.events.Event.TheVariants.{User, Mkdir, Create, Text, Link, Unlink, Rmdir, Rename, Chmod, Chown}
use Rattle.wu_tree.specs.declared.events.Event.TheVariants.{Acl as SetAcl}
use Rattle.wu_tree.specs.declared.events.Effect.{Effect}
use Rattle.wu_tree.specs.FileSystems.{FileSystem, is_file, is_file_node, is_there, is_used, node_of, child_of}
use Rattle.wu_tree.specs.Steps.{create_rules, named, no_effect, dropped_at, is_last_link, is_same_node, refusal_of, next, effect_of}
use Rattle.wu_tree.specs.Steps.{step as tree_step}
use Rattle.wu_tree.specs.Effects.{TellsFiles}
use Rattle.wu_tree.proofs.ParentPaths.{same_number}
use Rattle.wu_tree.proofs.EventRules.{none_applies, accepted, absent, none_some, same_some}
use Rattle.wu_tree.proofs.TreeInvariant.{not_passed}
use Rattle.wu_engine.proofs.NumberedEntries.{is_that}

true_false : true ≡ false → ⊥
true_false h = cc

pub that_is : (o : Option ℕ) (q : ℕ) → is_that o q ≡ true → o ≡ Some q
that_is None q h = absurd cc
that_is (Some ino) q h = ap Some (sym (same_number q ino h))

that_is_not : (o : Option ℕ) (q : ℕ) → is_that o q ≡ false → o ≡ Some q → ⊥
that_is_not None q h e = none_some q e
that_is_not (Some ino) q h e = not_passed q ino h (same_some ino q e)

-- the files without one that is gone, and with one that is made
abbrev pub files_without : Option ℕ → (ℕ → Bool) → ℕ → Bool
files_without o files q = cond (is_that o q) false (files q)

abbrev pub files_with : Option ℕ → (ℕ → Bool) → ℕ → Bool
files_with o files q = cond (is_that o q) true (files q)

not_true : (b : Bool) → (b ≡ true → ⊥) → false ≡ b
not_true true h = absurd (h refl)
not_true false h = refl

same_truth : (b c : Bool) → (b ≡ true → c ≡ true) → (c ≡ true → b ≡ true) → b ≡ c
same_truth true c f g = sym (f refl)
same_truth false c f g = not_true c (λ h. true_false (sym (g h)))

-- a node is a regular file where one was and isn't gone, or one was made
module _ (before after : FileSystem) (effect : Effect) (tells : TellsFiles before effect after) (q : ℕ) where
  by_cases : (made dropped : Bool) → is_that effect.made q ≡ made → is_that effect.dropped q ≡ dropped
      → cond made true (cond dropped false (is_file before q)) ≡ is_file after q
  by_cases true dropped m d =
      let made : effect.made ≡ Some q = that_is effect.made q m in
      sym ((tells.files q).1 (tells.apart q made, inl made))
  by_cases false true m d = not_true (is_file after q) (λ h. ((tells.files q).0 h).0 (that_is effect.dropped q d))
  by_cases false false m d =
      same_truth (is_file before q) (is_file after q) (λ h. (tells.files q).1 (that_is_not effect.dropped q d, inr h))
      (λ h. ⊎_elim (λ e. absurd (that_is_not effect.made q m e)) (λ e. e) ((tells.files q).0 h).1)

  pub files-after : files_with effect.made (files_without effect.dropped (is_file before)) q ≡ is_file after q
  files-after = by_cases (is_that effect.made q) (is_that effect.dropped q) refl refl

  -- a file that is given a text is one already
  pub files-texted : files_with effect.texted (is_file after) q ≡ is_file after q
  files-texted = elim (is_that effect.texted q) as (λ b. is_that effect.texted q ≡ b → cond b true (is_file after q) ≡ is_file after q) [
    | true ↦ λ t. sym (tells.text q (that_is effect.texted q t))
    | false ↦ λ t. refl
  ] refl

-- ---- a file that is dropped was there, and one that is made was not
pub record ChangesFiles (before : FileSystem) (effect : Effect) : Type 0 where
  pub dropped : (ino : ℕ) → effect.dropped ≡ Some ino → is_file before ino ≡ true
  pub made : (ino : ℕ) → effect.made ≡ Some ino → is_file before ino ≡ false

module _ (fs : FileSystem) where
  nothing : ChangesFiles fs no_effect
  nothing = record { dropped = λ q h. absurd (none_some q h); made = λ q h. absurd (none_some q h) }

  dropped_file : (q c : ℕ) (file last : Bool) → is_file fs c ≡ file → cond (file && last) (Some c) None ≡ Some q → is_file fs q ≡ true
  dropped_file q c true true f h = subst (λ x. is_file fs x ≡ true) (same_some c q h) f
  dropped_file q c true false f h = absurd (none_some q h)
  dropped_file q c false last f h = absurd (none_some q h)

  dropped_child : (q : ℕ) (last : Bool) (o : Option ℕ) → cond (is_file fs (named o) && last) o None ≡ Some q → is_file fs q ≡ true
  dropped_child q last None h = absurd (none_some q (sym (none_either_way (is_file fs 0 && last)) ∙ h))
  dropped_child q last (Some c) h = dropped_file q c (is_file fs c) last refl h

  dropped : (parent : ℕ) (name : List ℕ) → ChangesFiles fs (record no_effect { dropped = dropped_at fs parent name })
  dropped parent name = record {
    dropped = λ q h. dropped_child q (is_last_link fs parent name) (child_of fs parent name) h;
    made = λ q h. absurd (none_some q h);
  }

  made : (event : Event) → refusal_of fs event ≡ None → ChangesFiles fs (effect_of fs event)
  made (User uid groups) h = nothing
  made (Mkdir ino parent name perm) h = nothing
  made (Create ino parent name perm) h =
      let a = (none_applies (create_rules fs ino parent name) h).1.1.1 in
      let new : is_there fs ino ≡ false = (or_parts (is_there fs ino) (is_used fs parent name) a.0).0 in
      record {
        dropped = λ q h. absurd (none_some q h);
        made = λ q h. subst (λ x. is_file fs x ≡ false) (same_some ino q h) (ap is_file_node (absent (node_of fs ino) new));
      }
  made (Text ino) h = record { dropped = λ q h. absurd (none_some q h); made = λ q h. absurd (none_some q h) }
  made (Link ino parent name) h = nothing
  made (Unlink parent name) h = dropped parent name
  made (Rmdir parent name) h = nothing
  made (Rename parent name new_parent new_name) h =
      elim (is_same_node fs parent name new_parent new_name) as
      (λ b. ChangesFiles fs (cond b no_effect (record no_effect { dropped = dropped_at fs new_parent new_name }))) [
        | true ↦ nothing
        | false ↦ dropped new_parent new_name
      ]
  made (Chmod ino mode) h = nothing
  made (Chown ino uid gid) h = nothing
  made (SetAcl ino acl mask) h = nothing

  -- what an accepted event's effect is
  pub changes : (event : Event) (after : FileSystem) (effect : Effect) → tree_step fs event ≡ Ok (after, effect)
      → (effect_of fs event ≡ effect) × ChangesFiles fs effect
  changes event after effect h =
      let a = accepted (refusal_of fs event) (next fs event) after (effect_of fs event) effect h in
      (a.1.1, subst (ChangesFiles fs) a.1.1 (made event a.0))
