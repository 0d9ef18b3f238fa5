-- The texts of a state are those of its regular files, and none is too long: at first, and after each event.
use Rattle.std.proofs.Common.{◌≡◌, ◌≢◌, ℕ, ◌≤◌, List, [], length, Bool, true, false, cond, refl, ap, sym, ◌∙◌, subst, arith}
use Rattle.std.specs.Prelude.{Option, Some, None, unwrap_or}
use Rattle.std.specs.Ordering.{is_eq, nat_cmp}
use Rattle.std.specs.Cmp.{nat_cmp_total}
use Rattle.std.specs.List.Sorted.{IsStrictlySortedBy}
use Rattle.std.specs.Map.{keys_of, lookup, remove_entry}
use Rattle.std.specs.BTreeMap.{is_at, insert_entry}
use Rattle.wu_base.specs.declared.limits.TheConstants.{TEXT_MAX}
use Rattle.wu_base.proofs.MapEntries.{ascend-insert_entry, ascend-remove_entry, lookup-insert_entry, lookup-remove_other, number_itself}
use Rattle.wu_tree.specs.declared.events.Effect.{Effect}
use Rattle.wu_tree.specs.declared.events.Kind.TheVariants.{Directory}
use Rattle.wu_tree.specs.declared.events.Node.{Node}
use Rattle.wu_tree.specs.FileSystems.{FileSystem, is_file, is_file_node}
use Rattle.wu_tree.specs.Effects.{TellsFiles}
use Rattle.wu_tree.proofs.ParentPaths.{other_number, same_number}
use Rattle.wu_tree.proofs.TreeInvariant.{not_passed}
use Rattle.wu_tree.proofs.LinkRemovals.{apart_from}
use Rattle.wu_layout.specs.Layouts.{Layout}
use Rattle.wu_query.specs.States.{State, Texts, AreShort, HasTheTexts, has_text, text_in}
use Rattle.wu_engine.specs.States.{first_state, without_text, with_text, texts_after}
use Rattle.wu_engine.proofs.NumberedEntries.{is_that, has-put, has-removed, none-removed}
use Rattle.wu_engine.proofs.FileChanges.{files-after, files-texted}

-- ---- which texts there are after a change

has_with : (o : Option ℕ) (text : List ℕ) (texts : Texts) (q : ℕ)
    → has_text (with_text o text texts) q ≡ cond (is_that o q) true (has_text texts q)
has_with None text texts q = refl
has_with (Some ino) text texts q = has-put texts ino text q

has_without : (o : Option ℕ) (texts : Texts) (q : ℕ) → IsStrictlySortedBy nat_cmp (keys_of texts)
    → has_text (without_text o texts) q ≡ cond (is_that o q) false (has_text texts q)
has_without None texts q s = refl
has_without (Some ino) texts q s = has-removed texts ino s q

ascend_with : (o : Option ℕ) (text : List ℕ) (texts : Texts) → IsStrictlySortedBy nat_cmp (keys_of texts)
    → IsStrictlySortedBy nat_cmp (keys_of (with_text o text texts))
ascend_with None text texts s = s
ascend_with (Some ino) text texts s = ascend-insert_entry nat_cmp_total texts ino text s

ascend_without : (o : Option ℕ) (texts : Texts) → IsStrictlySortedBy nat_cmp (keys_of texts)
    → IsStrictlySortedBy nat_cmp (keys_of (without_text o texts))
ascend_without None texts s = s
ascend_without (Some ino) texts s = ascend-remove_entry nat_cmp (is_at (nat_cmp ino)) texts s

module _ (s : State) (has : HasTheTexts s) where
  pub texts_kept : (after : FileSystem) (effect : Effect) (text : List ℕ) (layout : Layout) → TellsFiles s.tree effect after
      → HasTheTexts (record { tree = after; texts = texts_after effect text s.texts; layout = layout })
  texts_kept after effect text layout tells =
      let left : Texts = without_text effect.dropped s.texts in
      let made : Texts = with_text effect.made [] left in
      record {
        ascend = ascend_with effect.texted text made (ascend_with effect.made [] left (ascend_without effect.dropped s.texts has.ascend));
        files = λ q.
            has_with effect.texted text made q
            ∙ ap (cond (is_that effect.texted q) true)
            (has_with effect.made [] left q
            ∙ ap (cond (is_that effect.made q) true) (has_without effect.dropped s.texts q has.ascend
            ∙ ap (cond (is_that effect.dropped q) false) (has.files q))
            ∙ files-after s.tree after effect tells q)
            ∙ files-texted s.tree after effect tells q;
      }

-- ---- the text of a number after a change

default_cond : (b : Bool) (text : List ℕ) (o : Option (List ℕ)) → unwrap_or (cond b (Some text) o) [] ≡ cond b text (unwrap_or o [])
default_cond true text o = refl
default_cond false text o = refl

module _ (texts : Texts) (ino : ℕ) where
  text_put : (text : List ℕ) (q : ℕ) → text_in (insert_entry nat_cmp texts ino text) q ≡ cond (is_eq (nat_cmp q ino)) text (text_in texts q)
  text_put text q = ap (λ (o : Option (List ℕ)). unwrap_or o []) (lookup-insert_entry nat_cmp_total texts ino text q)
      ∙ default_cond (is_eq (nat_cmp q ino)) text (lookup (is_at (nat_cmp q)) texts)

  pub text-there : (text : List ℕ) → text_in (insert_entry nat_cmp texts ino text) ino ≡ text
  text-there text = text_put text ino ∙ ap (λ (b : Bool). cond b text (text_in texts ino)) (number_itself ino)

  pub text-elsewhere : (text : List ℕ) (q : ℕ) → q ≢ ino → text_in (insert_entry nat_cmp texts ino text) q ≡ text_in texts q
  text-elsewhere text q h = text_put text q ∙ ap (λ (b : Bool). cond b text (text_in texts q)) (other_number q ino h)

  pub text-left : (q : ℕ) → q ≢ ino → text_in (remove_entry (is_at (nat_cmp ino)) texts) q ≡ text_in texts q
  text-left q h = ap (λ (o : Option (List ℕ)). unwrap_or o [])
      (lookup-remove_other (is_at (nat_cmp q)) (is_at (nat_cmp ino)) (λ k p. apart_from ino q k h p) texts)

-- ---- none is too long

short_cond : (b : Bool) (text other : List ℕ) → length text ≤ TEXT_MAX → length other ≤ TEXT_MAX → length (cond b text other) ≤ TEXT_MAX
short_cond true text other l m = l
short_cond false text other l m = m

short_with : (o : Option ℕ) (text : List ℕ) (texts : Texts) → length text ≤ TEXT_MAX → AreShort texts → AreShort (with_text o text texts)
short_with None text texts l s = s
short_with (Some ino) text texts l s = λ q.
    subst (λ (t : List ℕ). length t ≤ TEXT_MAX) (sym (text_put texts ino text q))
    (short_cond (is_eq (nat_cmp q ino)) text (text_in texts q) l (s q))

short_without : (o : Option ℕ) (texts : Texts) → IsStrictlySortedBy nat_cmp (keys_of texts) → AreShort texts
    → AreShort (without_text o texts)
short_without None texts sorted s = s
short_without (Some ino) texts sorted s = λ q.
    elim (is_eq (nat_cmp q ino)) as
    (λ b. is_eq (nat_cmp q ino) ≡ b → length (text_in (remove_entry (is_at (nat_cmp ino)) texts) q) ≤ TEXT_MAX) [
      | true ↦ λ e.
          let none : text_in (remove_entry (is_at (nat_cmp ino)) texts) q ≡ [] =
          ap (text_in (remove_entry (is_at (nat_cmp ino)) texts)) (same_number q ino e)
          ∙ ap (λ (o : Option (List ℕ)). unwrap_or o []) (none-removed texts ino sorted) in
          subst (λ (t : List ℕ). length t ≤ TEXT_MAX) (sym none) (omega arith)
      | false ↦ λ e.
          subst (λ (t : List ℕ). length t ≤ TEXT_MAX) (sym (text-left texts ino q (λ h. not_passed q ino e (sym h)))) (s q)
    ] refl

pub short_kept : (effect : Effect) (text : List ℕ) (texts : Texts) → IsStrictlySortedBy nat_cmp (keys_of texts) → length text ≤ TEXT_MAX
    → AreShort texts → AreShort (texts_after effect text texts)
short_kept effect text texts sorted l s =
    short_with effect.texted text (with_text effect.made [] (without_text effect.dropped texts)) l
    (short_with effect.made [] (without_text effect.dropped texts) (omega arith) (short_without effect.dropped texts sorted s))

-- ---- the root directory alone

abbrev root_node : Node
root_node = record { kind = Directory; perm = record { uid = 0; gid = 0; mode = 0x1ED } }

no_file : (b : Bool) → is_file_node (cond b (Some root_node) None) ≡ false
no_file true = refl
no_file false = refl

pub root_files : (q : ℕ) → is_file first_state.tree q ≡ false
root_files q = no_file (is_eq (nat_cmp q 1))

pub first_texts : HasTheTexts first_state
unfolding IsStrictlySortedBy
first_texts = record { ascend = tt; files = λ q. sym (root_files q) }
