-- The layout of a state is one of its files and texts after each event.
use Rattle.std.proofs.Common.{◌≡◌, ℕ, List, [], Bool, true, false, cond, refl, ap, sym}
use Rattle.std.specs.Prelude.{Option, Some, None}
use Rattle.std.specs.Ordering.{nat_cmp}
use Rattle.std.specs.Map.{remove_entry}
use Rattle.std.specs.BTreeMap.{is_at, insert_entry}
use Rattle.wu_base.proofs.MapEntries.{number_itself}
use Rattle.wu_tree.specs.declared.events.Effect.{Effect}
use Rattle.wu_tree.specs.FileSystems.{FileSystem, is_file}
use Rattle.wu_tree.specs.Effects.{TellsFiles}
use Rattle.wu_tree.proofs.ParentPaths.{other_number}
use Rattle.wu_layout.specs.Layouts.{Text, Layout}
use Rattle.wu_layout.specs.Changes.{DiffersAt}
use Rattle.wu_layout.specs.Invariants.{IsLayoutOf}
use Rattle.wu_layout.proofs.Updates.{layout_after_release, layout_after_place, layout_after_text, layout_after_other}
use Rattle.wu_query.specs.States.{State, Texts, text_in, indexed}
use Rattle.wu_engine.specs.States.{without_text, with_text, texts_after, layout_without, layout_with, layout_after}
use Rattle.wu_engine.proofs.NumberedEntries.{is_that}
use Rattle.wu_engine.proofs.FileChanges.{ChangesFiles, files_without, files_with, files-after}
use Rattle.wu_engine.proofs.StateTexts.{text-there, text-elsewhere, text-left}

-- what the index is given of the file of that number
abbrev pub text_at : Texts → ℕ → Text
text_at texts ino = indexed (text_in texts ino)

module _ (texts : Texts) (ino : ℕ) where
  put_differs : (text : List ℕ) → DiffersAt ino (text_at texts) (text_at (insert_entry nat_cmp texts ino text)) (indexed text)
  put_differs text = record {
    there = ap indexed (text-there texts ino text);
    elsewhere = λ q h. ap indexed (text-elsewhere texts ino text q h);
  }

module _ (files : ℕ → Bool) (ino : ℕ) where
  without_differs : DiffersAt ino files (files_without (Some ino) files) false
  without_differs = record {
    there = ap (λ (b : Bool). cond b false (files ino)) (number_itself ino);
    elsewhere = λ q h. ap (λ (b : Bool). cond b false (files q)) (other_number q ino h);
  }

  with_differs : DiffersAt ino files (files_with (Some ino) files) true
  with_differs = record {
    there = ap (λ (b : Bool). cond b true (files ino)) (number_itself ino);
    elsewhere = λ q h. ap (λ (b : Bool). cond b true (files q)) (other_number q ino h);
  }

-- ---- one change

pub layout_dropped : (o : Option ℕ) (files : ℕ → Bool) (texts : Texts) (layout : Layout) → IsLayoutOf files (text_at texts) layout
    → IsLayoutOf (files_without o files) (text_at (without_text o texts)) (layout_without o layout)
layout_dropped None files texts layout d = d
layout_dropped (Some ino) files texts layout d =
    layout_after_release files (files_without (Some ino) files) (text_at texts) (text_at (remove_entry (is_at (nat_cmp ino)) texts)) layout ino
    (record { files = without_differs files ino; texts = λ q h. ap indexed (text-left texts ino q h) }) d

layout_made : (o : Option ℕ) (text : List ℕ) (files : ℕ → Bool) (texts : Texts) (layout : Layout)
    → ((ino : ℕ) → o ≡ Some ino → files ino ≡ false) → IsLayoutOf files (text_at texts) layout
    → IsLayoutOf (files_with o files) (text_at (with_text o text texts)) (layout_with o text layout)
layout_made None text files texts layout new d = d
layout_made (Some ino) text files texts layout new d =
    layout_after_place files (files_with (Some ino) files) (text_at texts) (text_at (insert_entry nat_cmp texts ino text)) layout ino (indexed text)
    (record { absent = new ino refl; files = with_differs files ino; texts = put_differs texts ino text }) d

layout_texted : (o : Option ℕ) (text : List ℕ) (files : ℕ → Bool) (texts : Texts) (layout : Layout)
    → ((ino : ℕ) → o ≡ Some ino → files ino ≡ true) → IsLayoutOf files (text_at texts) layout
    → IsLayoutOf files (text_at (with_text o text texts)) (layout_with o text (layout_without o layout))
layout_texted None text files texts layout there d = d
layout_texted (Some ino) text files texts layout there d =
    layout_after_text files (text_at texts) (text_at (insert_entry nat_cmp texts ino text)) layout ino (indexed text) (there ino refl)
    (put_differs texts ino text) d

-- ---- an accepted event

-- a number that was no file, or was dropped, is none
pub not_there : (dropped : Option ℕ) (files : ℕ → Bool) (q : ℕ) → files q ≡ false → files_without dropped files q ≡ false
not_there dropped files q f = elim (is_that dropped q) as (λ b. cond b false (files q) ≡ false) [ true ↦ refl | false ↦ f ]

module _ (s : State) (after : FileSystem) (effect : Effect) (tells : TellsFiles s.tree effect after) (changes : ChangesFiles s.tree effect)
    (text : List ℕ) where
  abbrev left : ℕ → Bool
  left = files_without effect.dropped (is_file s.tree)

  abbrev left_texts : Texts
  left_texts = without_text effect.dropped s.texts

  abbrev left_layout : Layout
  left_layout = layout_without effect.dropped s.layout

  abbrev made_texts : Texts
  made_texts = with_text effect.made [] left_texts

  abbrev made_layout : Layout
  made_layout = layout_with effect.made [] left_layout

  module _ (d : IsLayoutOf (is_file s.tree) (text_at s.texts) s.layout) where
    -- after the file that is gone
    pub left_kept : IsLayoutOf left (text_at left_texts) left_layout
    left_kept = layout_dropped effect.dropped (is_file s.tree) s.texts s.layout d

    pub made_absent : (ino : ℕ) → effect.made ≡ Some ino → left ino ≡ false
    made_absent ino h = not_there effect.dropped (is_file s.tree) ino (changes.made ino h)

    -- and after the one that is made
    pub made_kept : IsLayoutOf (is_file after) (text_at made_texts) made_layout
    made_kept =
        layout_after_other (files_with effect.made left) (is_file after) (text_at made_texts) (text_at made_texts) made_layout
        (λ q. sym (files-after s.tree after effect tells q)) (λ q. refl)
        (layout_made effect.made [] left left_texts left_layout made_absent left_kept)

    pub layout_kept : IsLayoutOf (is_file after) (text_at (texts_after effect text s.texts)) (layout_after effect text s.layout)
    layout_kept = layout_texted effect.texted text (is_file after) made_texts made_layout tells.text made_kept
