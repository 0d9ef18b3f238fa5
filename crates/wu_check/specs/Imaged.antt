-- The state of which a store holds an image, as far as a checker can tell: how its texts are indexed, and what is counted of it.
use Rattle.std.specs.Prelude.{◌≡◌, ℕ, ◌+◌, ◌≤◌, Bool, true, List, is_some, length, sum_by}
use Rattle.std.specs.Ordering.{nat_cmp}
use Rattle.std.specs.List.{AllByRecursion}
use Rattle.std.specs.List.Sorted.{IsStrictlySortedBy}
use Rattle.std.specs.Map.{keys_of, lookup}
use Rattle.std.specs.BTreeMap.{is_at}
use Rattle.wu_base.specs.declared.addresses.PartRec.{PartRec}
use Rattle.wu_base.specs.declared.limits.TheConstants.{TEXT_MAX}
use Rattle.wu_layout.specs.Invariants.{IsLayoutOf}
use Rattle.wu_layout.specs.Layouts.{Layout, Part, Text, postings_of}
use Rattle.wu_layout.specs.Postings.{Ascend, cut, placed_from}
use Rattle.wu_outside.specs.Content.{Content}
use Rattle.wu_token.specs.Tokens.{tokens_of}
use Rattle.wu_token.specs.Words.{has_bytes}
use Rattle.wu_tree.specs.FileSystems.{FileSystem, is_file}
use Rattle.wu_tree.specs.Rules.{IsTree}
use Rattle.wu_image.specs.declared.records.FileRec.{FileRec}
use Rattle.wu_image.specs.Images.{HoldsPart, Texts, text_held, text_of}
use Rattle.wu_image.specs.LayoutRules.{lies_in}
use Rattle.wu_check.specs.declared.checking.Checked.{Checked}
use Rattle.wu_check.specs.declared.checking.Checked.TheVariants.{Sound}

-- what an index is given of a text: its tokens
abbrev pub given : List ℕ → Text
given text = record { terms = tokens_of text; has_bytes = has_bytes text }

-- the layout is one of these files with these texts
abbrev pub IndexesTexts : (ℕ → Bool) → Texts → Layout → Type 0
IndexesTexts is_file texts layout = IsLayoutOf is_file (λ ino. given (text_of texts ino)) layout

-- A tree, texts and a layout of one state: the tree keeps its rules, there are texts of exactly its regular files, in the order of
-- their numbers and none too long, and the layout is one of these files with these texts.
pub record AreOfOneState (tree : FileSystem) (texts : Texts) (layout : Layout) : Type 0 where
  pub rules : IsTree tree
  pub ascend : IsStrictlySortedBy nat_cmp (keys_of texts)
  pub of_files : (ino : ℕ) → is_some (lookup (is_at (nat_cmp ino)) texts) ≡ is_file tree ino
  pub short : (ino : ℕ) → length (text_of texts ino) ≤ TEXT_MAX
  pub indexed : IndexesTexts (is_file tree) texts layout

-- the files, the addresses in their ranges, the postings in parts and in memory, and the parts
abbrev pub counts_in : Layout → Checked
counts_in layout =
    Sound (length layout.files) (sum_by (λ file. file.1.range.len) layout.files) (length (postings_of layout.parts layout.memory))
    (length layout.parts)

-- The recorded blob is the part, whose postings ascend within its span. At the range of each text that lies within the span stand the
-- text's tokens in their order, and nothing else.
pub record HasPostings (content : Content) (files : List FileRec) (recorded : PartRec) (part : Part) : Type 0 where
  pub held : HoldsPart content part recorded
  pub ascend : Ascend recorded.low (recorded.high + 1) part.postings
  pub texts : AllByRecursion
      (λ file. lies_in file.range recorded ≡ true
      → cut file.range part.postings ≡ placed_from file.range.start (tokens_of (text_held content file))) files
