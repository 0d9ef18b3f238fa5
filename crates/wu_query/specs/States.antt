-- The state: a file tree, the texts of its files, and the layout of the index over them.
use Rattle.std.specs.Prelude.{◌≡◌, ℕ, ◌≤◌, Bool, List, [], length, is_some, unwrap_or}
use Rattle.std.specs.Ordering.{nat_cmp}
use Rattle.std.specs.List.Sorted.{IsStrictlySortedBy}
use Rattle.std.specs.Map.{keys_of, lookup}
use Rattle.std.specs.BTreeMap.{is_at}
use Rattle.wu_base.specs.declared.limits.TheConstants.{TEXT_MAX}
use Rattle.wu_layout.specs.Layouts.{Text, Layout}
use Rattle.wu_layout.specs.Invariants.{IsLayoutOf}
use Rattle.wu_token.specs.Words.{has_bytes}
use Rattle.wu_token.specs.Tokens.{tokens_of}
use Rattle.wu_tree.specs.Rules.{IsTree}
use Rattle.wu_tree.specs.FileSystems.{FileSystem, is_file}

-- texts by the number of their file, in the order of the numbers
abbrev pub Texts : Type 0
Texts = List (ℕ × List ℕ)

-- a file system, the texts of exactly its files, and how these are indexed
pub record State : Type 0 where
  pub tree : FileSystem
  pub texts : Texts
  pub layout : Layout

-- the text of a file, and no text of what is no file
abbrev pub text_in : Texts → ℕ → List ℕ
text_in texts ino = unwrap_or (lookup (is_at (nat_cmp ino)) texts) []

-- ---- the index

-- what the index is given of a text: its tokens
abbrev pub indexed : List ℕ → Text
indexed text = record { terms = tokens_of text; has_bytes = has_bytes text }

-- ---- what is always true

-- no text is longer than a text may be
abbrev pub AreShort : Texts → Type 0
AreShort texts = (ino : ℕ) → length (text_in texts ino) ≤ TEXT_MAX

-- whether there is a text of that number
abbrev pub has_text : Texts → ℕ → Bool
has_text texts ino = is_some (lookup (is_at (nat_cmp ino)) texts)

-- the texts of a state are those of its regular files
pub record HasTheTexts (s : State) : Type 0 where
  -- their numbers ascend, without repeats
  pub ascend : IsStrictlySortedBy nat_cmp (keys_of s.texts)
  -- there is a text of a number exactly where that is the number of a regular file
  pub files : (ino : ℕ) → has_text s.texts ino ≡ is_file s.tree ino

-- what is true of a state at each moment: the rules of the tree, texts of exactly its files, none too long, and all of them indexed
pub record IsState (s : State) : Type 0 where
  pub tree : IsTree s.tree
  pub texts : HasTheTexts s
  pub short : AreShort s.texts
  pub layout : IsLayoutOf (is_file s.tree) (λ ino. indexed (text_in s.texts ino)) s.layout
