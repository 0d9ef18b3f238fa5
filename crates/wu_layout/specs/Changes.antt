-- How files and texts change, and what background work leaves of postings.
use Rattle.std.specs.Prelude.{◌≡◌, ◌≢◌, ◌⊎◌, ℕ, Bool, true, false, IfSome, List, [], ◌∷◌}
use Rattle.wu_layout.specs.Postings.{cut}
use Rattle.wu_layout.specs.Layouts.{Text, Layout, entry_of, postings_of}

-- ---- files and texts

-- after has the value at the number, and elsewhere what before has
pub record DiffersAt {X : Type 0} (number : ℕ) (before after : ℕ → X) (value : X) : Type 0 where
  pub there : after number ≡ value
  pub elsewhere : (n : ℕ) → n ≢ number → after n ≡ before n

-- The file of that number is one no more. The texts of others are as they were.
pub record DropsFile (ino : ℕ) (is_file is_file_after : ℕ → Bool) (text_of text_of_after : ℕ → Text) : Type 0 where
  pub files : DiffersAt ino is_file is_file_after false
  pub texts : (n : ℕ) → n ≢ ino → text_of_after n ≡ text_of n

-- There is one more file, with that text. The texts of others are as they were.
pub record AddsFile (ino : ℕ) (text : Text) (is_file is_file_after : ℕ → Bool) (text_of text_of_after : ℕ → Text) : Type 0 where
  pub absent : is_file ino ≡ false
  pub files : DiffersAt ino is_file is_file_after true
  pub texts : DiffersAt ino text_of text_of_after text

-- ---- postings

-- the first list is the second without some of its items
abbrev pub IsSublist : {X : Type 0} → List X → List X → Type 0
IsSublist [] ys = Unit {0}
IsSublist (x ∷ xs) [] = ⊥
IsSublist (x ∷ xs) (y ∷ ys) = ((x ≡ y) × IsSublist xs ys) ⊎ IsSublist (x ∷ xs) ys

-- Each live posting is still there, and there is none that wasn't there before: so what was dropped doesn't come back.
pub record KeepsLivePostings (before after : Layout) : Type 0 where
  pub files : after.files ≡ before.files
  pub live : (ino : ℕ) → IfSome (entry_of before.files ino) (λ entry.
      cut entry.range (postings_of after.parts after.memory) ≡ cut entry.range (postings_of before.parts before.memory))
  pub none_new : IsSublist (postings_of after.parts after.memory) (postings_of before.parts before.memory)
