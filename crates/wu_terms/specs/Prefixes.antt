-- The prefix that a field asks for: it is empty, or one run, which is made a word as a run of a text is.
use Rattle.std.specs.Prelude.{ℕ, Bool, List, [], ◌∷◌, Option, Some, None, if◌then◌else◌}
use Rattle.std.specs.List.{list_all}
use Rattle.wu_token.specs.Words.{is_word_byte, word_of}

-- the bytes are one run, where there are some: each of them belongs to a word
abbrev pub is_run : List ℕ → Bool
is_run bytes = list_all is_word_byte bytes

-- the prefix, where the field asks for one
abbrev pub prefix_in : List ℕ → Option (List ℕ)
prefix_in [] = Some []
prefix_in (byte ∷ field) = if is_run (byte ∷ field) then Some (word_of (byte ∷ field)) else None
