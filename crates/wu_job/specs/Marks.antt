-- Marks, one bit each.
use Rattle.std.specs.Prelude.{ℕ, zero, suc, ◌/◌, ◌%◌, ◌≡◌, ◌==◌, Bool, List, [], ◌∷◌, length, get_or}
use Rattle.std.specs.Int.{bit_at, div_ceil}
use Rattle.wu_job.specs.declared.marks.Marks.TheInside as inside

-- whether the bit of the place is set, where each word has 64 of them
abbrev pub is_set : List ℕ → ℕ → Bool
is_set words place = bit_at (get_or words (place / 64) 0) (place % 64) == 1

-- the marks of so many places from that one on
abbrev pub marks_from : List ℕ → ℕ → ℕ → List Bool
marks_from words place zero = []
marks_from words place (suc count) = is_set words place ∷ marks_from words (suc place) count

abbrev pub marks_of : inside.Inside → List Bool
marks_of marks = marks_from marks.words.items 0 marks.count

-- there are as many words as the places need
abbrev pub HasWords : inside.Inside → Type 0
HasWords marks = length marks.words.items ≡ div_ceil marks.count 64
