-- A search in a directory for the terms from one on.
use Rattle.std.specs.Prelude.{ℕ, Bool, List, [], ◌∷◌, not, false}
use Rattle.std.specs.Cmp.Lexicographic.{slice_cmp}
use Rattle.std.specs.Ordering.{is_lt, nat_cmp}
use Rattle.wu_part.specs.declared.entries.TermEntry.{TermEntry}

-- the entry's term doesn't stand before this one
abbrev pub is_from : List ℕ → TermEntry → Bool
is_from term entry = not (is_lt (slice_cmp nat_cmp entry.term term))

-- there is a first entry, and its term stands before this one
abbrev pub begins_before : List ℕ → List TermEntry → Bool
begins_before term [] = false
begins_before term (entry ∷ later) = is_lt (slice_cmp nat_cmp entry.term term)
