-- The terms of a region expression: its words and tags.
use Rattle.std.specs.Prelude.{ℕ, List, [], ◌∷◌, ◌++◌, Contains}
use Rattle.std.specs.List.Sorted.{IsStrictlySortedBy}
use Rattle.std.specs.Cmp.Lexicographic.{slice_cmp}
use Rattle.std.specs.Ordering.{nat_cmp}
use Rattle.wu_gcl.specs.declared.expressions.Tag.TheVariants.{FileStart, FileEnd, LineStart, LineEnd}
use Rattle.wu_gcl.specs.Regions.{Region, Phrase, Mark, WholeFile, WholeLine, Window, Both}
use Rattle.wu_gcl.specs.Reading.{tag_text}

-- in the order in which they are named
abbrev pub terms_in : Region → List (List ℕ)
terms_in (Phrase words) = words
terms_in (Mark tag) = tag_text tag ∷ []
terms_in WholeFile = tag_text FileStart ∷ tag_text FileEnd ∷ []
terms_in WholeLine = tag_text LineStart ∷ tag_text LineEnd ∷ []
terms_in (Window n) = []
terms_in (Both op left right) = terms_in left ++ terms_in right

-- these terms and no others, each once, ascending by their bytes
pub record AreTerms (region : Region) (terms : List (List ℕ)) : Type 0 where
  pub ascending : IsStrictlySortedBy (slice_cmp nat_cmp) terms
  pub none_else : (term : List ℕ) → Contains terms term → Contains (terms_in region) term
  pub all : (term : List ℕ) → Contains (terms_in region) term → Contains terms term
