-- Which terms a query asks for, and which blocks of parts these need.
use Rattle.std.specs.Prelude.{◌≡◌, ℕ, Bool, List, [], ◌∷◌, ◌++◌, nat_eq, zip, if◌then◌else◌}
use Rattle.std.specs.Cmp.Lexicographic.{pointwise, slice_cmp}
use Rattle.std.specs.List.{flat_map, list_any}
use Rattle.std.specs.Map.{keys_of}
use Rattle.std.specs.Ordering.{nat_cmp}
use Rattle.wu_base.specs.SortedOnce.{sorted_once}
use Rattle.wu_base.specs.declared.addresses.Range.{Range}
use Rattle.wu_gcl.specs.Extents.{hits}
use Rattle.wu_gcl.specs.Regions.{Region, Phrase}
use Rattle.wu_gcl.specs.Terms.{terms_in}
use Rattle.wu_terms.specs.Terms.{words_with}
use Rattle.wu_ask.specs.Questions.{Question, Counting, Finding, Ranking, ListingPaths, ListingTerms, Exporting, Weighing}
use Rattle.wu_lists.specs.declared.blocks.Block.{Block}
use Rattle.wu_lists.specs.Keeping.{all_missing}
use Rattle.wu_parts.specs.Contents.{Contents}
use Rattle.wu_parts.specs.Holdings.{all_needed}

-- the terms of an expression, ascending by their bytes, each once
abbrev pub terms_of : Region → List (List ℕ)
terms_of region = sorted_once (slice_cmp nat_cmp) (terms_in region)

-- the term is the expression's only one, and its extents are those of the phrase of that term
pub record IsTermAlone (region : Region) (term : List ℕ) : Type 0 where
  pub named : terms_in region ≡ term ∷ []
  pub same : (stands : List ℕ → ℕ → Bool) (n : ℕ) → hits (Phrase (term ∷ [])) stands n ≡ hits region stands n

-- the word after the terms, where it isn't one of them
abbrev pub with_word : List (List ℕ) → List ℕ → List (List ℕ)
with_word terms word = if list_any (pointwise nat_eq word) terms then terms else terms ++ word ∷ []

-- the words after the terms, each once, but for those that are among the terms
abbrev pub with_words : List (List ℕ) → List (List ℕ) → List (List ℕ)
with_words terms [] = terms
with_words terms (word ∷ words) = with_words (with_word terms word) words

-- The terms that a question asks for, in turn, of an index with these terms: those of its expression, and for a ranking then those of
-- its words that aren't among these, in the order of their first occurrence; for a list of terms the index's words with the prefix.
abbrev pub terms_asked : List (List ℕ) → Question → List (List ℕ)
terms_asked terms (Counting region) = terms_of region
terms_asked terms (Finding k region) = terms_of region
terms_asked terms (Ranking k unit words) = with_words (terms_of unit) words
terms_asked terms ListingPaths = []
terms_asked terms (ListingTerms k prefix top) = words_with prefix terms
terms_asked terms Exporting = []
terms_asked terms (Weighing k unit words) = with_words (terms_of unit) words

-- the blocks that frames need of these terms: term by term, and part by part from left to right
abbrev pub blocks_for : Contents → List Range → List (List ℕ) → List Block
blocks_for parts frames terms = flat_map (λ term. all_needed (zip parts.parts parts.directories) term frames) terms

-- those of them that are read: they aren't kept when their turn comes
abbrev pub blocks_read : Contents → List Range → List (List ℕ) → List Block
blocks_read parts frames terms = all_missing parts.kept.cap (keys_of parts.kept.entries) (blocks_for parts frames terms)
