-- The candidates of a prefix, as they are collected.
use Rattle.std.specs.Prelude.{ℕ, List, [], ◌++◌, filter}
use Rattle.std.specs.Ordering.{nat_cmp}
use Rattle.std.specs.Cmp.Lexicographic.{slice_cmp}
use Rattle.wu_base.specs.SortedOnce.{sorted_once}
use Rattle.wu_terms.specs.Terms.{is_candidate}

-- the prefix, and the words that begin with it among the terms that were added, ascending by bytes, each once
pub record Collection : Type 0 where
  pub prefix : List ℕ
  pub words : List (List ℕ)

abbrev pub no_words : List ℕ → Collection
no_words prefix = record { prefix = prefix; words = [] }

-- more terms were added
abbrev pub with_terms : Collection → List (List ℕ) → Collection
with_terms collection terms = record collection {
  words = sorted_once (slice_cmp nat_cmp) (collection.words ++ filter (is_candidate collection.prefix) terms);
}

-- words in any order, also more than once, as what they are a collection of
abbrev pub collected : List ℕ → List (List ℕ) → Collection
collected prefix words = record { prefix = prefix; words = sorted_once (slice_cmp nat_cmp) words }
