-- What a query asks, and which queries can be answered.
use Rattle.std.specs.Prelude.{ℕ, ◌≤◌, Bool, List, length}
use Rattle.wu_base.specs.declared.limits.TheConstants.{K_MAX, RANK_WORDS_MAX}
use Rattle.wu_gcl.specs.Regions.{Region, region_of, IsProper}
use Rattle.wu_ask.specs.declared.Ask.{Ask}
use Rattle.wu_ask.specs.declared.Ask.TheVariants as asks

-- what a query asks; an expression stands as what it says
pub data Question : Type 0 where
  Counting : (region : Region) → Question
  Finding : (k : ℕ) (region : Region) → Question
  Ranking : (k : ℕ) (unit : Region) (words : List (List ℕ)) → Question
  ListingPaths : Question
  ListingTerms : (k : ℕ) (prefix : List ℕ) (top : Bool) → Question
  Exporting : Question
  Weighing : (k : ℕ) (unit : Region) (words : List (List ℕ)) → Question

abbrev pub question_of : Ask → Question
question_of (asks.Count expr) = Counting (region_of expr)
question_of (asks.Find k expr) = Finding k (region_of expr)
question_of (asks.Rank k unit words) = Ranking k (region_of unit) words
question_of asks.Paths = ListingPaths
question_of (asks.Terms k prefix top) = ListingTerms k prefix top
question_of asks.Export = Exporting
question_of (asks.Weighed k unit words) = Weighing k (region_of unit) words

-- from 1 to RANK_WORDS_MAX words, repeats counted
abbrev pub IsWordCount : ℕ → Type 0
IsWordCount count = (1 ≤ count) × (count ≤ RANK_WORDS_MAX)

-- a question that can be answered: each phrase of its expression has a word, and each window an address;
-- K_MAX regions or words at most are shown; a ranking is by 1 to RANK_WORDS_MAX words
abbrev pub IsSound : Question → Type 0
IsSound (Counting region) = IsProper region
IsSound (Finding k region) = (k ≤ K_MAX) × IsProper region
IsSound (Ranking k unit words) = (k ≤ K_MAX) × IsProper unit × IsWordCount (length words)
IsSound ListingPaths = Unit {0}
IsSound (ListingTerms k prefix top) = k ≤ K_MAX
IsSound Exporting = Unit {0}
IsSound (Weighing k unit words) = (k ≤ K_MAX) × IsProper unit × IsWordCount (length words)

-- the query asks such a question
abbrev pub IsSoundAsk : Ask → Type 0
IsSoundAsk ask = IsSound (question_of ask)
