-- What a ranking lists, and the scores. How often a word is in a unit is told by a function of the word and the unit, so that
-- the scores are the same whether words are counted among tokens or by the addresses at which they stand.
use Rattle.std.specs.Prelude.{◌≡◌, ℕ, ◌+◌, ◌-◌, ◌^◌, ◌<◌, ◌≤◌, Option, Some, None, Bool, ◌&&◌, ◌==◌, nat_le, nat_lt, if◌then◌else◌, List}
use Rattle.std.specs.Prelude.{length, count_by, sum_by, map, filter}
use Rattle.std.specs.List.{All, list_any}
use Rattle.std.specs.List.Sorted.{IsStrictlyIncreasing}
use Rattle.wu_base.specs.declared.addresses.Extent.{Extent}
use Rattle.wu_base.specs.declared.addresses.TermList.{TermList}
use Rattle.wu_base.specs.declared.limits.TheConstants.{RANK_WORDS_MAX}
use Rattle.wu_log2.specs.Logarithm.{lg}
use Rattle.wu_rank.specs.declared.results.Unit.{Unit as RankedUnit}
use Rattle.wu_rank.specs.declared.results.Ranked.{Ranked}
use Rattle.wu_rank.specs.Bm25.{weigh}

-- how many addresses the extent has
abbrev pub length_of : Extent → ℕ
length_of extent = extent.end + 1 - extent.start

-- the summed length of the units
unfoldable pub total_length : List RankedUnit → ℕ
total_length units = sum_by (λ unit. length_of unit.extent) units

-- ---- words, counted by a function

-- whether the word is in the unit
abbrev pub has : {W : Type 0} → (W → RankedUnit → ℕ) → W → RankedUnit → Bool
has count word unit = nat_lt 0 (count word unit)

-- in how many of the units the word is
unfoldable pub holders : {W : Type 0} → (W → RankedUnit → ℕ) → List RankedUnit → W → ℕ
holders count units word = count_by (has count word) units

-- the inverse document frequency of the word, and 0 for a word that no unit holds
unfoldable pub idf_of : {W : Type 0} → (W → RankedUnit → ℕ) → List RankedUnit → W → ℕ
idf_of count units word = if holders count units word == 0 then 0 else lg (length units) - lg (holders count units word)

-- what the word adds to a unit's score, and 0 for a word that no unit holds
unfoldable pub part : {W : Type 0} → (W → RankedUnit → ℕ) → List RankedUnit → RankedUnit → W → ℕ
part count units unit word =
    if holders count units word == 0 then
    0
    else
    weigh (idf_of count units word) (count word unit) (length_of unit.extent) (length units) (total_length units)

-- the sum over the query's words, repeats counted
unfoldable pub score : {W : Type 0} → (W → RankedUnit → ℕ) → List RankedUnit → List W → RankedUnit → ℕ
score count units words unit = sum_by (part count units unit) words

-- whether the unit holds a query word
unfoldable pub holds : {W : Type 0} → (W → RankedUnit → ℕ) → List W → RankedUnit → Bool
holds count words unit = list_any (λ word. has count word unit) words

abbrev pub scored : {W : Type 0} → (W → RankedUnit → ℕ) → List RankedUnit → List W → RankedUnit → Ranked
scored count units words unit = record { score = score count units words unit; unit = unit }

-- the units that hold a query word, each with its score
unfoldable pub all_listed : {W : Type 0} → (W → RankedUnit → ℕ) → List RankedUnit → List W → List Ranked
all_listed count units words = map (scored count units words) (filter (holds count words) units)

-- the unit's score, where it is listed
abbrev pub score_if_listed : {W : Type 0} → (W → RankedUnit → ℕ) → List RankedUnit → List W → RankedUnit → Option ℕ
score_if_listed count units words unit = if holds count words unit then Some (score count units words unit) else None

-- ---- words, counted in lists of addresses

-- whether the address is one of the extent's
abbrev pub lies_in : Extent → ℕ → Bool
lies_in extent address = nat_le extent.start address && nat_le address extent.end

-- how many of the addresses the extent has
unfoldable pub frequency : Extent → List ℕ → ℕ
frequency extent addresses = count_by (lies_in extent) addresses

-- how often the word of the list is in the unit
abbrev pub count_at : TermList → RankedUnit → ℕ
count_at list unit = frequency unit.extent list.at

-- what a ranking of the units asks: lists that ascend, one for each query word and at most RANK_WORDS_MAX, units shorter
-- than 2^26, and, where there is a unit, their number n and their summed length t
pub record CanRank (units : List RankedUnit) (lists : List TermList) (n t : ℕ) : Type 0 where
  pub statistics : 0 < length units → (n ≡ length units) × (t ≡ total_length units)
  pub short : All (λ unit. length_of unit.extent < 2 ^ 26) units
  pub few : length lists ≤ RANK_WORDS_MAX
  pub ascending : All (λ word. IsStrictlyIncreasing word.at) lists
