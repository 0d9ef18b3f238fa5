-- Pruned ranking: a unit needs weighing only where the words that it holds may lift it among the first ones. The bounds are
-- MaxScore's, over units: H. Turtle and J. Flood, Query evaluation: strategies and optimizations, 1995.
use Rattle.std.specs.Prelude.{ℕ, ◌-◌, ◌*◌, ◌/◌, ◌&&◌, ◌==◌, nat_le, if◌then◌else◌}
use Rattle.std.specs.Prelude.{Option, Some, None, List, [], sum_by, map, filter}
use Rattle.wu_rank.specs.declared.entries.Entry.{Entry}
use Rattle.wu_rank.specs.declared.results.Unit.{Unit as RankedUnit}
use Rattle.wu_rank.specs.Scores.{has, idf_of, holds}
use Rattle.wu_rank.specs.Order.{listed}
use Rattle.wu_rank.specs.Choices.{ranked_or_none}
use Rattle.wu_rank.specs.Entries.{unit_at}

-- ---- what a pruned ranking weighs

-- what the word may add to the score of a unit, by whether the unit holds it: a weight is below k1 + 1 times the inverse
-- document frequency, however often the word is there
unfoldable pub bound_part : {W : Type 0} → (W → RankedUnit → ℕ) → List RankedUnit → RankedUnit → W → ℕ
bound_part count units unit word = if has count word unit then 22 * idf_of count units word / 10 else 0

-- the sum over the query's words, repeats counted
unfoldable pub bound : {W : Type 0} → (W → RankedUnit → ℕ) → List RankedUnit → List W → RankedUnit → ℕ
bound count units words unit = sum_by (bound_part count units unit) words

-- the score of the k-th unit of the ranking, from 1, and 0 where fewer are listed
unfoldable pub last_score : {W : Type 0} → (W → RankedUnit → ℕ) → List RankedUnit → List W → ℕ → ℕ
last_score count units words k = (ranked_or_none (listed count units words) (k - 1)).score

-- The listed units whose bound is at least the last score that is shown, in the order of the units: all others have
-- a lower score than each that is shown. Where nothing is shown, there are none.
unfoldable pub reaching : {W : Type 0} → (W → RankedUnit → ℕ) → List RankedUnit → List W → ℕ → List RankedUnit
reaching count units words k =
    if k == 0 then
    []
    else
    filter (λ unit. holds count words unit && nat_le (last_score count units words k) (bound count units words unit)) units

-- ---- how it goes

-- the unit's bound, where it is listed
abbrev pub bound_if_listed : {W : Type 0} → (W → RankedUnit → ℕ) → List RankedUnit → List W → RankedUnit → Option ℕ
bound_if_listed count units words unit = if holds count words unit then Some (bound count units words unit) else None

-- a bound in place of the count
abbrev pub bounded : ℕ → Entry → Entry
bounded most entry = record { unit = entry.unit; value = most }

-- the units of the entries whose value is the least one or a higher one
abbrev pub reaching_at : List RankedUnit → ℕ → List Entry → List RankedUnit
reaching_at units least some =
    map (λ entry. unit_at units entry.unit) (filter (λ entry. nat_le least entry.value) some)
