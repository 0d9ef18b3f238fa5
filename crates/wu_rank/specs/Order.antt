-- The order of a ranking.
use Rattle.std.specs.Prelude.{Bool, if◌then◌else◌, ℕ, List, []}
use Rattle.std.specs.List.{fold}
use Rattle.std.specs.List.Sorted.{IsPermutation, IsSortedBy}
use Rattle.std.specs.BTreeSet.{insert_key}
use Rattle.std.specs.Ordering.{nat_cmp, ordering_then, is_lt}
use Rattle.std.specs.declared.cmp.Ordering.{Ordering}
use Rattle.std.specs.declared.cmp.Ordering.TheVariants.{Less, Greater}
use Rattle.wu_rank.specs.declared.results.Unit.{Unit as RankedUnit}
use Rattle.wu_rank.specs.declared.results.Ranked.{Ranked}
use Rattle.wu_rank.specs.Scores.{all_listed}

-- by score, falling, then by place, then by start; and by end, where one place has two units with one start
unfoldable pub compare_ranked : Ranked → Ranked → Ordering
compare_ranked a b =
    ordering_then
    (ordering_then
    (ordering_then (nat_cmp b.score a.score) (nat_cmp a.unit.place b.unit.place))
    (nat_cmp a.unit.extent.start b.unit.extent.start))
    (nat_cmp a.unit.extent.end b.unit.extent.end)

unfoldable pub comes_before : Ranked → Ranked → Bool
comes_before a b = is_lt (compare_ranked a b)

-- the same units, sorted by that order
pub record IsInOrder (units ranking : List Ranked) : Type 0 where
  pub same : IsPermutation units ranking
  pub sorted : IsSortedBy comes_before ranking

-- before those that it comes before, after all others
abbrev pub kept_apart : Ranked → Ranked → Ordering
kept_apart a b = if comes_before a b then Less else Greater

-- The units in order: what an ordered set holds into which they are put one after the other, equal ones kept apart.
-- It is the one list that `IsInOrder` allows.
unfoldable pub in_order : List Ranked → List Ranked
in_order units = fold (insert_key kept_apart) [] units

-- the units that hold a query word, the best first
unfoldable pub listed : {W : Type 0} → (W → RankedUnit → ℕ) → List RankedUnit → List W → List Ranked
listed count units words = in_order (all_listed count units words)
