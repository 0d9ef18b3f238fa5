-- A choice of the first units of a ranking.
use Rattle.std.specs.Prelude.{◌≡◌, ℕ, ◌<◌, ◌≤◌, List, length, take, slice_index_or}
use Rattle.std.specs.List.{AllByRecursion}
use Rattle.wu_rank.specs.declared.results.Ranked.{Ranked}
use Rattle.wu_rank.specs.Order.{in_order}

-- The kept units have the same first ones as those seen. These have the least score or a higher one, and above 0 it is known
-- only where as many are seen as are asked for.
pub record IsChoice (count : ℕ) (seen kept : List Ranked) (least : ℕ) : Type 0 where
  pub same : take count (in_order kept) ≡ take count (in_order seen)
  pub reached : AllByRecursion (λ unit. least ≤ unit.score) (take count (in_order seen))
  pub full : 0 < least → count ≤ length seen

-- the unit at the place, where there is one
abbrev pub ranked_or_none : List Ranked → ℕ → Ranked
ranked_or_none ranked place =
    slice_index_or ranked place (record { score = 0; unit = record { extent = record { start = 0; end = 0 }; place = 0 } })
