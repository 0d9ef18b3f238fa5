-- What a sweep of addresses over units asks of both.
use Rattle.std.specs.Prelude.{◌≡◌, ℕ, ◌+◌, ◌≤◌, List, [], ◌∷◌, length, take, drop}
use Rattle.wu_rank.specs.declared.results.Unit.{Unit as RankedUnit}

-- the addresses ascend, and none is below the low one
abbrev pub AscendFrom : ℕ → List ℕ → Type 0
AscendFrom low [] = Unit {0}
AscendFrom low (address ∷ addresses) = (low ≤ address) × AscendFrom (address + 1) addresses

-- neither a start nor an end is below one before it, nor below these
abbrev pub AscendBehind : ℕ → ℕ → List RankedUnit → Type 0
AscendBehind start end [] = Unit {0}
AscendBehind start end (unit ∷ units) =
    (start ≤ unit.extent.start) × (end ≤ unit.extent.end) × AscendBehind unit.extent.start unit.extent.end units

abbrev pub UnitsAscend : List RankedUnit → Type 0
UnitsAscend units = AscendBehind 0 0 units

-- the lengths of parts of the units, one part after the other, each of which ascends
abbrev pub AreRuns : List RankedUnit → List ℕ → Type 0
AreRuns units [] = units ≡ []
AreRuns units (run ∷ runs) = (run ≤ length units) × UnitsAscend (take run units) × AreRuns (drop run units) runs
